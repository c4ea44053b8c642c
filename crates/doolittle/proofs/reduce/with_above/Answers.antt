-- `reduce::with_above` meets its contract. Assumes nothing.
use Rattle.std.proofs.Common.{◌≡◌, ◌∙◌, ap, arith, rules, ℤ, ◌+ℤ◌, FitsSigned, w64, to_z}
use Rattle.std.proofs.lemmas.Int.{ints, to_z-of_z}
use Rattle.exact.specs.Sum.{sum}
use Rattle.doolittle.specs.Inner.{cell}
use Rattle.doolittle.proofs.Sizes.{carried_size, parts_size}
use Rattle.doolittle.proofs.Reducing.{parts_none, parts_more}
use Rattle.doolittle.proofs.reduce.with_above.Invariants.{part}
use Rattle.doolittle.proofs.reduce.with_above.Goals as goal

pub loop-i-init : goal.loop-i-init
loop-i-init c = parts_none _ (part c.args.rows.now c.args.j c.args.k)

pub plus_carried-s-requires : goal.plus_carried-s-requires
plus_carried-s-requires c =
    let a = c.args in let i = c.loop-i.i in let rows = a.rows.now in let w = c.requires.above in let f = c.ranges.x in
    let m : FitsSigned w64 (cell rows a.j i) = search rules in let y : FitsSigned w64 (cell rows i a.k) = search rules in
    let s : to_z w64 c.loop-i.s-bits ≡ a.x +ℤ sum i (part rows a.j a.k) = simp to_z-of_z at c.loop-i.invariant in (
      omega (
        arith,
        ints,
        s,
        parts_size a.x i 2560000000 4000000000001 (part rows a.j a.k) c.requires.places.2 (omega arith)
            (λ h l. carried_size (cell rows a.j h) (cell rows h a.k) 4000000000 (w h (omega arith)).0 (w h (omega arith)).1),
      ),
      omega (arith, ints, (w i (omega arith)).0),
      omega (arith, ints, (w i (omega arith)).1),
    )

pub loop-i-preserved : goal.loop-i-preserved
loop-i-preserved c =
    let a = c.args in let i = c.loop-i.i in let rows = a.rows.now in
    let m : FitsSigned w64 (cell rows a.j i) = search rules in let y : FitsSigned w64 (cell rows i a.k) = search rules in
    let r : FitsSigned w64 c.plus_carried-s.result = search rules in
    to_z-of_z w64 c.plus_carried-s.result r ∙ (simp to_z-of_z at c.plus_carried-s.ensures)
    ∙ ap (λ (z : ℤ). z +ℤ part rows a.j a.k i) c.loop-i.invariant ∙ parts_more _ (part rows a.j a.k) i
