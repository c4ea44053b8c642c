-- `correlate::correlate` meets its contract. Assumes nothing.
use Rattle.std.proofs.Common.{◌≡◌, ◌∙◌, ap, ap₂, ◌<◌, ◌≤◌, nat_abs, arith, rules, ℕ, suc, ◌+◌, ◌-◌, ℤ, pos, neg_ℤ, ◌+ℤ◌, ◌*ℤ◌, FitsSigned, w64, to_z, of_z}
use Rattle.std.proofs.lemmas.Int.{ints, to_z-of_z}
use Rattle.exact.specs.Sum.{sum}
use Rattle.exact.specs.Nearest.{nearest}
use Rattle.doolittle.specs.Table.{at}
use Rattle.doolittle.specs.Solution.{carried}
use Rattle.doolittle.specs.Inner.{cell}
use Rattle.doolittle.proofs.Sizes.{carried_size, own_size, parts_size}
use Rattle.doolittle.proofs.Reducing.{parts_none, parts_more}
use Rattle.doolittle.proofs.correlate.correlate.Invariants.{part}
use Rattle.doolittle.proofs.correlate.correlate.Goals as goal

pub loop-e-init : goal.loop-e-init
loop-e-init c =
    let j = c.args.j in let f = part c.args.rows.now c.args.k.now j in let i : 0 ≡ j + 1 - suc j = omega arith in
    let own = to_z w64 (of_z w64 c.by_pivot-s.result) in
    parts_none own f ∙ ap (λ (b : ℕ). own +ℤ sum b f) i

pub plus_carried-s-requires : goal.plus_carried-s-requires
plus_carried-s-requires c =
    let a = c.args in let j = a.j in let e = c.loop-e.e in let rows = a.rows.now in let k = a.k.now in let w = c.requires.row in
    let own : ℤ = nearest (neg_ℤ (pos 10000 *ℤ cell rows j 24)) (cell rows j j) in
    let l : FitsSigned w64 (cell rows j 24) = search rules in let p : FitsSigned w64 (cell rows j j) = search rules in
    let r : FitsSigned w64 c.by_pivot-s.result = search rules in
    let x : FitsSigned w64 (cell rows e j) = search rules in let y : FitsSigned w64 (at k e) = search rules in
    let own_is : c.by_pivot-s.result ≡ own = simp to_z-of_z at c.by_pivot-s.ensures in
    let own_small : nat_abs c.by_pivot-s.result ≤ 40000000000001 = rw own_is (own_size (cell rows j 24) (cell rows j j) w.constant w.pivot) in
    let m_small : (h : ℕ) → (j < h) × (h < a.n) → nat_abs (cell rows h j) ≤ 1000000000 = λ h b. w.multipliers h (omega arith) (omega arith) in
    let k_small : (h : ℕ) → (j < h) × (h < a.n) → nat_abs (at k h) ≤ 100000000 = λ h b. c.requires.below h (omega arith) (omega arith) in
    let s : to_z w64 c.loop-e.s-bits ≡ c.by_pivot-s.result +ℤ sum (e - suc j) (part rows k j) = simp to_z-of_z at c.loop-e.invariant in (
      omega (
        arith,
        ints,
        s,
        parts_size c.by_pivot-s.result (e - suc j) 40000000000001 100000000001 (part rows k j) own_small (omega arith)
            (λ h b. carried_size (cell rows (suc j + h) j) (at k (suc j + h)) 100000000 (m_small (suc j + h) (omega arith, omega arith)) (k_small (suc j + h) (omega arith, omega arith))),
      ),
      omega (arith, ints, m_small e (omega arith, omega arith)),
      omega (arith, ints, k_small e (omega arith, omega arith)),
    )

pub loop-e-preserved : goal.loop-e-preserved
loop-e-preserved c =
    let a = c.args in let j = a.j in let e = c.loop-e.e in let rows = a.rows.now in let k = a.k.now in
    let x : FitsSigned w64 (cell rows e j) = search rules in let y : FitsSigned w64 (at k e) = search rules in
    let r : FitsSigned w64 c.plus_carried-s.result = search rules in let own = to_z w64 (of_z w64 c.by_pivot-s.result) in
    let h = e - suc j in let i : e ≡ suc j + h = omega arith in let next : h + 1 ≡ e + 1 - suc j = omega arith in
    to_z-of_z w64 c.plus_carried-s.result r ∙ (simp to_z-of_z at c.plus_carried-s.ensures)
    ∙ (λ d. c.loop-e.invariant d +ℤ carried (cell rows (i d) j) (at k (i d)))
    ∙ parts_more own (part rows k j) h ∙ ap (λ (b : ℕ). own +ℤ sum b (part rows k j)) next

pub returns : goal.returns
returns c =
    let a = c.args in let j = a.j in let rows = a.rows.now in let i : c.loop-e.e ≡ a.n = omega arith in
    let l : FitsSigned w64 (cell rows j 24) = search rules in let p : FitsSigned w64 (cell rows j j) = search rules in
    let r : FitsSigned w64 c.by_pivot-s.result = search rules in
    c.loop-e.invariant
    ∙ ap₂ (λ (z : ℤ) (e : ℕ). z +ℤ sum (e - suc j) (part rows a.k.now j)) (to_z-of_z w64 c.by_pivot-s.result r ∙ simp to_z-of_z at c.by_pivot-s.ensures) i
