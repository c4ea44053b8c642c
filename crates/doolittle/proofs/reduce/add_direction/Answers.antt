-- `reduce::add_direction` meets its contract. Assumes nothing.
use Rattle.std.proofs.Common.{◌≡◌, ◌∙◌, ap, arith, rules, ℕ, ◌+◌, ◌≤◌, length, pos, nat_abs, ◌+ℤ◌, ◌*ℤ◌, FitsSigned, w64, to_z, of_z}
use Rattle.std.proofs.Math.Nat.{le_refl}
use Rattle.std.proofs.lemmas.Int.{ints, to_z-of_z}
use Rattle.exact.proofs.Filling.{filled_more}
use Rattle.doolittle.specs.Table.{at}
use Rattle.doolittle.specs.Lent.{table_in}
use Rattle.doolittle.proofs.Sizes.{product_size, next_row}
use Rattle.doolittle.proofs.reduce.add_direction.Invariants.{added}
use Rattle.doolittle.proofs.reduce.add_direction.Goals as goal

pub plus_product-requires : goal.plus_product-requires
plus_product-requires c =
    let a = c.args in let s = a.table.sound in let k = c.loop-k.k in let w = c.loop-k.invariant.1 in let t = table_in a.table in let i = c.requires.touched.1 in
    let y = at a.table.a.now (c.loop-k.to + a.i) in
    let y_is : y ≡ t.a k a.i = ap (λ (h : ℕ). at a.table.a.now (h + a.i)) c.loop-k.invariant.0 in
    let y_small : nat_abs y ≤ 2000 = rw y_is (s.a_most k (omega arith) a.i i) in
    let f : FitsSigned w64 (t.q a.i) = search rules in let g : FitsSigned w64 (t.a a.j a.i) = search rules in
    let h : FitsSigned w64 c.weighted-gx.result = search rules in
    let u : FitsSigned w64 (at c.loop-k.row k) = search rules in let v : FitsSigned w64 y = search rules in
    let x = s.a_most a.j c.requires.touched.0 a.i i in
    let p : nat_abs (t.q a.i *ℤ t.a a.j a.i) ≤ 20000 = product_size (t.q a.i) (t.a a.j a.i) {A = 10} {B = 2000} (s.q_most a.i i) x in (
      omega (arith, ints, w.rest k (le_refl k), c.requires.entries k w.begun (omega arith)),
      omega (arith, ints, simp to_z-of_z at c.weighted-gx.ensures),
      omega (arith, ints, y_small),
    )

pub loop-k-preserved : goal.loop-k-preserved
loop-k-preserved c =
    let a = c.args in let k = c.loop-k.k in let w = c.loop-k.invariant.1 in let t = table_in a.table in
    let y = at a.table.a.now (c.loop-k.to + a.i) in
    let y_is : y ≡ t.a k a.i = ap (λ (h : ℕ). at a.table.a.now (h + a.i)) c.loop-k.invariant.0 in
    let f : FitsSigned w64 (t.q a.i) = search rules in let g : FitsSigned w64 (t.a a.j a.i) = search rules in
    let h : FitsSigned w64 c.weighted-gx.result = search rules in
    let u : FitsSigned w64 (at c.loop-k.row k) = search rules in let v : FitsSigned w64 y = search rules in
    let r : FitsSigned w64 c.plus_product.result = search rules in
    let gx : c.weighted-gx.result ≡ t.q a.i *ℤ t.a a.j a.i = simp to_z-of_z at c.weighted-gx.ensures in
    let sum : c.plus_product.result ≡ at c.loop-k.row k +ℤ c.weighted-gx.result *ℤ y = simp to_z-of_z at c.plus_product.ensures in (
      next_row k (length a.table.q.now) c.loop-k.invariant.0,
      filled_more (pos 0) (added t a.j a.i a.row.now) a.j k a.row.now c.loop-k.row (to_z w64 (of_z w64 c.plus_product.result)) (omega (arith, c.told-row, a.table.sound.n_most)) w
          (to_z-of_z w64 c.plus_product.result r ∙ sum ∙ (λ d. w.rest k (le_refl k) d +ℤ gx d *ℤ y_is d)),
    )

pub returns : goal.returns
returns c =
    let v = c.loop-k.invariant.1 in record { coefficients = λ h e f. v.done h e (omega arith); constant = v.rest 24 (omega (arith, c.args.table.sound.n_most)) }
