-- `reduce::is_weak` meets its contract. Assumes nothing.
use Rattle.std.proofs.Common.{◌≡◌, sym, ◌∙◌, arith, rules, ℕ, ◌≤◌, false, ltb, List, length, ℤ, pos, nat_abs, FitsSigned, w64}
use Rattle.std.proofs.lemmas.Int.{ints, to_z-of_z}
use Rattle.std.proofs.Math.Nat.{le_refl}
use borrow.Author.Tests.{ltb-false}
use Rattle.exact.proofs.Searching.{from_none, some_in_slice}
use Rattle.doolittle.specs.Table.{at}
use Rattle.doolittle.specs.Solution.{low_pivot}
use Rattle.doolittle.specs.Inner.{From}
use Rattle.doolittle.proofs.Weakness.{large_d, weak_by_coefficient, weak_by_constant, weak_by_low, weak_by_multiplier, high_pivot}
use Rattle.doolittle.proofs.reduce.is_weak.Goals as goal
use Rattle.doolittle.proofs.reduce.is_weak.Goals.{After-some_beyond, then-some_beyond-via-then-some_beyond, then-some_beyond-via-else-some_beyond+then-magnitude-gt4000000000, then-some_beyond-via-else-some_beyond+else-magnitude-gt4000000000+then-is_low}

-- what the first test tells of a row that passes it
small : (n j : ℕ) (row : List ℤ) → large_d n j (at row) ≡ false → From j n (λ k. nat_abs (at row k) ≤ 2560000000)
small n j row e k h l = ltb-false 2560000000 (nat_abs (at row k)) (from_none n j (λ k. ltb 2560000000 (nat_abs (at row k))) e k h l)

-- the first test
found : (c : After-some_beyond) → c.some_beyond.result ≡ large_d c.args.n c.args.j (at c.args.row)
found c =
    let n = c.args.n in let j = c.args.j in let row = c.args.row in let long : length row ≡ 25 = search rules in
    c.some_beyond.ensures ∙ some_in_slice row j n (λ x. ltb 2560000000 (nat_abs x)) (pos 0) (omega arith) (omega arith)

pub is_low-requires : goal.is_low-requires
is_low-requires c =
    let j = c.args.j in let f : FitsSigned w64 (at c.args.row j) = search rules in
    omega (arith, ints, small c.args.n j c.args.row (sym (found (goal.at.is_low-requires c).After-some_beyond) ∙ c.if-some_beyond.false) j (le_refl j) c.requires.0)

pub returns-then-some_beyond-clause-value : goal.returns-then-some_beyond-clause-value
returns-then-some_beyond-clause-value c =
    let n = c.args.n in let j = c.args.j in let row = c.args.row in let f = c.ranges.entry in
    elim c.then-some_beyond.branch [
      | then-some_beyond-via-then-some_beyond w ↦ sym (weak_by_coefficient n j c.args.entry (at row) (at row 24) (sym (found (goal.at.returns-then-some_beyond-clause-value c).After-some_beyond) ∙ w.if-some_beyond.true))
      | then-some_beyond-via-else-some_beyond+then-magnitude-gt4000000000 w ↦
          let l : FitsSigned w64 (at row 24) = search rules in
          sym (weak_by_constant n j c.args.entry (at row) (at row 24) (rw (simp to_z-of_z at w.magnitude.ensures) at w.if-magnitude-gt4000000000.true))
      | then-some_beyond-via-else-some_beyond+else-magnitude-gt4000000000+then-is_low w ↦
          let p : FitsSigned w64 (at row j) = search rules in
          sym (weak_by_low n j c.args.entry (at row) (at row 24) (sym (simp to_z-of_z at w.is_low.ensures) ∙ w.if-is_low.true))
    ]

pub multiply-requires-clause-own : goal.multiply-requires-clause-own
multiply-requires-clause-own c =
    let n = c.args.n in let j = c.args.j in let row = c.args.row in let f = c.ranges.entry in let p : FitsSigned w64 (at row j) = search rules in
    let high : low_pivot (at row j) c.args.entry ≡ false = sym (simp to_z-of_z at c.is_low.ensures) ∙ c.if-is_low.false in
    (small n j row (sym (found (goal.at.multiply-requires-clause-own c).After-some_beyond) ∙ c.if-some_beyond.false), (high_pivot (at row j) c.args.entry high).0)

pub returns-clause-value : goal.returns-clause-value
returns-clause-value c =
    let n = c.args.n in let j = c.args.j in let row = c.args.row in let f = c.ranges.entry in
    let l : FitsSigned w64 (at row 24) = search rules in let p : FitsSigned w64 (at row j) = search rules in
    c.multiply.ensures.value
    ∙ sym (weak_by_multiplier n j c.args.entry (at row) (at row 24) (sym (found (goal.at.returns-clause-value c).After-some_beyond) ∙ c.if-some_beyond.false)
    (rw (simp to_z-of_z at c.magnitude.ensures) at c.if-magnitude-gt4000000000.false) (sym (simp to_z-of_z at c.is_low.ensures) ∙ c.if-is_low.false))
