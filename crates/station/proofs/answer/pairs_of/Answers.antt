-- `answer::pairs_of` meets its contract: a count of positions is at most 16. Assumes nothing.
use Rattle.std.proofs.Common.{◌≡◌, ◌∙◌, sym, ap, arith, Bool, ℕ, ◌*◌, ◌≤◌, nat_abs}
use Rattle.std.proofs.lemmas.Int.{ints}
use Rattle.station.specs.SumWhere.{sum_where}
use Rattle.station.specs.Table.{one}
use Rattle.station.specs.Means.{seen, P}
use Rattle.station.proofs.Selecting.{where_none, where_taken, where_passed, where_size}
use Rattle.station.proofs.answer.pairs_of.Goals as goal
use Rattle.station.proofs.answer.pairs_of.Goals.{Start, then-seen, else-seen}

-- which positions have the object
module _ (s : Start) where
  abbrev has : ℕ → Bool
  has k = seen s.args.table.now.count k s.args.object

  size : (i : ℕ) → nat_abs (sum_where i has one) ≤ i * 1
  size i = where_size has one i 1 (λ k h. omega arith)

pub loop-position-init : goal.loop-position-init
loop-position-init c = sym (where_none (has c) one)

pub overflow_add-pairs : goal.overflow_add-pairs
overflow_add-pairs c = let s = (goal.at.overflow_add-pairs c).Start in omega (arith, ints, size s c.loop-position.position)

pub loop-position-preserved : goal.loop-position-preserved
loop-position-preserved c =
    let s = (goal.at.loop-position-preserved c).Start in let i = c.loop-position.position in let few = size s i in
    elim c.if-seen.branch [
      | then-seen w ↦ let more = where_taken (has s) one i (sym c.seen.ensures ∙ w.if-seen.true) in omega (arith, ints)
      | else-seen w ↦ let same = where_passed (has s) one i (sym c.seen.ensures ∙ w.if-seen.false) in omega (arith, ints)
    ]

pub returns : goal.returns
unfolding P
returns c = let s = (goal.at.returns c).Start in let q : c.loop-position.position ≡ 16 = omega arith in c.loop-position.invariant ∙ ap (λ (k : ℕ). sum_where k (has s) one) q
