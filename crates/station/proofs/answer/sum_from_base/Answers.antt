-- `answer::sum_from_base` meets its contract: each e lies within a circle. Assumes nothing.
use Rattle.std.proofs.Common.{◌≡◌, ◌∙◌, sym, ap, arith, Bool, ℕ, ◌*◌, ◌≤◌, ℤ, nat_abs}
use Rattle.std.proofs.lemmas.Int.{ints}
use Rattle.station.specs.SumWhere.{sum_where}
use Rattle.station.specs.Means.{seen, e, sum_of_e}
use Rattle.station.proofs.Figures.{e_size}
use Rattle.station.proofs.Selecting.{where_none, where_taken, where_passed, where_size}
use Rattle.station.proofs.answer.sum_from_base.Goals as goal
use Rattle.station.proofs.answer.sum_from_base.Goals.{Start, then-seen, else-seen}

-- which positions have the object, and e of each
module _ (s : Start) where
  abbrev has : ℕ → Bool
  has k = seen s.args.table.now.count k s.args.object

  abbrev off : ℕ → ℤ
  off k = e s.args.table.now.count s.args.table.now.sums k s.args.object

  each : (k : ℕ) → nat_abs (off k) ≤ 1296000000
  each k = e_size s.args.table.now.count s.args.table.now.sums k s.args.object

  size : (i : ℕ) → nat_abs (sum_where i has off) ≤ i * 1296000000
  size i = where_size has off i 1296000000 (λ k h. each k)

pub loop-position-init : goal.loop-position-init
loop-position-init c = sym (where_none (has c) (off c))

pub overflow_add-total : goal.overflow_add-total
overflow_add-total c = let s = (goal.at.overflow_add-total c).Start in omega (arith, ints, size s c.loop-position.position, each s c.loop-position.position)

pub loop-position-preserved : goal.loop-position-preserved
loop-position-preserved c =
    let s = (goal.at.loop-position-preserved c).Start in let i = c.loop-position.position in let few = size s i in let one = each s i in
    elim c.if-seen.branch [
      | then-seen w ↦ let more = where_taken (has s) (off s) i (sym c.seen.ensures ∙ w.if-seen.true) in omega (arith, ints)
      | else-seen w ↦ let same = where_passed (has s) (off s) i (sym c.seen.ensures ∙ w.if-seen.false) in omega (arith, ints)
    ]

pub returns : goal.returns
unfolding sum_of_e
returns c =
    let s = (goal.at.returns c).Start in let q : c.loop-position.position ≡ 16 = omega arith in c.loop-position.invariant ∙ ap (λ (k : ℕ). sum_where k (has s) (off s)) q
