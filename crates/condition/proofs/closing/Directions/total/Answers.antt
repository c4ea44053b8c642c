-- `condition::closing::Directions::total`: the terms passed are summed, and their sum is small.
use Rattle.std.proofs.Common.{◌≡◌, ℕ, ◌+◌, ◌≤◌, ℤ, ◌+ℤ◌, arith, rules}
use Rattle.std.specs.Prelude.{nat_abs}
use Rattle.std.proofs.lemmas.Int.{ints}
use Rattle.exact.specs.Sum.{sum}
use Rattle.exact.proofs.Sum.{sum_more}
use Rattle.condition.specs.Terms.{part}
use Rattle.condition.specs.Listed.{listed}
use Rattle.condition.proofs.Parts.{total_size}
use Rattle.condition.proofs.closing.Directions.total.Goals as goal
use Rattle.condition.proofs.closing.Directions.total.Goals.{After-part-total}

module _ (c : After-part-total) where
  -- what a term adds
  abbrev adds : ℕ → ℤ
  adds j = let a = c.args in part a.self.values.now (listed a.terms j)

  one : c.part-total.result ≡ adds c.loop-j.j
  one = rw (← c.at.ensures) c.part-total.ensures

  so_far : c.loop-j.total ≡ sum c.loop-j.j adds
  so_far = search rules

  next : c.loop-j.total +ℤ c.part-total.result ≡ sum (c.loop-j.j + 1) adds
  next = rw (sum_more, ← one) (λ d. so_far d +ℤ c.part-total.result)

  small : nat_abs (c.loop-j.total +ℤ c.part-total.result) ≤ 15552000000
  small = rw next (total_size c.args.self.values.now _ (c.loop-j.j + 1) _ (omega (arith, c.args.terms.lists.few)) (λ i l. c.requires i (omega arith)))

pub overflow_add-total : goal.overflow_add-total
overflow_add-total c = omega (arith, ints, small c)

pub loop-j-preserved : goal.loop-j-preserved
loop-j-preserved c = let fits = overflow_add-total c in rw (← next c) (search rules)
