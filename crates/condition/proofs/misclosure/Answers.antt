-- `condition::misclosure` meets its promise: the checks, then w by the kind of condition, then its range. Assumes nothing.
use Rattle.std.proofs.Common.{◌∙◌, rules, ◌≤◌, arith}
use Rattle.std.specs.Prelude.{nat_abs}
use Rattle.std.proofs.lemmas.Int.{ints}
use Rattle.exact.proofs.Bound.{read}
use Rattle.condition.specs.Rules.{Lent, lent}
use Rattle.condition.specs.Listed.{Passed}
use Rattle.condition.specs.Terms.{part}
use Rattle.condition.proofs.Accepting.{accepted}
use Rattle.condition.proofs.Parts.{total_size}
use Rattle.condition.proofs.Shares.{passed_sound, passed_sum}
use Rattle.condition.proofs.Answering.{misclosure_refused, misclosed}
use Rattle.condition.proofs.misclosure.Goals as goal
use Rattle.condition.proofs.misclosure.Goals.{After-total-total}

pub returns-in_err-terms : goal.returns-in_err-terms
returns-in_err-terms c = misclosure_refused {why = c.in_err-terms.field-0.0} (search rules) (rw (read c.ranges.target) at c.in_err-terms.ensures)

pub invariant_of-directions : goal.invariant_of-directions
invariant_of-directions c = record { small = (accepted _ c.in_ok-terms.ensures.checked).directions }

pub total-total-requires : goal.total-total-requires
total-total-requires c = passed_sound c.in_ok-terms.ensures

-- ---- w, as the rule has it, and its size
module _ (c : After-total-total) where
  abbrev l : Lent
  l = let a = c.args in lent a.directions.now a.q.now a.kind a.target a.kinds.now a.values.now a.d.now a.i.now a.k.now

  abbrev passed : Passed l c.in_ok-terms.terms
  passed = rw (read c.ranges.target) at c.in_ok-terms.ensures

  small : nat_abs c.total-total.result ≤ 15552000000
  small = rw c.total-total.ensures (total_size _ _ _ _ c.in_ok-terms.terms.lists.few (passed_sound passed))

pub overflow_sub-total : goal.overflow_sub-total
overflow_sub-total c =
    let t = (goal.at.overflow_sub-total c).After-total-total in
    let target : nat_abs c.args.target ≤ 15552000000 = (accepted (l t) (passed t).checked).target c.in-Angle.is in omega (arith, ints, small t)

pub overflow_mul-total : goal.overflow_mul-total
overflow_mul-total c = omega (arith, ints, small (goal.at.overflow_mul-total c).After-total-total)

pub returns-in-Angle : goal.returns-in-Angle
returns-in-Angle c =
    let t = (goal.at.returns-in-Angle c).After-total-total in
    misclosed (passed t).checked c.in-Angle.is (c.total-total.ensures ∙ passed_sum (passed t) (part c.args.directions.now))
    (search (rules, read (overflow_sub-total c.before)))

pub returns-in-Side : goal.returns-in-Side
returns-in-Side c =
    let t = (goal.at.returns-in-Side c).After-total-total in
    misclosed (passed t).checked c.in-Side.is (c.total-total.ensures ∙ passed_sum (passed t) (part c.args.directions.now))
    (search (rules, read (overflow_mul-total c.before)))
