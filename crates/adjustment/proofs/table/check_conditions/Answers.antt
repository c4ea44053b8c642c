-- `table::check_conditions` meets its contract. Assumes nothing.
use Rattle.std.proofs.Common.{◌≡◌, sym, ◌∙◌, false, arith}
use Rattle.std.proofs.lemmas.Grind.{common_steps}
use Rattle.exact.proofs.Searching.{failed_more}
use Rattle.doolittle.specs.Table.{table_of}
use Rattle.adjustment.specs.Refusals.{coefficient_fault, misclosure_fault}
use Rattle.adjustment.proofs.Rows.{row_fault, by_coefficient, by_misclosure, by_none}
use Rattle.adjustment.proofs.table.check_conditions.Goals as goal
use Rattle.adjustment.proofs.table.check_conditions.Goals.{After-some_beyond}

-- what the code finds of the coefficients of condition j
found : (c : After-some_beyond) → c.some_beyond.result ≡ coefficient_fault (table_of c.args.q.now c.args.a.now c.args.w.now) c.loop-j.j
found c = c.some_beyond.ensures ∙ row_fault (table_of c.args.q.now c.args.a.now c.args.w.now) _ _ c.row.ensures.long c.row.ensures.same

pub returns-then-some_beyond : goal.returns-then-some_beyond
returns-then-some_beyond c =
    sym (by_coefficient _ _ c.loop-j-test.true c.loop-j.invariant (sym (found (goal.at.returns-then-some_beyond c).After-some_beyond) ∙ c.if-some_beyond.true))

pub returns-then-magnitude-gt1000000 : goal.returns-then-magnitude-gt1000000
unfolding misclosure_fault
returns-then-magnitude-gt1000000 c =
    sym (by_misclosure _ _ c.loop-j-test.true c.loop-j.invariant (sym (found (goal.at.returns-then-magnitude-gt1000000 c).After-some_beyond) ∙ c.if-some_beyond.false) (grind (arith, common_steps)))

pub loop-j-preserved : goal.loop-j-preserved
unfolding misclosure_fault
loop-j-preserved c =
    let e : misclosure_fault (table_of c.args.q.now c.args.a.now c.args.w.now) c.loop-j.j ≡ false = grind (arith, common_steps) in
    failed_more _ _ c.loop-j.invariant (rw (← found (goal.at.loop-j-preserved c).After-some_beyond, c.if-some_beyond.false) e)

pub returns : goal.returns
returns c = sym (by_none _ (λ h l. c.loop-j.invariant h (omega arith)))
