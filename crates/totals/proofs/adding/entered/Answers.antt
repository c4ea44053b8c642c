-- `totals::adding::entered` meets its contract. Assumes nothing.
use Rattle.std.proofs.Common.{sym, ◌∙◌}
use Rattle.totals.specs.Adding.{well_entered}
use Rattle.totals.proofs.Entering.{not_passing, ill_entered, well_entered_lem}
use Rattle.totals.proofs.adding.entered.Goals as goal

pub returns-then-fault_in : goal.returns-then-fault_in
returns-then-fault_in c =
    c.faulty.ensures
    ∙ ill_entered c.args.t _ _ c.args.x c.args.y c.past_after-past.ensures c.counted_after-counted.ensures (sym c.fault_in.ensures ∙ c.if-fault_in.true)

pub sum_after-requires : goal.sum_after-requires
sum_after-requires c = not_passing c.args.t _ _ c.args.x c.args.y (sym c.fault_in.ensures ∙ c.if-fault_in.false)

pub returns : goal.returns
unfolding well_entered
returns c =
    rw (c.line_after.ensures, c.due_after.ensures, c.nets_after.ensures, c.sum_after.ensures)
    (well_entered_lem c.args.t _ _ c.args.x c.args.y c.past_after-past.ensures c.counted_after-counted.ensures (sym c.fault_in.ensures ∙ c.if-fault_in.false))
