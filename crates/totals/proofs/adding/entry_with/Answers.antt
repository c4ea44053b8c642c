-- `totals::adding::entry_with` meets its contract. Assumes nothing.
use Rattle.std.proofs.Common.{sym, ◌∙◌}
use Rattle.totals.proofs.Entering.{natural_told, entry_below, entry_second_below, entry_numbers}
use Rattle.totals.proofs.adding.entry_with.Goals as goal

pub returns-in_err-ok : goal.returns-in_err-ok
returns-in_err-ok c =
    c.from_residual.ensures ∙ entry_below c.args.x c.args.y (sym (natural_told c.try_from.result c.args.x c.ranges.x c.try_from.ensures c.ok.ensures.value) ∙ c.in_err-ok.was)

pub returns-in_err-ok-2 : goal.returns-in_err-ok-2
returns-in_err-ok-2 c =
    c.from_residual-in_err-ok-2.ensures
    ∙ entry_second_below c.args.x c.args.y
    (sym (natural_told c.try_from.result c.args.x c.ranges.x c.try_from.ensures c.ok.ensures.value) ∙ c.in_ok-ok.was)
    (sym (natural_told c.try_from-2.result c.args.y c.ranges.y c.try_from-2.ensures c.ok-2.ensures.value) ∙ c.in_err-ok-2.was)

pub returns : goal.returns
returns c =
    entry_numbers c.args.x c.args.y
    (sym (natural_told c.try_from.result c.args.x c.ranges.x c.try_from.ensures c.ok.ensures.value) ∙ c.in_ok-ok.was)
    (sym (natural_told c.try_from-2.result c.args.y c.ranges.y c.try_from-2.ensures c.ok-2.ensures.value) ∙ c.in_ok-ok-2.was)
