-- `table::check` meets its contract. Assumes nothing.
use Rattle.std.proofs.Common.{◌∙◌, sym}
use Rattle.adjustment.proofs.Admitting.{each_checked}
use Rattle.adjustment.proofs.table.check.Goals as goal

pub invariant_of-result : goal.invariant_of-result
invariant_of-result c =
    let p = each_checked _ _ _ _ _ _ _ _ _ _ (sym c.counts_amiss.ensures ∙ c.if-counts_amiss.false) (sym c.lengths_amiss.ensures ∙ c.if-lengths_amiss.false)
    (sym c.check.ensures.answer ∙ c.in_ok-check.was) (sym c.check_conditions.ensures ∙ c.in_ok-check_conditions.was) in
    record { sound = p.sound }

pub returns-clause-checked : goal.returns-clause-checked
returns-clause-checked c = each_checked _ _ _ _ _ _ _ _ _ _ (sym c.counts_amiss.ensures ∙ c.if-counts_amiss.false) (sym c.lengths_amiss.ensures ∙ c.if-lengths_amiss.false)
    (sym c.check.ensures.answer ∙ c.in_ok-check.was) (sym c.check_conditions.ensures ∙ c.in_ok-check_conditions.was)
