-- `adjust` meets its contract. Assumes nothing.
use Rattle.std.proofs.Common.{◌≡◌, sym, ◌∙◌, ap, subst, rules, Err}
use Rattle.reply.specs.Reply.{Reply}
use Rattle.reply.specs.Checks.{figure_reply}
use Rattle.doolittle.specs.Table.{Table, table_of}
use Rattle.adjustment.specs.Refusals.{solution_reply}
use Rattle.adjustment.specs.Inner.{Solved}
use Rattle.adjustment.proofs.Answering.{Missed, taken, answered}
use Rattle.adjustment.proofs.Promising.{refused_input, passed_solved, refused_adjusts, accepted_adjusts}
use Rattle.adjustment.proofs.adjust.Goals as goal

pub returns-in_err-table : goal.returns-in_err-table
returns-in_err-table c =
    let e : ◌≡◌ {A = Reply} c.from_residual.result (Err c.in_err-table.field-0.0) = search rules in
    rw e (refused_adjusts _ _ _ _ _ _ (refused_input _ _ _ _ _ (sym c.check.ensures.answer ∙ ap figure_reply c.in_err-table.was)))

pub returns-in_err-solve : goal.returns-in_err-solve
returns-in_err-solve c =
    let e : ◌≡◌ {A = Reply} c.from_residual-in_err-solve.result (Err c.in_err-solve.field-0.0) = search rules in
    let l = c.in_ok-table.ensures.lists in
    let p = passed_solved _ _ _ _ _ (sym c.check.ensures.answer ∙ ap figure_reply c.in_ok-table.was) in
    rw e (refused_adjusts _ _ _ _ _ _ (p ∙ (λ i. solution_reply (table_of (sym l.0 i) (sym l.1 i) (sym l.2 i))) ∙ sym c.solve.ensures.value ∙ c.in_err-solve.was))

pub returns : goal.returns
returns c =
    let h = c.in_ok-table.ensures.checked in
    let l = c.in_ok-table.ensures.lists in
    let t : Table = table_of c.args.q.now c.args.a.now c.args.w.now in
    let same : ◌≡◌ {A = Table} (table_of c.in_ok-table.table.q.now c.in_ok-table.table.a.now c.in_ok-table.table.w.now) t = λ i. table_of (l.0 i) (l.1 i) (l.2 i) in
    let s : Solved t c.copy_from_slice-3.new.self c.copy_from_slice.new.self c.copy_from_slice-2.new.self c.copy_from_slice-4.new.self =
    taken (subst (λ (t : Table). Solved t c.solve.new.k c.solve.new.v c.solve.new.u c.solve.new.r) same (c.solve.ensures.solved c.in_ok-solve.was)) c.copy_from_slice-3.ensures.after c.copy_from_slice.ensures.after c.copy_from_slice-2.ensures.after c.copy_from_slice-4.ensures.after in
    accepted_adjusts _ _ _ _ _ (ap solution_reply (sym same) ∙ sym c.solve.ensures.value ∙ c.in_ok-solve.was) h.sound
    (passed_solved _ _ _ _ _ (sym c.check.ensures.answer ∙ ap figure_reply c.in_ok-table.was)) _
    (answered s c.args.directions.now (c.copy_from_slice.auto.self ∙ h.by_direction.0) (c.copy_from_slice-2.auto.self ∙ h.by_direction.1) (c.copy_from_slice-3.auto.self ∙ h.by_condition.0) (c.copy_from_slice-4.auto.self ∙ h.by_condition.1)
    h.by_direction.2 c.adjust_directions.ensures (subst (λ (t : Table). Missed t c.copy_from_slice-2.new.self c.print_remainders.new.printed) same c.print_remainders.ensures))
