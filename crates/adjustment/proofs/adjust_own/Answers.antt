-- `adjust_own` meets its contract. Assumes nothing.
use Rattle.std.proofs.Common.{◌≡◌, sym, ◌∙◌, ap, subst, rules, Err}
use Rattle.reply.specs.Reply.{Reply}
use Rattle.reply.specs.Checks.{figure_reply}
use Rattle.reply.proofs.Checking.{never}
use Rattle.doolittle.specs.Table.{Table, table_of}
use Rattle.adjustment.specs.Refusals.{solution_reply}
use Rattle.adjustment.specs.Inner.{Solved}
use Rattle.adjustment.proofs.Answering.{Missed, answered}
use Rattle.adjustment.proofs.Promising.{refused_input, passed_solved}
use Rattle.adjustment.proofs.adjust_own.Goals as goal

pub returns-in_err-table : goal.returns-in_err-table
returns-in_err-table c =
    let e : ◌≡◌ {A = Reply} c.from_residual.result (Err c.in_err-table.field-0.0) = search rules in
    rw e (record { answer = sym (refused_input _ _ _ _ _ (sym c.check.ensures.answer ∙ ap figure_reply c.in_err-table.was)); lists = never _ })

pub returns-in_err-solve : goal.returns-in_err-solve
returns-in_err-solve c =
    let e : ◌≡◌ {A = Reply} c.from_residual-in_err-solve.result (Err c.in_err-solve.field-0.0) = search rules in
    let l = c.in_ok-table.ensures.lists in
    let p = passed_solved _ _ _ _ _ (sym c.check.ensures.answer ∙ ap figure_reply c.in_ok-table.was) in
    rw e (record { answer = sym (p ∙ (λ i. solution_reply (table_of (sym l.0 i) (sym l.1 i) (sym l.2 i))) ∙ sym c.solve.ensures.value ∙ c.in_err-solve.was); lists = never _ })

pub returns : goal.returns
returns c =
    let h = c.in_ok-table.ensures.checked in let kept = c.solve.auto in
    let l = c.in_ok-table.ensures.lists in
    let t : Table = table_of c.args.q.now c.args.a.now c.args.w.now in
    let same : ◌≡◌ {A = Table} (table_of c.in_ok-table.table.q.now c.in_ok-table.table.a.now c.in_ok-table.table.w.now) t = λ i. table_of (l.0 i) (l.1 i) (l.2 i) in
    let s = subst (λ (t : Table). Solved t c.solve.new.k c.solve.new.v c.solve.new.u c.solve.new.r) same (c.solve.ensures.solved c.in_ok-solve.was) in
    record {
      answer = sym (passed_solved _ _ _ _ _ (sym c.check.ensures.answer ∙ ap figure_reply c.in_ok-table.was) ∙ ap solution_reply (sym same) ∙ sym c.solve.ensures.value ∙ c.in_ok-solve.was);
      lists = λ f. answered s c.args.directions.now (kept.v ∙ h.by_direction.0) (kept.u ∙ h.by_direction.1) (kept.k ∙ h.by_condition.0) (kept.r ∙ h.by_condition.1)
          h.by_direction.2 c.adjust_directions.ensures (subst (λ (t : Table). Missed t c.solve.new.u c.print_remainders.new.printed) same c.print_remainders.ensures);
    }
