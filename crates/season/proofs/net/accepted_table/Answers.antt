-- `season::net::accepted_table` meets its contract. Assumes nothing.
use Rattle.std.proofs.Common.{sym, ◌∙◌, ap}
use Rattle.std.proofs.lemmas.Result.{err_from_is_err_and}
use Rattle.reply.specs.Checks.{figure_reply}
use Rattle.season.proofs.Sharing.{untabled, table_refused, table_accepted}
use Rattle.season.proofs.net.accepted_table.Goals as goal

-- ---- no table
pub returns-in_err-table : goal.returns-in_err-table
returns-in_err-table c =
    let p = err_from_is_err_and c.from_residual.result c.from_residual.ensures.1 in
    rw (p.1, p.2) (untabled c.args.net.now c.in_err-table.field-0.0 (sym c.table.ensures.reply ∙ ap figure_reply c.in_err-table.was))

-- ---- a table that is refused
pub returns-in_err-reply_to : goal.returns-in_err-reply_to
returns-in_err-reply_to c =
    let p = err_from_is_err_and c.from_residual-in_err-reply_to.result c.from_residual-in_err-reply_to.ensures.1 in
    rw (p.1, p.2)
    (table_refused c.args.net.now (c.table.ensures.table c.in_ok-table.table c.in_ok-table.was) c.in_err-reply_to.field-0.0
    (sym c.table.ensures.reply ∙ ap figure_reply c.in_ok-table.was) (sym c.reply_to.ensures ∙ c.in_err-reply_to.was))

pub returns : goal.returns
returns c =
    table_accepted c.args.net.now (c.table.ensures.table c.in_ok-table.table c.in_ok-table.was)
    (sym c.table.ensures.reply ∙ ap figure_reply c.in_ok-table.was) (sym c.reply_to.ensures ∙ c.in_ok-reply_to.was)
