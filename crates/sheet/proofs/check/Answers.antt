-- `check` meets its contract. Assumes nothing.
use mathlib.Core.Path.{sym, ◌∙◌, ap}
use Rattle.std.proofs.lemmas.Result.{err_from_is_err_and}
use Rattle.reply.specs.Checks.{figure_reply}
use Rattle.sheet.proofs.Promising.{net_refused, form_refused, table_sound, directions_sound, compared}
use Rattle.sheet.proofs.check.Goals as goal

pub returns-in_err-table : goal.returns-in_err-table
returns-in_err-table c =
    let p = err_from_is_err_and c.from_residual.result c.from_residual.ensures.1 in
    rw (p.1, p.2) (net_refused c.args.net.now c.args.listing.now _ (sym c.table.ensures.reply ∙ ap figure_reply c.in_err-table.was))

pub returns-in_err-counts : goal.returns-in_err-counts
returns-in_err-counts c =
    let p = err_from_is_err_and c.from_residual-in_err-counts.result c.from_residual-in_err-counts.ensures.1 in
    rw (p.1, p.2) (form_refused c.args.net.now c.args.listing.now c.table.ensures c.in_ok-table.was _ c.in_err-counts.ensures)

pub invariant_of-opinion : goal.invariant_of-opinion
invariant_of-opinion c = record { sound = table_sound c.args.net.now c.args.listing.now c.table.ensures c.in_ok-table.was }

pub opinion-requires : goal.opinion-requires
opinion-requires c = record { in_circle = directions_sound c.args.net.now c.args.listing.now c.table.ensures c.in_ok-table.was }

pub returns : goal.returns
returns c =
    let formed = c.in_ok-counts.ensures in
    compared c.args.net.now c.args.listing.now c.table.ensures c.in_ok-table.was (c.opinion.ensures c.args.listing.now formed) formed.passed
