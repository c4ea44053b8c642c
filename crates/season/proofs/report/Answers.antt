-- `season::report` meets its contract. Assumes nothing.
use Rattle.std.proofs.lemmas.Result.{err_from_is_err_and}
use Rattle.totals.proofs.Promising.{lent_mut, no_array, array}
use Rattle.season.proofs.Promising.{short_reports, long_reports}
use Rattle.season.proofs.report.Goals as goal

pub returns-in_err-totals : goal.returns-in_err-totals
returns-in_err-totals c =
    let a = c.args in let p = err_from_is_err_and c.from_residual.result c.from_residual.ensures.1 in
    let no = no_array 16 lent_mut _ _ _ c.as_mut_array.ensures.cases c.ok_or.ensures.value c.in_err-totals.was in
    rw (p.1, p.2, no.0) (short_reports a.archive.now a.totals.now no.1)

pub returns : goal.returns
returns c =
    let a = c.args in let totals = array 16 lent_mut _ _ _ c.as_mut_array.ensures.cases c.ok_or.ensures.value c.in_ok-totals.was in
    long_reports a.archive.now a.totals.now totals.1 c.count_all.ensures.reply c.count_all.ensures.list
