-- `book::spoiled::judge` meets its contract. Assumes nothing.
use Rattle.std.proofs.lemmas.Result.{err_from_is_err_and}
use Rattle.book.proofs.Judging.{judged_refused, judged_by_station, judged_as}
use Rattle.book.proofs.Refusing.{too_long}
use Rattle.book.proofs.spoiled.judge.Goals as goal

pub returns-in_err-check_length : goal.returns-in_err-check_length
returns-in_err-check_length c =
    let p = err_from_is_err_and c.from_residual.result c.from_residual.ensures.1 in
    let long = c.in_err-check_length.ensures.long in
    rw (p.1, p.2, long.1) (judged_refused c.args.file.now _ c.told-reason (too_long c.args.file.now long.0).1)

pub returns-in_err-n : goal.returns-in_err-n
returns-in_err-n c =
    let p = err_from_is_err_and c.from_residual-in_err-n.result c.from_residual-in_err-n.ensures.1 in
    rw (p.1, p.2) (judged_refused c.args.file.now _ c.told-reason c.in_err-n.ensures.1)

pub returns-in_err-judge : goal.returns-in_err-judge
returns-in_err-judge c =
    let p = err_from_is_err_and c.from_residual-in_err-judge.result c.from_residual-in_err-judge.ensures.1 in
    rw (p.1, p.2) (judged_by_station c.args.file.now c.in_ok-n.ensures c.args.reason.now c.told-reason _ c.in_err-judge.ensures)

pub returns : goal.returns
returns c = judged_as c.args.file.now c.in_ok-n.ensures c.args.reason.now c.told-reason c.in_ok-judge.ensures
