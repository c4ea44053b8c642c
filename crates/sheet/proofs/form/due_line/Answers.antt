-- `form::due_line` meets its contract. Assumes nothing.
use Rattle.sheet.proofs.Forming.{due_v, due_k}
use Rattle.sheet.proofs.form.due_line.Goals as goal

pub returns-then-i-m : goal.returns-then-i-m
returns-then-i-m c =
    let a = c.args in let d = due_v a.listing.now a.start a.m a.i c.if-i-m.true in
    rw (d.0, d.1) c.numbered_line.ensures

pub returns : goal.returns
returns c =
    let a = c.args in let d = due_k a.listing.now a.start a.m a.i c.if-i-m.false in
    rw (d.0, d.1) c.numbered_line-2.ensures
