-- `adjust` meets its contract. Assumes nothing.
use Rattle.std.proofs.Common.{◌≡◌, sym, ◌∙◌, ap, Err, rules, arith}
use Rattle.reply.specs.Checks.{figure_reply}
use Rattle.page.specs.Page.{Listed}
use Rattle.listing.proofs.Filing.{too_short, table_refused, table_listed}
use Rattle.listing.proofs.adjust.Goals as goal

pub returns-then-out-room : goal.returns-then-out-room
returns-then-out-room c = too_short c.args.file.now c.args.sheet c.args.out.now (omega (arith, c.if-out-room.true, c.room.ensures))

pub returns-in_err-net : goal.returns-in_err-net
returns-in_err-net c =
    let e : ◌≡◌ {A = Listed} c.from_residual.result (Err c.in_err-net.field-0.0) = search rules in
    rw e (table_refused c.args.file.now c.args.sheet c.args.out.now (omega (arith, c.if-out-room.false, c.room.ensures)) _ (sym c.table.ensures.reply ∙ ap figure_reply c.in_err-net.was))

pub returns : goal.returns
returns c =
    table_listed c.args.file.now c.args.sheet c.args.out.now (omega (arith, c.if-out-room.false, c.room.ensures)) (c.table.ensures.table _ c.in_ok-net.was)
    (sym c.table.ensures.reply ∙ ap figure_reply c.in_ok-net.was) c.solve.ensures
