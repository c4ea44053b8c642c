-- `book::list_rescued` meets its contract. Assumes nothing.
use native.Mathlib.Omega.{arith}
use Rattle.book.proofs.Judging.{no_rescue, rescue_printed}
use Rattle.book.proofs.list_rescued.Goals as goal

pub returns-then-out-room_for-clause-listing : goal.returns-then-out-room_for-clause-listing
returns-then-out-room_for-clause-listing c = no_rescue c.args.part c.args.file.now c.args.out.now (omega (arith, c.if-out-room_for.true, c.room_for.ensures))

pub returns : goal.returns
returns c =
    let a = c.args in
    let p = rescue_printed a.part a.file.now a.out.now (omega (arith, c.if-out-room_for.false, c.room_for.ensures)) c.rescue.ensures c.print.ensures in
    record { listing = p.0; within = p.1 }
