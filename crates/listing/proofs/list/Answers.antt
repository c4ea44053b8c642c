-- `list` meets its contract. Assumes nothing.
use Rattle.std.proofs.Common.{arith}
use Rattle.listing.proofs.Filing.{no_listing, listed_by}
use Rattle.listing.proofs.list.Goals as goal

pub returns-then-out-room : goal.returns-then-out-room
returns-then-out-room c = record {
  listing = no_listing c.args.file.now c.args.sheet c.args.out.now (omega (arith, c.if-out-room.true, c.room.ensures));
  within = omega arith;
}

pub returns : goal.returns
returns c =
    let done = listed_by c.args.file.now c.args.sheet c.args.out.now (omega (arith, c.if-out-room.false, c.room.ensures)) c.adjust.ensures c.print.ensures in
    record { listing = done.0; within = done.1 }
