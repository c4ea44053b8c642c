-- `book::list` meets its contract. Assumes nothing.
use Rattle.book.proofs.Filing.{no_listing, listed_by}
use Rattle.book.proofs.list.Goals as goal

pub returns-then-out-lt-LISTING-clause-listing : goal.returns-then-out-lt-LISTING-clause-listing
returns-then-out-lt-LISTING-clause-listing c = no_listing c.args.file.now c.args.out.now c.if-out-lt-LISTING.true

pub returns : goal.returns
returns c =
    let p = listed_by c.args.file.now c.args.out.now c.if-out-lt-LISTING.false c.means.ensures c.print.ensures in
    record { listing = p.0; within = p.1 }
