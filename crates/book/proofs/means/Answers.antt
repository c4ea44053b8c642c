-- `book::means` meets its contract: each return is one step of the fixed order of checks. Assumes nothing.
use mathlib.Core.Path.{sym, ◌∙◌, ap}
use Prim.Native.Nat.{ℕ}
use lib.ListN.{length}
use Rattle.exact.proofs.Filling.{tabulate_length}
use Rattle.std.proofs.lemmas.Result.{err_from_is_err_and}
use Rattle.text.specs.Lines.{lines_in}
use Rattle.text.proofs.Putting.{rewrote}
use Rattle.page.proofs.Printing.{listed_refused, listed_accepted}
use Rattle.book.specs.Listing.{means_lines}
use Rattle.book.proofs.Filing.{too_short, refused_as, station_listed, listed_as}
use Rattle.book.proofs.Refusing.{too_long}
use Rattle.book.proofs.means.Goals as goal

pub returns-then-out-lt-LISTING : goal.returns-then-out-lt-LISTING
returns-then-out-lt-LISTING c = too_short c.args.file.now c.args.out.now c.if-out-lt-LISTING.true

pub returns-in_err-check_length : goal.returns-in_err-check_length
returns-in_err-check_length c =
    let p = err_from_is_err_and c.from_residual.result c.from_residual.ensures.1 in
    let long = c.in_err-check_length.ensures.long in
    rw (p.1, p.2, long.1) (refused_as c.args.file.now c.args.out.now c.if-out-lt-LISTING.false _ (too_long c.args.file.now long.0).0)

pub returns-in_err-n : goal.returns-in_err-n
returns-in_err-n c =
    let p = err_from_is_err_and c.from_residual-in_err-n.result c.from_residual-in_err-n.ensures.1 in
    rw (p.1, p.2) (refused_as c.args.file.now c.args.out.now c.if-out-lt-LISTING.false _ c.in_err-n.ensures.0)

pub returns-in_err-means : goal.returns-in_err-means
returns-in_err-means c =
    let p = err_from_is_err_and c.from_residual-in_err-means.result c.from_residual-in_err-means.ensures.1 in
    rw (p.1, p.2)
    (listed_as c.args.file.now c.args.out.now c.if-out-lt-LISTING.false c.in_ok-n.ensures (listed_refused _ (sym c.means.ensures.replied ∙ c.in_err-means.was)))

pub returns : goal.returns
returns c =
    let e = c.in_ok-means.was in
    let n = c.in_ok-n.n in
    let many = ap length c.in_ok-n.ensures.positions ∙ tabulate_length (lines_in c.args.file.now) _ ∙ sym c.in_ok-n.ensures.count in
    listed_as c.args.file.now c.args.out.now c.if-out-lt-LISTING.false c.in_ok-n.ensures
    (listed_accepted (sym c.means.ensures.replied ∙ e) (rewrote (ap (λ (k : ℕ). means_lines k c.means.new.direction c.means.new.pairs) (sym many) ∙ station_listed c.means.ensures e) c.put.ensures))
