-- `book::rescue` meets its contract. Assumes nothing.
use mathlib.Core.Path.{refl, sym}
use borrow.Author.Rules.{rules}
use lib.Seq.{length-take-le}
use native.Mathlib.Omega.{arith}
use Rattle.std.proofs.lemmas.Result.{err_from_is_err_and}
use Rattle.reply.proofs.Checking.{figure_refused}
use Rattle.text.proofs.Putting.{put_whole}
use Rattle.book.proofs.Judging.{judged_given, rescue_short, rescue_refused, rescue_listed}
use Rattle.book.proofs.rescue.Goals as goal

pub returns-then-out-room_for : goal.returns-then-out-room_for
returns-then-out-room_for c =
    let a = c.args in
    rescue_short a.part a.file.now a.out.now (omega (arith, c.if-out-room_for.true, c.room_for.ensures))

pub returns-in_err-sightings : goal.returns-in_err-sightings
returns-in_err-sightings c =
    let a = c.args in let p = err_from_is_err_and c.from_residual.result c.from_residual.ensures.1 in
    rw (p.1, p.2)
    (rescue_refused a.part a.file.now a.out.now (omega (arith, c.if-out-room_for.false, c.room_for.ensures)) _
    (figure_refused _ _ (sym c.in_err-sightings.ensures.answer)))

-- ---- a book that is accepted
pub slice_bounds-put-end : goal.slice_bounds-put-end
slice_bounds-put-end c =
    let m = c.in_ok-sightings.ensures in sym (length-take-le c.in_ok-sightings.sightings c.judge.new.reason (omega (arith, m.few, m.long)))

pub put-requires : goal.put-requires
put-requires c = let g = judged_given c.args.file.now c.in_ok-sightings.ensures in (omega (arith, c.if-out-room_for.false, c.room_for.ensures), g.0, g.1)

pub returns : goal.returns
returns c =
    let a = c.args in
    let done =
    rescue_listed a.part a.file.now a.out.now (omega (arith, c.if-out-room_for.false, c.room_for.ensures)) (judged_given a.file.now c.in_ok-sightings.ensures).0
    (put_whole refl c.put.ensures) in
    search rules
