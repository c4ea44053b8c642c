-- `station::rescue` meets its contract: lists that do not fit are refused, and what `judge` has noted of each sighting says where it goes. Assumes nothing.
use Rattle.std.proofs.Common.{◌≡◌, ◌∙◌, sym, ap, arith, length, ℕ, List, true}
use Rattle.std.specs.Prelude.{Ok}
use borrow.Author.Tests.{eq-eqb}
use lib.Seq.{sets, length-take-le}
use Rattle.std.proofs.lemmas.Result.{err_from_is_err_and}
use Rattle.exact.specs.Tabulate.{tabulate}
use Rattle.exact.proofs.Gathering.{gather_long}
use Rattle.reply.specs.Reply.{Reply}
use Rattle.reply.specs.declared.Refusal.TheVariants.{Sightings}
use Rattle.station.specs.Bounds.{InRange}
use Rattle.station.specs.Sightings.{Book, book, sightings, position_at, reading_at}
use Rattle.station.specs.Rescue.{is_kept, reason, rescue_reply, Lent, lent, rooms}
use Rattle.station.proofs.Judging.{too_many, rescue_lengths, rescue_room, reasons_long, keeps, drops_ordinals, drops_reasons, RoomsFit, rooms_all, rooms_fit_lem, refused_keeps, accepted_keeps}
use Rattle.station.proofs.Sounding.{rescue_in}
use Rattle.station.proofs.rescue.Goals as goal
use Rattle.station.proofs.rescue.Goals.{Start, After-judge, In_ok-judge, then-not-rooms_fit-via-then-not-rooms_fit, then-not-rooms_fit-via-else-not-rooms_fit+then-n-gt-MOST}

abbrev sighted : Start → Book
sighted s = book s.args.position.now s.args.object.now s.args.face.now s.args.reading.now

-- the lists as they were lent
abbrev lists : Start → Lent
lists s = lent s.args.kept_position.now s.args.kept_object.now s.args.kept_face.now s.args.kept_reading.now s.args.ordinals.now s.args.reasons.now

pub returns-then-not-rooms_fit : goal.returns-then-not-rooms_fit
returns-then-not-rooms_fit c =
    let s = (goal.at.returns-then-not-rooms_fit c).Start in
    elim c.then-not-rooms_fit.branch [
      | then-not-rooms_fit-via-then-not-rooms_fit w ↦
          refused_keeps (sighted s) (lists s) Sightings (sym (rescue_room (sighted s) (rooms (sighted s) (lists s)) (sym (c.rooms_fit.ensures ∙ rooms_all _ _ _ _ _ _ _) ∙ w.if-not-rooms_fit.true)))
      | then-not-rooms_fit-via-else-not-rooms_fit+then-n-gt-MOST w ↦
          refused_keeps (sighted s) (lists s) Sightings (sym (rescue_lengths (sighted s) (rooms (sighted s) (lists s)) (too_many (sighted s) w.if-n-gt-MOST.true)))
    ]

-- lists that fit, and so the reply of the rule
module _ (c : After-judge) where
  abbrev start : Start
  start = (goal.at.After-judge c).Start

  abbrev spoiled : Book
  spoiled = sighted start

  room : rooms spoiled (lists start) ≡ true
  room = sym (c.rooms_fit.ensures ∙ rooms_all _ _ _ _ _ _ _) ∙ c.if-not-rooms_fit.false

  replied : c.judge.result ≡ rescue_reply spoiled (rooms spoiled (lists start))
  replied = c.judge.ensures.replied ∙ ap (rescue_reply spoiled) (eq-eqb _ _ (length-take-le _ _ (omega arith)) ∙ sym room)

pub returns-in_err-judge : goal.returns-in_err-judge
returns-in_err-judge c =
    let p = err_from_is_err_and c.from_residual.result c.from_residual.ensures.1 in let s = (goal.at.returns-in_err-judge c).Start in
    rw (p.1, p.2) (refused_keeps (sighted s) (lists s) _ (sym c.in_err-judge.was ∙ replied (goal.at.returns-in_err-judge c).After-judge))

-- an accepted list, and its reasons
module _ (c : In_ok-judge) where
  abbrev judged : After-judge
  judged = (goal.at.In_ok-judge c).After-judge

  abbrev parted : Book
  parted = spoiled judged

  abbrev noted : List ℕ
  noted = c.judge.new.reason

  accepted : ◌≡◌ {A = Reply} (Ok tt) (rescue_reply parted (rooms parted (lists (start judged))))
  accepted = sym c.in_ok-judge.was ∙ replied judged

  noted_is : noted ≡ tabulate (sightings parted) (reason parted)
  noted_is = rw c.in_ok-judge.was at c.judge.ensures.reasons_are

  long : sightings parted ≡ length noted
  long = sym (reasons_long parted noted noted_is)

  ranges : InRange parted
  ranges = (rescue_in parted (rooms parted (lists (start judged))) (sym accepted)).0

  fits : let l = lists (start judged) in RoomsFit (sightings parted) (length l.kept.position) (length l.kept.object) (length l.kept.face) (length l.kept.reading) (length l.ordinal) (length l.reason)
  fits = rooms_fit_lem _ _ _ _ _ _ _ (room judged)

pub keep-requires : goal.keep-requires
keep-requires c = let e = (goal.at.keep-requires c).In_ok-judge in (long e, (fits e).positions_fit ∙ long e)

pub keep-requires-2 : goal.keep-requires-2
keep-requires-2 c = let e = (goal.at.keep-requires-2 c).In_ok-judge in ((ranges e).objects ∙ long e, (fits e).objects_fit ∙ long e)

pub keep-requires-3 : goal.keep-requires-3
keep-requires-3 c = let e = (goal.at.keep-requires-3 c).In_ok-judge in ((ranges e).faces ∙ long e, (fits e).faces_fit ∙ long e)

pub keep-kept-requires : goal.keep-kept-requires
keep-kept-requires c = let e = (goal.at.keep-kept-requires c).In_ok-judge in ((ranges e).readings ∙ long e, (fits e).readings_fit ∙ long e)

pub list_dropped-dropped-requires : goal.list_dropped-dropped-requires
list_dropped-dropped-requires c = let e = (goal.at.list_dropped-dropped-requires c).In_ok-judge in ((fits e).ordinals_fit ∙ long e, (fits e).reasons_fit ∙ long e)

pub returns : goal.returns
returns c =
    let e = (goal.at.returns c).In_ok-judge in let b = parted e in let x = noted_is e in let l = lists (start (judged e)) in
    accepted_keeps b l _ c.keep-kept.result c.list_dropped-dropped.result (accepted e)
    (c.keep-kept.ensures.count ∙ ap length (keeps b (noted e) x b.reading) ∙ gather_long (is_kept b) (sightings b) (reading_at b) (position_at b))
    (c.list_dropped-dropped.ensures.count ∙ ap length (drops_ordinals b (noted e) x))
    (λ i. lent
    ((c.keep.ensures.list ∙ ap (sets l.kept.position 0) (keeps b (noted e) x b.position)) i)
    ((c.keep-2.ensures.list ∙ ap (sets l.kept.object 0) (keeps b (noted e) x b.object)) i)
    ((c.keep-3.ensures.list ∙ ap (sets l.kept.face 0) (keeps b (noted e) x b.face)) i)
    ((c.keep-kept.ensures.list ∙ ap (sets l.kept.reading 0) (keeps b (noted e) x b.reading)) i)
    ((c.list_dropped-dropped.ensures.ordinals ∙ ap (sets l.ordinal 0) (drops_ordinals b (noted e) x)) i)
    ((c.list_dropped-dropped.ensures.reasons ∙ ap (sets l.reason 0) (drops_reasons b (noted e) x)) i))
