-- `station::judge` meets its contract: each return is one step of the fixed order of checks, and the list is written only after the last. Assumes nothing.
use Rattle.std.proofs.Common.{◌≡◌, ◌∙◌, refl, sym, ap, subst, length, Bool, eqb, get_or, not}
use Rattle.std.proofs.lemmas.Result.{err_from_is_err_and}
use borrow.Author.Tests.{eq-eqb, ne_eqb}
use Rattle.exact.specs.First.{some_below}
use Rattle.exact.specs.Tabulate.{tabulate}
use Rattle.exact.proofs.Filling.{tabulate_ext}
use Rattle.reply.specs.Checks.{refuse_if, ◌and_then◌}
use Rattle.reply.specs.declared.Refusal.TheVariants.{NothingLeft}
use Rattle.station.specs.declared.fields.Sightings.{Sightings}
use Rattle.station.specs.Bounds.{InRange, book_of, opening}
use Rattle.station.specs.Sightings.{Book, book, sightings}
use Rattle.station.specs.Table.{counts, readings}
use Rattle.station.specs.Rescue.{place_of, reason, nothing_left, rescue_reply}
use Rattle.station.specs.Steps.{free, why_after}
use Rattle.station.proofs.Deciding.{rescue_opened}
use Rattle.station.proofs.Judging.{rescue_room, left_lem}
use Rattle.station.proofs.Sifting.{why_reason}
use Rattle.station.proofs.judge.Goals as goal
use Rattle.station.proofs.judge.Goals.{After-all-why, After-any_kept, After-checked, In_ok-sightings, Start}

-- the sightings, and whether the answer list has a place for each
abbrev sighted : Start → Book
sighted s = book s.args.position.now s.args.object.now s.args.face.now s.args.reading.now

abbrev room : Start → Bool
room s = eqb (length s.args.reason.now) (sightings (sighted s))

pub returns-then-reason-position : goal.returns-then-reason-position
returns-then-reason-position c =
    let s = (goal.at.returns-then-reason-position c).Start in
    record { replied = sym (rescue_room (sighted s) (room s) (ne_eqb _ _ c.if-reason-position.true)); reasons_are = refl }

-- a list with the room that is due: the reply is that of the sightings, and then whether something is left
replied : (c : After-checked) → let s = (goal.at.After-checked c).Start in
    (opening (sighted s) and_then refuse_if (nothing_left (sighted s)) NothingLeft) ≡ rescue_reply (sighted s) (room s)
replied c =
    let b = sighted (goal.at.After-checked c).Start in
    sym (ap (rescue_reply b) (eq-eqb _ _ c.if-reason-position.false) ∙ rescue_opened b)

pub returns-in_err-sightings : goal.returns-in_err-sightings
returns-in_err-sightings c =
    let p = err_from_is_err_and c.from_residual.result c.from_residual.ensures.1 in
    rw (p.1, p.2) (record { replied = rw c.in_err-sightings.ensures at (replied (goal.at.returns-in_err-sightings c).After-checked); reasons_are = refl })

-- sound sightings are those of the lists
sound : (c : In_ok-sightings) → InRange (sighted (goal.at.In_ok-sightings c).Start)
sound c = subst (λ (lists : Sightings). InRange (book_of lists)) c.in_ok-sightings.ensures.0 c.in_ok-sightings.sightings.sound

-- the reasons, as the four steps left them
why_is : (c : After-all-why) → let b = sighted (goal.at.After-all-why c).Start in c.all-why.result ≡ why_after 4 (counts b) (readings b)
why_is c =
    c.all-why.ensures ∙ (λ t. why_after 4 (c.tally.ensures.0 t) (c.tally.ensures.1 t))
    ∙ (λ t. let b = book_of (c.in_ok-sightings.ensures.0 t) in why_after 4 (counts b) (readings b))

-- whether something is left, and so the reply
left_is : (c : After-any_kept) → refuse_if (not c.any_kept.result) NothingLeft ≡ rescue_reply (sighted (goal.at.After-any_kept c).Start) (room (goal.at.After-any_kept c).Start)
left_is c =
    let at = goal.at.After-any_kept c in let b = sighted at.Start in
    let e = c.any_kept.ensures ∙ (λ t. let b = book_of (c.in_ok-sightings.ensures.0 t) in some_below (sightings b) (λ h. free (why_is at.After-all-why t) (place_of b h))) in
    (λ t. refuse_if (not (e t)) NothingLeft) ∙ (λ t. refuse_if (sym (left_lem b (sound at.In_ok-sightings)) t) NothingLeft) ∙ rw c.in_ok-sightings.ensures.1 at (replied at.After-checked)

pub returns-then-not-any_kept : goal.returns-then-not-any_kept
returns-then-not-any_kept c = record { replied = rw c.if-not-any_kept.true at (left_is (goal.at.returns-then-not-any_kept c).After-any_kept); reasons_are = refl }

pub returns : goal.returns
returns c =
    let at = goal.at.returns c in let b = sighted at.Start in
    record {
      replied = rw c.if-not-any_kept.false at (left_is at.After-any_kept);
      reasons_are =
          c.write_reasons.ensures
          ∙ (λ t. let b = book_of (c.in_ok-sightings.ensures.0 t) in tabulate (sightings b) (λ h. get_or (why_is at.After-all-why t) (place_of b h) 0))
          ∙ tabulate_ext (sightings b) _ (reason b) (λ h l. why_reason b (sound at.In_ok-sightings) h l);
    }
