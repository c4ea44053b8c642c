-- `station::means` meets its contract: each return is one step of the fixed order of checks, and lists are written only after the last. Assumes nothing.
use Rattle.std.proofs.Common.{◌≡◌, ◌∙◌, refl, sym, length}
use borrow.Author.Tests.{ne_eqb}
use Rattle.std.proofs.lemmas.Result.{err_from_is_err_and}
use Rattle.reply.specs.Checks.{◌and_then◌}
use Rattle.station.specs.Sightings.{Book, book}
use Rattle.station.specs.Table.{counts, readings}
use Rattle.station.specs.Means.{directions, pair_counts}
use Rattle.station.specs.Bounds.{book_of, opening}
use Rattle.station.specs.Replies.{table_reply, reply_of}
use Rattle.station.proofs.Deciding.{reply_lengths, no_room, reply_opened}
use Rattle.station.proofs.Answering.{answers_kept}
use Rattle.station.proofs.means.Goals as goal
use Rattle.station.proofs.means.Goals.{After-make_all, After-tally, After-checked, Start, then-direction-ne-OBJECTS-via-then-direction-ne-OBJECTS, then-direction-ne-OBJECTS-via-else-direction-ne-OBJECTS+then-pairs-ne-OBJECTS}

abbrev sighted : Start → Book
sighted s = book s.args.position.now s.args.object.now s.args.face.now s.args.reading.now

pub returns-then-direction-ne-OBJECTS : goal.returns-then-direction-ne-OBJECTS
returns-then-direction-ne-OBJECTS c =
    let b = sighted (goal.at.returns-then-direction-ne-OBJECTS c).Start in
    elim c.then-direction-ne-OBJECTS.branch [
      | then-direction-ne-OBJECTS-via-then-direction-ne-OBJECTS w ↦ answers_kept (sym (reply_lengths b _ _ (no_room b _ _ (rw (ne_eqb _ _ w.if-direction-ne-OBJECTS.true) refl)))) refl refl
      | then-direction-ne-OBJECTS-via-else-direction-ne-OBJECTS+then-pairs-ne-OBJECTS w ↦
          answers_kept (sym (reply_lengths b _ _ (no_room b _ _ (rw (w.if-direction-ne-OBJECTS.false, ne_eqb _ _ w.if-pairs-ne-OBJECTS.true) refl)))) refl refl
    ]

-- answer lists of 16: the reply is that of the sightings, and then of the table
replied : (c : After-checked) → let s = (goal.at.After-checked c).Start in
    (opening (sighted s) and_then table_reply (counts (sighted s)) (readings (sighted s))) ≡ reply_of (sighted s) (length s.args.direction.now) (length s.args.pairs.now)
replied c =
    let b = sighted (goal.at.After-checked c).Start in
    sym ((λ t. reply_of b (c.if-direction-ne-OBJECTS.false t) (c.if-pairs-ne-OBJECTS.false t)) ∙ reply_opened b)

pub returns-in_err-sightings : goal.returns-in_err-sightings
returns-in_err-sightings c =
    let p = err_from_is_err_and c.from_residual.result c.from_residual.ensures.1 in
    rw (p.1, p.2) (answers_kept (rw c.in_err-sightings.ensures at (replied (goal.at.returns-in_err-sightings c).After-checked)) refl refl)

-- the table is that of the sightings
filled : (c : After-tally) → let b = sighted (goal.at.After-tally c).Start in (c.tally.new.self.count ≡ counts b) × (c.tally.new.self.sums ≡ readings b)
filled c =
    let same = c.in_ok-sightings.ensures.0 in
    (c.tally.ensures.0 ∙ (λ t. counts (book_of (same t))), c.tally.ensures.1 ∙ (λ t. readings (book_of (same t))))

-- past 22 it is that of the table's checks
checked : (c : After-make_all) → let s = (goal.at.After-make_all c).Start in c.make_all.result ≡ reply_of (sighted s) (length s.args.direction.now) (length s.args.pairs.now)
checked c =
    let f = filled (goal.at.After-make_all c).After-tally in
    c.make_all.ensures ∙ (λ t. table_reply (f.0 t) (f.1 t)) ∙ rw c.in_ok-sightings.ensures.1 at (replied (goal.at.After-make_all c).After-checked)

pub returns-in_err-make_all : goal.returns-in_err-make_all
returns-in_err-make_all c =
    let p = err_from_is_err_and c.from_residual-in_err-make_all.result c.from_residual-in_err-make_all.ensures.1 in
    rw (p.1, p.2) (answers_kept (sym c.in_err-make_all.was ∙ checked (goal.at.returns-in_err-make_all c).After-make_all) refl refl)

pub returns : goal.returns
returns c =
    let f = filled (goal.at.returns c).After-tally in
    answers_kept (sym c.in_ok-make_all.was ∙ checked (goal.at.returns c).After-make_all)
    (c.write.ensures.0 ∙ (λ t. directions (f.0 t) (f.1 t))) (c.write.ensures.1 ∙ (λ t. pair_counts (f.0 t)))
