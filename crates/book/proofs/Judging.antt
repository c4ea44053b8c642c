-- The promises of the operations on a spoiled book. Assumes nothing.
--   judged_refused, judged_by_station, judged_as   `spoiled::judge` keeps its promise: of a book that its reader refuses, and by what `station` answers
--   judged_given                           an accepted book and its reasons
--   part_small                             no part of an accepted book has more bytes than there is room for
--   rescue_short, rescue_refused, rescue_listed   `rescue` keeps its promise: with a buffer that is too short, and by what the reader of the book answers
--   rescue_leaves                          a refusal that keeps the promise leaves the lent buffer as it was
--   no_rescue, rescue_printed              `list_rescued` keeps its promise: with a buffer that is too short, and by the answer of `rescue`
--   one_rescue, one_rescue_listing         two answers that keep a promise are equal, and leave equal buffers: of `rescue` and of `list_rescued`
use mathlib.Core.Path.{◌≡◌, refl, sym, ◌∙◌, ap, ap₂}
use mathlib.Core.List.{List, ◌++◌}
use Prim.Native.Nat.{ℕ, ◌<◌, ◌≤◌}
use native.Mathlib.Omega.{arith}
use borrow.Author.Tests.{eq-eqb}
use lib.Dec.{eqb}
use lib.ListN.{length, take, drop, length-append, length-drop}
use lib.Seq.{length-take-le, take_at}
use Rattle.exact.specs.Tabulate.{tabulate}
use Rattle.exact.proofs.Filling.{tabulate_length}
use borrow.Author.Rules.{rules}
use Rattle.reply.specs.declared.Refusal.{Refusal}
use Rattle.reply.specs.declared.Refusal.TheVariants.{Sightings}
use Rattle.reply.specs.Verdicts.{verdict_of}
use Rattle.reply.proofs.Checking.{figure_given}
use Rattle.text.specs.Lines.{lines_in}
use Rattle.text.specs.Written.{Wrote}
use Rattle.text.proofs.Putting.{lines_within, one_wrote}
use Rattle.page.specs.Page.{Listed, ListedBy, Printed}
use Rattle.page.proofs.Printing.{listed_refused, listed_accepted, listed_reply, refusal_leaves, one_listed, short, roomy, nothing_printed, listed_printed}
use Rattle.station.specs.Sightings.{Book, book, sightings}
use Rattle.station.specs.Rescue.{reason, rescue_reply, Judges}
use Rattle.book.specs.declared.parts.Part.{Part}
use Rattle.book.specs.declared.parts.Part.TheVariants.{Kept, Dropped}
use Rattle.book.specs.Lines.{book_of}
use Rattle.book.specs.declared.entries.Fields.{Fields}
use Rattle.book.specs.Inner.{Entered}
use Rattle.book.specs.Rescue.{spoiled_reply, part_of, room_for, part_reply, RescuedOf, rescue_listing_in, kept_by, dropped_by, JudgedAs}
use Rattle.book.proofs.Accepting.{sighted, by_rescue, few_lines, line_short}
use Rattle.book.proofs.Parting.{kept_most, dropped_most, many_reasons, reasons_small, kept_by_lem, dropped_by_lem}
use Rattle.std.specs.Prelude.{Ok, Err}

-- ---- the reader of a spoiled book
module _ (file : List ℕ) where
  pub judged_refused : {reasons : List ℕ} (why : Refusal) → length reasons ≡ 512 → spoiled_reply file ≡ Err why → JudgedAs file (Err why) reasons
  judged_refused why long e = record { answer = rw e refl; few = tt; reasons_are = λ a. absurd (search rules); long = long }

  -- the reasons of an accepted book
  pub judged_given : {n : ℕ} {reasons : List ℕ} → JudgedAs file (Ok n) reasons → (spoiled_reply file ≡ Ok tt) × (take n reasons ≡ tabulate (lines_in file) (reason (book_of file)))
  judged_given j = let g = figure_given (spoiled_reply file) (lines_in file) (sym j.answer) in (g.0, rw g.1 (j.reasons_are refl))

  -- they stand in the first n of 512 places
  module _ {n : ℕ} {fields : Fields} (e : Entered file n fields) (reasons : List ℕ) (long : length reasons ≡ 512) where
    abbrev b : Book
    b = book (take n fields.position) (take n fields.object) (take n fields.face) (take n fields.reading)

    own : b ≡ book_of file
    unfolding book_of
    own = rw (e.positions, e.objects, e.faces, e.readings)

    room : length (take n reasons) ≡ n
    room = length-take-le n reasons (omega (arith, long, e.few))

    rule : rescue_reply b (eqb (length (take n reasons)) (sightings b)) ≡ spoiled_reply file
    rule =
        let many : sightings b ≡ lines_in file = ap (λ (x : Book). sightings x) own ∙ sighted file in
        ap₂ rescue_reply own (eq-eqb (length (take n reasons)) (sightings b) (room ∙ e.count ∙ sym many)) ∙ sym (by_rescue file e.short e.passed)

    -- by the reply of `station`
    pub judged_by_station : (why : Refusal) {after : List ℕ} → Judges b (take n reasons) (Err why) after → JudgedAs file (Err why) (after ++ drop n reasons)
    judged_by_station why {after} j = judged_refused why (cut j.reasons_are) (sym rule ∙ sym j.replied)
      where
        cut : after ≡ take n reasons → length (after ++ drop n reasons) ≡ 512
        cut same = omega (arith, length-append after (drop n reasons), length-drop n reasons, ap length same, room, long, e.few)

    pub judged_as : {after : List ℕ} → Judges b (take n reasons) (Ok tt) after → JudgedAs file (Ok n) (after ++ drop n reasons)
    judged_as {after} j =
        let told : after ≡ tabulate (lines_in file) (reason (book_of file)) =
        j.reasons_are ∙ ap (λ (x : Book). tabulate (sightings x) (reason x)) own ∙ ap (λ (k : ℕ). tabulate k (reason (book_of file))) (sighted file) in
        let many : length after ≡ lines_in file = ap length told ∙ tabulate_length (lines_in file) (reason (book_of file)) in
        record {
          answer = rw (sym rule ∙ sym j.replied) (ap Ok e.count);
          few = e.few;
          reasons_are = λ a. take_at after (drop n reasons) (lines_in file) many ∙ told;
          long = omega (arith, length-append after (drop n reasons), length-drop n reasons, many, e.count, long, e.few);
        }

-- ---- room for each part
module _ (file : List ℕ) (e : spoiled_reply file ≡ Ok tt) where
  abbrev why : List ℕ
  why = tabulate (lines_in file) (reason (book_of file))

  many : length why ≤ 512
  many = omega (arith, many_reasons file why refl, few_lines file e)

  pub part_small : (part : Part) → length (part_of part file) ≤ room_for part
  unfolding room_for
  part_small Kept =
      omega (
        arith,
        ap length (kept_by_lem file why refl),
        lines_within (length why) 21 (kept_by file why) (λ h l. kept_most file why h (line_short file e h (omega (arith, l, many_reasons file why refl)))),
        many,
      )
  part_small Dropped =
      omega (
        arith,
        ap length (dropped_by_lem file why refl),
        lines_within (length why) 8 (dropped_by why) (λ h l. dropped_most why h (omega (arith, l, many)) (reasons_small file why refl h l)),
        many,
      )

-- ---- `rescue`
module _ (part : Part) (file before : List ℕ) where
  promised : {listed : Listed} {after : List ℕ} → ListedBy (part_reply part file (length before)) (part_of part file) before listed after → RescuedOf part file before listed after
  promised l = record {
    lists = l;
    verdict = ap verdict_of (listed_reply l);
  }

  pub rescue_short : length before < room_for part → RescuedOf part file before (Err Sightings) before
  unfolding part_reply
  rescue_short l = promised (listed_refused Sightings (short Sightings (room_for part) (length before) (spoiled_reply file) l))

  module _ (room : room_for part ≤ length before) where
    with_room : part_reply part file (length before) ≡ spoiled_reply file
    unfolding part_reply
    with_room = roomy Sightings (room_for part) (length before) (spoiled_reply file) room

    pub rescue_refused : (why : Refusal) → spoiled_reply file ≡ Err why → RescuedOf part file before (Err why) before
    rescue_refused why e = promised (listed_refused why (with_room ∙ e))

    pub rescue_listed : {after : List ℕ} {n : ℕ} → spoiled_reply file ≡ Ok tt → Wrote before 0 (part_of part file) after n → RescuedOf part file before (Ok n) after
    rescue_listed e w = promised (listed_accepted (with_room ∙ e) w)

  pub rescue_leaves : (why : Refusal) (listed : Listed) (after : List ℕ) → RescuedOf part file before listed after → listed ≡ Err why → after ≡ before
  rescue_leaves why listed after a e = refusal_leaves why a.lists e

  -- ---- `list_rescued`, by what `rescue` has answered
  pub no_rescue : length before < room_for part → Wrote before 0 (rescue_listing_in part file (length before)) before 0
  unfolding rescue_listing_in
  no_rescue l = nothing_printed (room_for part) (spoiled_reply file) (part_of part file) before l

  line_fits : (part : Part) → 52 ≤ room_for part
  unfolding room_for
  line_fits Kept = omega arith
  line_fits Dropped = omega arith

  pub rescue_printed : {listed : Listed} {after last : List ℕ} {n : ℕ} → room_for part ≤ length before → RescuedOf part file before listed after → Printed after listed last n
      → Wrote before 0 (rescue_listing_in part file (length before)) last n × (n ≤ length before)
  unfolding rescue_listing_in part_reply
  rescue_printed l a p = listed_printed (room_for part) (spoiled_reply file) (part_of part file) before Sightings (line_fits part) (λ e. part_small file e part) l a.lists p

  -- ---- and there is only one
  pub one_rescue : (r r' : Listed) (after after' : List ℕ) → RescuedOf part file before r after → RescuedOf part file before r' after' → (r ≡ r') × (after ≡ after')
  one_rescue r r' after after' a b = one_listed r r' a.lists b.lists

  pub one_rescue_listing : (r r' : ℕ) (after after' : List ℕ) → Wrote before 0 (rescue_listing_in part file (length before)) after r → Wrote before 0 (rescue_listing_in part file (length before)) after' r' → (r ≡ r') × (after ≡ after')
  one_rescue_listing r r' after after' a b = one_wrote a b
