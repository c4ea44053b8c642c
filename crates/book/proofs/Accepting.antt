-- What a spoiled book that is accepted has passed. Assumes nothing.
--   lines_sound, lines_ended      a book whose lines pass: each is a sighting, and no byte stands behind them
--   lines_passed                  and the other way round
--   row_of, field_at, sighted     the numbers of such a line, and the same as the fields of its sighting; as many sightings as lines
--   sighting_text, line_text, book_text    such a line is the text of its sighting, and the book that of its sightings
--   spoiled_passed, by_rescue     the checks of a spoiled book that is accepted; the reply to one whose lines are sightings
--   few_lines, line_short         it has at most 512 lines, each of at most 20 bytes
use mathlib.Core.Path.{◌≡◌, sym, ◌∙◌, ap}
use mathlib.Core.Bool.{true, false}
use mathlib.Core.List.{List, [], ◌∷◌, ◌++◌}
use Prim.Native.Nat.{ℕ, ◌+◌, ◌<◌, ◌≤◌}
use native.Mathlib.Omega.{arith}
use borrow.Author.Tests.{le-ltb, ltb-false}
use lib.Dec.{ltb}
use lib.IntN.{ℤ, pos}
use lib.ListN.{length, get_or, length-append}
use Rattle.exact.proofs.Filling.{tabulate_length, tabulate_at}
use Rattle.exact.proofs.Searching.{Failed}
use Rattle.reply.specs.declared.Refusal.TheVariants.{Malformed, Count}
use Rattle.reply.specs.Checks.{refuse_if, refuse_first, ◌and_then◌}
use Rattle.reply.proofs.Checking.{both_accepted, if_accepted, none_refused, refuse_none}
use Rattle.text.specs.Decimal.{written}
use Rattle.text.specs.Lines.{lines_in, line_no, unended}
use Rattle.text.specs.Rows.{row_values}
use Rattle.text.specs.Written.{line_end}
use Rattle.text.proofs.Lining.{signed_fields, four_of, letter_told}
use Rattle.text.proofs.ReadingBack.{few_written}
use Rattle.text.proofs.Rowing.{not_missing}
use Rattle.text.proofs.Sifting.{all_lines}
use Rattle.text.proofs.Stacking.{stacked, order_ext}
use Rattle.station.specs.Bounds.{InRange}
use Rattle.station.specs.Sightings.{Book, sightings, position_at, object_at, face_at, reading_at}
use Rattle.station.specs.Rescue.{rescue_reply}
use Rattle.station.proofs.Sounding.{rescue_in}
use Rattle.station.proofs.Tallying.{in_fields}
use Rattle.book.specs.Lines.{letter_S, sighting_of, field_no, column, malformed, book_of, lines_reply}
use Rattle.book.specs.Rescue.{spoiled_reply}
use Rattle.std.specs.Prelude.{Ok}

-- the text of the sighting at place h of a list
abbrev pub sighting_text : Book → ℕ → List ℕ
sighting_text b h = letter_S ∷ signed_fields (position_at b h ∷ object_at b h ∷ face_at b h ∷ reading_at b h ∷ [])

module _ (file : List ℕ) where
  -- ---- lines
  pub lines_sound : lines_reply file ≡ Ok tt → Failed (malformed file) (lines_in file)
  unfolding lines_reply
  lines_sound e =
      let n = lines_in file in
      none_refused n (malformed file) (λ h. Malformed (h + 1)) (both_accepted (refuse_first n (malformed file) (λ h. Malformed (h + 1))) (refuse_if (unended file) (Malformed (n + 1))) e).0

  pub lines_ended : lines_reply file ≡ Ok tt → unended file ≡ false
  unfolding lines_reply
  lines_ended e =
      let n = lines_in file in
      if_accepted (unended file) (Malformed (n + 1)) (both_accepted (refuse_first n (malformed file) (λ h. Malformed (h + 1))) (refuse_if (unended file) (Malformed (n + 1))) e).1

  pub lines_passed : Failed (malformed file) (lines_in file) → unended file ≡ false → lines_reply file ≡ Ok tt
  unfolding lines_reply
  lines_passed sound ended = rw (refuse_none (lines_in file) (malformed file) (λ h. Malformed (h + 1)) sound, ended)

  -- the numbers of a line
  abbrev pub row_of : ℕ → List ℤ
  row_of h = row_values (sighting_of (line_no file h)) []

  pub field_at : (k h : ℕ) → h < lines_in file → get_or (column k file) h (pos 0) ≡ get_or (row_of h) k (pos 0)
  unfolding field_no
  field_at k h l = tabulate_at (lines_in file) (field_no k file) h (pos 0) l

  -- as many sightings as lines
  pub sighted : sightings (book_of file) ≡ lines_in file
  unfolding book_of
  sighted = tabulate_length (lines_in file) (field_no 0 file)

  -- a line that is read as a sighting is that sighting's text
  pub line_text : lines_reply file ≡ Ok tt → (h : ℕ) → h < lines_in file → line_no file h ≡ sighting_text (book_of file) h
  unfolding book_of malformed sighting_of
  line_text e h l =
      let zs = row_of h in let line = line_no file h in
      let told = letter_told 11 letter_S 4 (omega arith) (omega arith) zs line (not_missing (sighting_of line) (lines_sound e h l)) in
      told.text ∙ ap (λ (ys : List ℤ). letter_S ∷ signed_fields ys) (four_of zs told.many) ∙ rw (field_at 0 h l, field_at 1 h l, field_at 2 h l, field_at 3 h l)

  pub book_text : lines_reply file ≡ Ok tt → file ≡ stacked (sightings (book_of file)) (sighting_text (book_of file))
  book_text e =
      sym (all_lines file (lines_ended e))
      ∙ order_ext (lines_in file) (λ h. line_no file h ++ line_end) (λ h. sighting_text (book_of file) h ++ line_end) (λ h l. ap (λ (s : List ℕ). s ++ line_end) (line_text e h l))
      ∙ ap (λ (n : ℕ). stacked n (sighting_text (book_of file))) (sym sighted)

  -- ---- a spoiled book
  pub spoiled_passed : spoiled_reply file ≡ Ok tt → (length file ≤ 65535) × (lines_reply file ≡ Ok tt) × (rescue_reply (book_of file) true ≡ Ok tt)
  unfolding spoiled_reply
  spoiled_passed e =
      let a = both_accepted (refuse_if (ltb 65535 (length file)) (Count 0)) (lines_reply file and_then rescue_reply (book_of file) true) e in
      let b = both_accepted (lines_reply file) (rescue_reply (book_of file) true) a.1 in
      (ltb-false 65535 (length file) (if_accepted (ltb 65535 (length file)) (Count 0) a.0), b.0, b.1)

  pub by_rescue : length file ≤ 65535 → lines_reply file ≡ Ok tt → spoiled_reply file ≡ rescue_reply (book_of file) true
  unfolding spoiled_reply
  by_rescue l e = rw (le-ltb 65535 (length file) l, e)

  module _ (e : spoiled_reply file ≡ Ok tt) where
    ranges : InRange (book_of file)
    ranges = (rescue_in (book_of file) true (spoiled_passed e).2).0

    pub few_lines : lines_in file ≤ 512
    few_lines = omega (arith, ranges.few, sighted)

    -- S, and with a tab each a position and an object of two bytes, a face of one and a reading of ten
    pub line_short : (h : ℕ) → h < lines_in file → length (line_no file h) ≤ 20
    unfolding signed_fields
    line_short h l =
        let b = book_of file in let p = position_at b h in let o = object_at b h in let f = face_at b h in let r = reading_at b h in
        let fields = in_fields b h (ranges.sound h (omega (arith, l, sighted))) in
        omega (
          arith,
          ap length (line_text (spoiled_passed e).1 h l),
          length-append (written p) (signed_fields (o ∷ f ∷ r ∷ [])),
          length-append (written o) (signed_fields (f ∷ r ∷ [])),
          length-append (written f) (signed_fields (r ∷ [])),
          length-append (written r) (signed_fields []),
          few_written 1 p fields.positions.0 (omega (arith, fields.positions.1.1)),
          few_written 1 o fields.objects.0 (omega (arith, fields.objects.1.1)),
          few_written 0 f fields.faces.0 (omega (arith, fields.faces.1.1)),
          few_written 9 r fields.readings.0 (omega (arith, fields.readings.1.1)),
        )
