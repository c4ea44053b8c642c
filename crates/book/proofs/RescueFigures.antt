-- A spoiled sighting book, and its two parts, byte for byte, by computation from the rules. Assumes nothing. In the comments a blank stands for a tab, and |
-- for an LF.
--   rescued             object 2 has two left sightings: its three lines go, for the first reason, and those of object 1 are kept
use mathlib.Core.Path.{◌≡◌, refl, ◌∙◌, ap}
use mathlib.Core.Bool.{true}
use mathlib.Core.List.{List, [], ◌∷◌}
use Prim.Native.Nat.{ℕ}
use native.Mathlib.Omega.{arith}
use lib.ListN.{length, get_or}
use Rattle.exact.specs.First.{first}
use Rattle.exact.specs.Tabulate.{tabulate}
use Rattle.text.specs.Parts.{on_first, parted}
use Rattle.text.specs.Lines.{lines_of, line_no, bytes_of, unended}
use Rattle.text.specs.Fields.{fields_of, field_at, letter_of}
use Rattle.text.specs.Numbers.{read_digits, unsigned_of, plus, minus, numeral_within}
use Rattle.text.specs.Decimal.{digits, digits_of, written}
use Rattle.text.specs.Rows.{before, numbers_within, behind_within, row_values}
use Rattle.text.specs.Written.{in_order}
use Rattle.text.proofs.Lining.{signed_fields}
use Rattle.text.proofs.Stacking.{stacked}
use Rattle.station.specs.Sightings.{Book, sightings}
use Rattle.station.specs.Rescue.{kept, ordinals, reasons, rescue_reply}
use Rattle.station.proofs.RescueFigures.{doubled_left, doubled}
use Rattle.book.specs.declared.parts.Part.TheVariants.{Kept, Dropped}
use Rattle.book.specs.Lines.{sighting_of, field_no, malformed, book_of, lines_reply}
use Rattle.book.specs.Rescue.{spoiled_reply, x_line, part_of}
use Rattle.book.proofs.Accepting.{sighting_text, by_rescue}
use Rattle.book.proofs.Rescuing.{kept_text, dropped_text}
use Rattle.std.specs.Prelude.{Ok}

-- S 1 1 0 0|S 1 2 0 144010000|S 1 1 1 648004000|S 1 2 0 144010000|S 1 2 1 792016000|
abbrev pub spoiled_book : List ℕ
spoiled_book =
    83 ∷ 9 ∷ 49 ∷ 9 ∷ 49 ∷ 9 ∷ 48 ∷ 9 ∷ 48 ∷ 10 ∷
    83 ∷ 9 ∷ 49 ∷ 9 ∷ 50 ∷ 9 ∷ 48 ∷ 9 ∷ 49 ∷ 52 ∷ 52 ∷ 48 ∷ 49 ∷ 48 ∷ 48 ∷ 48 ∷ 48 ∷ 10 ∷
    83 ∷ 9 ∷ 49 ∷ 9 ∷ 49 ∷ 9 ∷ 49 ∷ 9 ∷ 54 ∷ 52 ∷ 56 ∷ 48 ∷ 48 ∷ 52 ∷ 48 ∷ 48 ∷ 48 ∷ 10 ∷
    83 ∷ 9 ∷ 49 ∷ 9 ∷ 50 ∷ 9 ∷ 48 ∷ 9 ∷ 49 ∷ 52 ∷ 52 ∷ 48 ∷ 49 ∷ 48 ∷ 48 ∷ 48 ∷ 48 ∷ 10 ∷
    83 ∷ 9 ∷ 49 ∷ 9 ∷ 50 ∷ 9 ∷ 49 ∷ 9 ∷ 55 ∷ 57 ∷ 50 ∷ 48 ∷ 49 ∷ 54 ∷ 48 ∷ 48 ∷ 48 ∷ 10 ∷
    []

-- S 1 1 0 0|S 1 1 1 648004000|
abbrev pub kept_part : List ℕ
kept_part =
    83 ∷ 9 ∷ 49 ∷ 9 ∷ 49 ∷ 9 ∷ 48 ∷ 9 ∷ 48 ∷ 10 ∷
    83 ∷ 9 ∷ 49 ∷ 9 ∷ 49 ∷ 9 ∷ 49 ∷ 9 ∷ 54 ∷ 52 ∷ 56 ∷ 48 ∷ 48 ∷ 52 ∷ 48 ∷ 48 ∷ 48 ∷ 10 ∷
    []

-- X 2 1|X 4 1|X 5 1|
abbrev pub dropped_part : List ℕ
dropped_part =
    88 ∷ 9 ∷ 50 ∷ 9 ∷ 49 ∷ 10 ∷
    88 ∷ 9 ∷ 52 ∷ 9 ∷ 49 ∷ 10 ∷
    88 ∷ 9 ∷ 53 ∷ 9 ∷ 49 ∷ 10 ∷
    []

its_sightings : book_of spoiled_book ≡ doubled_left
unfolding tabulate on_first parted lines_of fields_of field_at letter_of read_digits unsigned_of plus minus numeral_within before numbers_within behind_within row_values sighting_of line_no field_no book_of
its_sightings = refl

its_lines : lines_reply spoiled_book ≡ Ok tt
unfolding first on_first parted lines_of bytes_of unended fields_of field_at letter_of read_digits unsigned_of plus minus numeral_within before numbers_within behind_within sighting_of line_no malformed lines_reply
its_lines = refl

its_kept : part_of Kept spoiled_book ≡ kept_part
unfolding in_order signed_fields written digits digits_of
its_kept =
    kept_text spoiled_book its_lines
    ∙ ap (λ (b : Book). stacked (sightings (kept b)) (sighting_text (kept b))) its_sightings
    ∙ ap (λ (b : Book). stacked (sightings b) (sighting_text b)) doubled.1

its_dropped : part_of Dropped spoiled_book ≡ dropped_part
unfolding in_order digits digits_of
its_dropped =
    dropped_text spoiled_book
    ∙ ap (λ (b : Book). in_order (length (ordinals b)) (λ m. x_line (get_or (ordinals b) m 0) (get_or (reasons b) m 0))) its_sightings
    ∙ (λ t. in_order (length (doubled.2 t)) (λ m. x_line (get_or (doubled.2 t) m 0) (get_or (doubled.3 t) m 0)))

pub rescued : (spoiled_reply spoiled_book ≡ Ok tt) × (part_of Kept spoiled_book ≡ kept_part) × (part_of Dropped spoiled_book ≡ dropped_part)
rescued = (by_rescue spoiled_book (omega arith) its_lines ∙ ap (λ (b : Book). rescue_reply b true) its_sightings ∙ doubled.0, its_kept, its_dropped)
