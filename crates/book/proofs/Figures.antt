-- Figure 9 as a sighting book: it is accepted, and its listing, byte for byte, by computation from the rules; and a book for refusals 1, 21 and 22 each. The
-- program of books/ runs the others. Assumes nothing. In the comments a blank stands for a tab, and | for an LF.
use mathlib.Core.Path.{◌≡◌, refl, ◌∙◌, ap, ap₂}
use mathlib.Core.List.{List, [], ◌∷◌}
use Prim.Native.Nat.{ℕ}
use Rattle.exact.specs.First.{first}
use Rattle.exact.specs.Tabulate.{tabulate}
use Rattle.reply.specs.declared.Refusal.TheVariants.{Malformed, Sightings, Field}
use Rattle.station.specs.Sightings.{lengths_fit, out_of_range}
use Rattle.station.specs.Replies.{reply_of}
use Rattle.station.proofs.StationFigures.{pair_of_objects, figure_9 as station-9}
use Rattle.text.specs.Parts.{on_first, parted}
use Rattle.text.specs.Lines.{lines_of, line_no, bytes_of, unended}
use Rattle.text.specs.Fields.{fields_of, field_at, letter_of}
use Rattle.text.specs.Numbers.{read_digits, unsigned_of, plus, minus, numeral_within}
use Rattle.text.specs.Decimal.{digits, digits_of, written}
use Rattle.text.specs.Rows.{before, numbers_within, behind_within, row_values}
use Rattle.text.specs.Written.{in_order}
use Rattle.page.specs.Page.{printed}
use Rattle.book.specs.Lines.{sighting_of, field_no, malformed, book_of, lines_reply, book_reply}
use Rattle.book.specs.Listing.{objects_seen, object_line, means_lines, station_listing}
use Rattle.book.specs.File.{listing_of}
use Rattle.std.specs.Prelude.{Ok, Err}

-- S 1 1 0 0|S 1 1 1 648004000|S 1 2 0 144010000|S 1 2 1 792016000|
abbrev pub book9 : List ℕ
book9 =
    83 ∷ 9 ∷ 49 ∷ 9 ∷ 49 ∷ 9 ∷ 48 ∷ 9 ∷ 48 ∷ 10 ∷
    83 ∷ 9 ∷ 49 ∷ 9 ∷ 49 ∷ 9 ∷ 49 ∷ 9 ∷ 54 ∷ 52 ∷ 56 ∷ 48 ∷ 48 ∷ 52 ∷ 48 ∷ 48 ∷ 48 ∷ 10 ∷
    83 ∷ 9 ∷ 49 ∷ 9 ∷ 50 ∷ 9 ∷ 48 ∷ 9 ∷ 49 ∷ 52 ∷ 52 ∷ 48 ∷ 49 ∷ 48 ∷ 48 ∷ 48 ∷ 48 ∷ 10 ∷
    83 ∷ 9 ∷ 49 ∷ 9 ∷ 50 ∷ 9 ∷ 49 ∷ 9 ∷ 55 ∷ 57 ∷ 50 ∷ 48 ∷ 49 ∷ 54 ∷ 48 ∷ 48 ∷ 48 ∷ 10 ∷
    []

-- STA 4 2|O 1 0 1|O 2 144011000 1|
abbrev pub listing9 : List ℕ
listing9 =
    83 ∷ 84 ∷ 65 ∷ 9 ∷ 52 ∷ 9 ∷ 50 ∷ 10 ∷
    79 ∷ 9 ∷ 49 ∷ 9 ∷ 48 ∷ 9 ∷ 49 ∷ 10 ∷
    79 ∷ 9 ∷ 50 ∷ 9 ∷ 49 ∷ 52 ∷ 52 ∷ 48 ∷ 49 ∷ 49 ∷ 48 ∷ 48 ∷ 48 ∷ 9 ∷ 49 ∷ 10 ∷
    []

-- its sightings are those of figure 9
sightings_9 : book_of book9 ≡ pair_of_objects 648004000 144010000 792016000
unfolding tabulate on_first parted lines_of fields_of field_at letter_of read_digits unsigned_of plus minus numeral_within before numbers_within behind_within row_values sighting_of line_no field_no book_of
sightings_9 = refl

lines_9 : lines_reply book9 ≡ Ok tt
unfolding first on_first parted lines_of bytes_of unended fields_of field_at letter_of read_digits unsigned_of plus minus numeral_within before numbers_within behind_within sighting_of line_no malformed lines_reply
lines_9 = refl

reply_9 : book_reply book9 ≡ Ok tt
unfolding book_reply
reply_9 = rw (lines_9, sightings_9) station-9.0

means_9 : station_listing (book_of book9) ≡ listing9
unfolding station_listing objects_seen object_line in_order digits digits_of written
means_9 = ap station_listing sightings_9 ∙ ap₂ (means_lines 4) station-9.1.0 station-9.1.1

pub figure_9 : (book_reply book9 ≡ Ok tt) × (listing_of book9 ≡ listing9)
unfolding listing_of printed
figure_9 = (reply_9, rw reply_9 means_9)

-- X 1 1 0 0|
abbrev pub unknown : List ℕ
unknown =
    88 ∷ 9 ∷ 49 ∷ 9 ∷ 49 ∷ 9 ∷ 48 ∷ 9 ∷ 48 ∷ 10 ∷
    []

-- S 1 1 0 0|S 1 1 1 648000000
abbrev lacks_lf : List ℕ
lacks_lf =
    83 ∷ 9 ∷ 49 ∷ 9 ∷ 49 ∷ 9 ∷ 48 ∷ 9 ∷ 48 ∷ 10 ∷
    83 ∷ 9 ∷ 49 ∷ 9 ∷ 49 ∷ 9 ∷ 49 ∷ 9 ∷ 54 ∷ 52 ∷ 56 ∷ 48 ∷ 48 ∷ 48 ∷ 48 ∷ 48 ∷ 48 ∷
    []

-- S 1 1 0 0|S 1 1 2 648000000|
abbrev third_face : List ℕ
third_face =
    83 ∷ 9 ∷ 49 ∷ 9 ∷ 49 ∷ 9 ∷ 48 ∷ 9 ∷ 48 ∷ 10 ∷
    83 ∷ 9 ∷ 49 ∷ 9 ∷ 49 ∷ 9 ∷ 50 ∷ 9 ∷ 54 ∷ 52 ∷ 56 ∷ 48 ∷ 48 ∷ 48 ∷ 48 ∷ 48 ∷ 48 ∷ 10 ∷
    []

pub refusals : (book_reply unknown ≡ Err (Malformed 1)) × (book_reply lacks_lf ≡ Err (Malformed 2)) × (book_reply [] ≡ Err Sightings) × (book_reply third_face ≡ Err (Field 2))
unfolding first tabulate on_first parted lines_of bytes_of unended fields_of field_at letter_of read_digits unsigned_of plus minus numeral_within before numbers_within behind_within row_values sighting_of line_no field_no malformed book_of lines_reply book_reply lengths_fit out_of_range reply_of
refusals = (refl, refl, refl, refl)
