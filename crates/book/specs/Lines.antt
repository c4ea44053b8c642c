-- The sighting book: what its lines say, and the reply to it. "`S`, position, object, face, reading, parted by tabs, numbers written as in the network file."
use Rattle.std.specs.Prelude.{Bool, List, [], ℕ, ◌+◌, ltb, ℤ, pos, length, get_or, Option}
use Rattle.exact.specs.Tabulate.{tabulate}
use Rattle.reply.specs.declared.Refusal.TheVariants.{Malformed, Count}
use Rattle.reply.specs.Reply.{Reply}
use Rattle.reply.specs.Checks.{refuse_if, refuse_first, ◌and_then◌}
use Rattle.station.specs.Sightings.{Book, book}
use Rattle.station.specs.Replies.{reply_of}
use Rattle.text.specs.Lines.{unended, lines_in, line_no}
use Rattle.text.specs.Rows.{behind_letter, row_values, missing}

abbrev pub letter_S : ℕ
letter_S = 83

-- the position, object, face and reading of a line; none, where it is malformed or unknown
unfoldable pub sighting_of : List ℕ → Option (List ℤ)
sighting_of line = behind_letter letter_S 4 line

-- field k of the sighting of line h, counted from 0: 0 the position, 1 the object, 2 the face, 3 the reading
unfoldable pub field_no : (k : ℕ) (file : List ℕ) (h : ℕ) → ℤ
field_no k file h = get_or (row_values (sighting_of (line_no file h)) []) k (pos 0)

abbrev pub column : (k : ℕ) (file : List ℕ) → List ℤ
column k file = tabulate (lines_in file) (field_no k file)

-- the sightings of a book, in the order of its lines
unfoldable pub book_of : List ℕ → Book
book_of file = book (column 0 file) (column 1 file) (column 2 file) (column 3 file)

-- ---- the reply: "length, then 1 by line, then the library's own checks in their order"
unfoldable pub malformed : (file : List ℕ) (h : ℕ) → Bool
malformed file h = missing (sighting_of (line_no file h))

-- "A malformed or unknown line, or a last one without LF, is 1 at its line"
unfoldable pub lines_reply : List ℕ → Reply
lines_reply file = refuse_first (lines_in file) (malformed file) (λ h. Malformed (h + 1)) and_then refuse_if (unended file) (Malformed (lines_in file + 1))

-- "a file too long is 2 at 0"; "then 21 to 26 as the rules have them", with an answer list of 16 for the directions and one for the pairs
unfoldable pub book_reply : List ℕ → Reply
book_reply file = refuse_if (ltb 65535 (length file)) (Count 0) and_then (lines_reply file and_then reply_of (book_of file) 16 16)
