-- W-207 on the file of a sighting book: the kept lines, which are a book again, and the list of the dropped sightings, byte for byte.
use Rattle.std.specs.Prelude.{◌≡◌, true, cond, List, [], ◌∷◌, ◌++◌, ◌⊎◌, ℕ, ◌+◌, ◌≤◌, ltb, length, get_or, take, Ok, Err, Result, IsOk, IfOk}
use Rattle.exact.specs.Tabulate.{tabulate}
use Rattle.reply.specs.declared.Refusal.TheVariants.{Count, Sightings, Spread}
use Rattle.reply.specs.Reply.{Reply}
use Rattle.reply.specs.Checks.{refuse_if, ◌and_then◌, figure_reply, figure_of}
use Rattle.reply.specs.Verdicts.{verdict_of}
use Rattle.text.specs.Lines.{lines_in, line_no}
use Rattle.text.specs.Written.{line_end, in_order}
use Rattle.page.specs.Lines.{counts_end}
use Rattle.page.specs.Page.{Listed, ListedBy, in_room, printed_in}
use Rattle.station.specs.Rescue.{is_kept, reason, rescue_reply}
use Rattle.station.specs.Steps.{free}
use Rattle.book.specs.declared.parts.Part.{Part}
use Rattle.book.specs.declared.parts.Part.TheVariants.{Kept, Dropped}
use Rattle.book.specs.Lines.{book_of, lines_reply, book_reply}
use Rattle.reply.specs.declared.Refusal.{Refusal}

-- length, then 1 by line, then 21, 22 and 32 of the sightings: the same for both parts
unfoldable pub spoiled_reply : List ℕ → Reply
spoiled_reply file = refuse_if (ltb 65535 (length file)) (Count 0) and_then (lines_reply file and_then rescue_reply (book_of file) true)

-- "the kept `S` lines": line h as it stands in the book, where its sighting is kept
unfoldable pub kept_line : (file : List ℕ) (h : ℕ) → List ℕ
kept_line file h = cond (is_kept (book_of file) h) (line_no file h ++ line_end) []

-- "a line `X`, ordinal, reason for each dropped one"
abbrev pub x_line : (ordinal reason : ℕ) → List ℕ
x_line ordinal reason = (88 ∷ []) ++ counts_end ordinal reason

unfoldable pub dropped_line : (file : List ℕ) (h : ℕ) → List ℕ
dropped_line file h = cond (is_kept (book_of file) h) [] (x_line (h + 1) (reason (book_of file) h))

-- what is listed of a book
unfoldable pub part_of : Part → (file : List ℕ) → List ℕ
part_of Kept file = in_order (lines_in file) (kept_line file)
part_of Dropped file = in_order (lines_in file) (dropped_line file)

-- bytes that hold it, whatever the book: 512 lines, of 21 bytes with the longest numbers in range, and of 8
unfoldable pub room_for : Part → ℕ
room_for Kept = 10752
room_for Dropped = 4096

-- a buffer that could not hold the longest: 21 at 0, before all else
unfoldable pub part_reply : Part → (file : List ℕ) (room : ℕ) → Reply
part_reply part file room = in_room Sightings (room_for part) room (spoiled_reply file)

pub record RescuedOf (part : Part) (file before : List ℕ) (listed : Listed) (after : List ℕ) : Type 0 where
  pub lists : ListedBy (part_reply part file (length before)) (part_of part file) before listed after
  -- in the rules' numbers: number and place
  pub verdict : verdict_of (figure_reply listed) ≡ verdict_of (part_reply part file (length before))

-- ---- for programs: what of any book, that part or the line of its refusal, goes into a lent buffer of so many bytes
unfoldable pub rescue_listing_in : Part → (file : List ℕ) (room : ℕ) → List ℕ
rescue_listing_in part file room = printed_in (room_for part) room (spoiled_reply file) (part_of part file)

-- ---- a book "sound under 23 to 25": `means` accepts it, or refuses it with 26 alone
abbrev pub SoundBook : List ℕ → Type 0
SoundBook file = (book_reply file ≡ Ok tt) ⊎ ((p : ℕ) × (o : ℕ) × (book_reply file ≡ Err (Spread p o)))

-- ---- what inner functions hand each other: the lines of a book whose reasons are known, by number
abbrev pub kept_by : (file reasons : List ℕ) (h : ℕ) → List ℕ
kept_by file reasons h = cond (free reasons h) (line_no file h ++ line_end) []

abbrev pub dropped_by : (reasons : List ℕ) (h : ℕ) → List ℕ
dropped_by reasons h = cond (free reasons h) [] (x_line (h + 1) (get_or reasons h 0))

-- what the reader of a spoiled book hands on: the reply, and of an accepted book the reasons, in the first places of a lent list
pub record JudgedAs (file : List ℕ) (judged : Result ℕ Refusal) (reasons : List ℕ) : Type 0 where
  pub answer : judged ≡ figure_of (spoiled_reply file) (lines_in file)
  pub few : IfOk judged (λ n. n ≤ 512)
  pub reasons_are : IsOk judged → take (lines_in file) reasons ≡ tabulate (lines_in file) (reason (book_of file))
  pub long : length reasons ≡ 512
