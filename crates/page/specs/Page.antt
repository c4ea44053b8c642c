-- What is answered and printed of a file whose reply and listing are given: by an operation that lists an accepted one, and for programs.
use Rattle.std.specs.Prelude.{◌≡◌, cond, List, [], ℕ, ltb, length, Result, Ok, Err}
use Rattle.std.proofs.lemmas.List.Edits.{sets}
use Rattle.reply.specs.declared.Refusal.{Refusal}
use Rattle.reply.specs.Reply.{Reply}
use Rattle.reply.specs.declared.Verdict.{Verdict}
use Rattle.reply.specs.Numbers.{number_of, place_of}
use Rattle.reply.specs.Checks.{refuse_if, ◌and_then◌, leaves, figure_of}
use Rattle.reply.specs.Verdicts.{refused}
use Rattle.text.specs.Written.{Wrote}
use Rattle.page.specs.Lines.{refused_line}

-- what becomes of a file: the length of the listing of an accepted one, or the refusal
abbrev pub Listed : Type 0
Listed = Result ℕ Refusal

-- ---- the operation on a file: where the reply is to accept, the listing stands at the start of the lent buffer, and its length is answered;
-- "a refusal returns number and place only; all lent lists stay as they were"
pub record ListedBy (rule : Reply) (listing before : List ℕ) (listed : Listed) (after : List ℕ) : Type 0 where
  pub answer : listed ≡ figure_of rule (length listing)
  pub buffer : after ≡ leaves rule (sets before 0 listing) before

-- a lent buffer that could not hold the longest listing: a length that disagrees, refused before all else
unfoldable pub in_room : (why : Refusal) (most room : ℕ) → Reply → Reply
in_room why most room reply = refuse_if (ltb room most) why and_then reply

-- ---- "A refusal prints one line: REFUSED, number, place." None, where the lent buffer has fewer than 52 bytes
unfoldable pub refused_line_in : Verdict → (room : ℕ) → List ℕ
refused_line_in v room = cond (ltb room 52) [] (refused_line v.number v.place)

-- ---- for programs: what is printed of any file, the listing of an accepted one or the line of its refusal
unfoldable pub printed : Reply → (listing : List ℕ) → List ℕ
printed (Ok _) listing = listing
printed (Err why) listing = refused_line (number_of why) (place_of why)

-- what goes into a lent buffer of so many bytes: nothing, where it could not hold the longest listing
unfoldable pub printed_in : (most room : ℕ) → Reply → (listing : List ℕ) → List ℕ
printed_in most room reply listing = cond (ltb room most) [] (printed reply listing)

-- what is left to do once a file has been listed: nothing where it was accepted, and else the line of its refusal
pub record Printed (before : List ℕ) (listed : Listed) (after : List ℕ) (next : ℕ) : Type 0 where
  pub stands : (size : ℕ) → listed ≡ Ok size → (after ≡ before) × (next ≡ size)
  pub line : (why : Refusal) → listed ≡ Err why → Wrote before 0 (refused_line_in (refused why) (length before)) after next
