-- What the inner functions ask of a list and of its tables. No rule: a caller outside sees none of it.
use Rattle.std.specs.Prelude.{◌≡◌, false, List, ℕ, ◌<◌, ◌≤◌, ℤ, length}
use Rattle.exact.specs.Within.{Within}
use Rattle.reply.specs.Checks.{◌and_then◌}
use Rattle.reply.specs.Reply.{Reply}
use Rattle.station.specs.declared.fields.Sightings.{Sightings}
use Rattle.station.specs.Replies.{lengths_reply, fields_reply}
use Rattle.station.specs.Sightings.{Book, book, sightings, field_fault}

-- lists of one length
abbrev pub OneLength : Book → Type 0
OneLength b = (length b.object ≡ sightings b) × ((length b.face ≡ sightings b) × (length b.reading ≡ sightings b))

-- lists of one length, at most 512, and every field in its range
pub record InRange (b : Book) : Type 0 where
  pub few : sightings b ≤ 512
  pub objects : length b.object ≡ sightings b
  pub faces : length b.face ≡ sightings b
  pub readings : length b.reading ≡ sightings b
  pub sound : (h : ℕ) → h < sightings b → field_fault b h ≡ false

-- a table of counts, of at most 512 sightings
abbrev pub CountTable : List ℤ → Type 0
CountTable n = Within 512 n

-- a table of sums, of at most 512 readings: 512 circles
abbrev pub SumTable : List ℤ → Type 0
SumTable r = Within 663552000000 r

-- the sightings that the code's four lists have
abbrev pub book_of : Sightings → Book
book_of s = book s.position.now s.object.now s.face.now s.reading.now

-- 21 by the four lists alone, and then 22: what sightings have passed that are sound
abbrev pub opening : Book → Reply
opening b = lengths_reply b 16 16 and_then fields_reply b
