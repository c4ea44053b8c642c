-- The sightings of a station: four field lists, and what may stand in them.
use Rattle.std.specs.Prelude.{Bool, ◌&&◌, ◌||◌, List, ℕ, ◌+◌, eqb, leb, ℤ, pos, ◌-ℤ◌, length, get_or}
use Rattle.exact.specs.Circle.{C}
use Rattle.exact.specs.Outside.{outside}
use Rattle.exact.specs.Same.{same}

-- "A sighting is position (1 to 16), object (1 to 16), face (0 left, 1 right) and reading (0 to C-1)." One list for each field.
pub record Book : Type 0 where
  pub position : List ℤ
  pub object : List ℤ
  pub face : List ℤ
  pub reading : List ℤ

abbrev pub book : List ℤ → List ℤ → List ℤ → List ℤ → Book
book position object face reading = record { position = position; object = object; face = face; reading = reading }

-- the number of sightings
abbrev pub sightings : Book → ℕ
sightings b = length b.position

-- the fields of the sighting at place h of the lists, counted from 0
abbrev pub position_at : Book → ℕ → ℤ
position_at b h = get_or b.position h (pos 0)

abbrev pub object_at : Book → ℕ → ℤ
object_at b h = get_or b.object h (pos 0)

abbrev pub face_at : Book → ℕ → ℤ
face_at b h = get_or b.face h (pos 0)

abbrev pub reading_at : Book → ℕ → ℤ
reading_at b h = get_or b.reading h (pos 0)

-- "A list has 1 to 512 sightings": the four lists are of one length, and the two lent answer lists have a place for each of the 16 objects
unfoldable pub lengths_fit : ℕ → ℕ → ℕ → ℕ → ℕ → ℕ → Bool
lengths_fit positions objects faces readings directions pairs =
    leb 1 positions && (leb positions 512 && (eqb objects positions && (eqb faces positions && (eqb readings positions && (eqb directions 16 && eqb pairs 16)))))

-- a sighting's field is out of range
unfoldable pub out_of_range : ℤ → ℤ → ℤ → ℤ → Bool
out_of_range position object face reading =
    outside (pos 1) (pos 16) position || (outside (pos 1) (pos 16) object || (outside (pos 0) (pos 1) face || outside (pos 0) (C -ℤ pos 1) reading))

-- the same of the sighting at place h
abbrev pub field_fault : Book → ℕ → Bool
field_fault b h = out_of_range (position_at b h) (object_at b h) (face_at b h) (reading_at b h)

-- The lists number positions and objects from 1; below, i and j number them from 0: position i + 1, object j + 1. Object 1, the initial, is j = 0.
-- the sighting at place h is of face f, position i + 1 and object j + 1
unfoldable pub is_of : Book → ℕ → ℕ → ℕ → ℕ → Bool
is_of b f i j h = same (face_at b h) (pos f) && (same (position_at b h) (pos (i + 1)) && same (object_at b h) (pos (j + 1)))
