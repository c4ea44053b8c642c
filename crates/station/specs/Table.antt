-- The station's table: for each face, position and object, how many sightings the list has, and what they read.
use Rattle.std.specs.Prelude.{List, ℕ, ◌+◌, ◌*◌, ◌/◌, ◌%◌, ℤ, pos, get_or}
use Rattle.exact.specs.Tabulate.{tabulate}
use Rattle.station.specs.Sightings.{Book, sightings, reading_at, is_of}
use Rattle.station.specs.SumWhere.{sum_where}

-- the sum of a value v over the list's sightings of one face, position and object
unfoldable pub total : Book → (ℕ → ℤ) → ℕ → ℕ → ℕ → ℤ
total b v f i j = sum_where (sightings b) (is_of b f i j) v

-- "Left and right are joined only where position and object agree": the place of a face, a position and an object in a table
abbrev pub slot : ℕ → ℕ → ℕ → ℕ
slot f i j = 256 * f + 16 * i + j

-- what a table has there
abbrev pub entry : List ℤ → ℕ → ℕ → ℕ → ℤ
entry table f i j = get_or table (slot f i j) (pos 0)

-- the table of the sums of v: 2 faces by 16 positions by 16 objects
abbrev pub table_of : Book → (ℕ → ℤ) → List ℤ
table_of b v = tabulate 512 (λ k. total b v (k / 256) (k % 256 / 16) (k % 16))

-- the table n of counts: each sighting is one
abbrev pub one : ℕ → ℤ
one h = pos 1

abbrev pub counts : Book → List ℤ
counts b = table_of b one

-- the table r of readings: where there is one sighting, the sum is its reading
abbrev pub readings : Book → List ℤ
readings b = table_of b (reading_at b)
