-- The listing of a station, byte for byte. "`STA`, number of sightings, number of objects seen; then for each object seen, in order, `O`, object, direction, P."
use Rattle.std.specs.Prelude.{Bool, cond, List, [], ◌∷◌, ◌++◌, ℕ, zero, suc, ◌+◌, ℤ, pos, get_or}
use Rattle.std.specs.Int.Signed.{lt_z}
use Rattle.text.specs.Written.{in_order}
use Rattle.page.specs.Lines.{heading_line, numbered_line}
use Rattle.station.specs.Sightings.{Book, sightings}
use Rattle.station.specs.Table.{counts, readings}
use Rattle.station.specs.Means.{directions, pair_counts}

abbrev pub sta_line : (sightings objects : ℕ) → List ℕ
sta_line sightings objects = heading_line (83 ∷ 84 ∷ 65 ∷ []) sightings objects

abbrev pub o_line : (object : ℕ) (direction P : ℤ) → List ℕ
o_line object direction P = numbered_line 79 object direction P

-- object j + 1 is seen where it has a pair
abbrev pub seen : (pairs : List ℤ) (j : ℕ) → Bool
seen pairs j = lt_z (pos 0) (get_or pairs j (pos 0))

-- how many of the first n objects are seen
unfoldable pub objects_seen : (pairs : List ℤ) (n : ℕ) → ℕ
objects_seen pairs zero = 0
objects_seen pairs (suc n) = objects_seen pairs n + cond (seen pairs n) 1 0

-- the line of object j + 1: none, where it is not seen
unfoldable pub object_line : (directions pairs : List ℤ) (j : ℕ) → List ℕ
object_line directions pairs j = cond (seen pairs j) (o_line (j + 1) (get_or directions j (pos 0)) (get_or pairs j (pos 0))) []

abbrev pub means_lines : (sightings : ℕ) (directions pairs : List ℤ) → List ℕ
means_lines sightings directions pairs = sta_line sightings (objects_seen pairs 16) ++ in_order 16 (object_line directions pairs)

-- of sightings that are accepted
unfoldable pub station_listing : Book → List ℕ
station_listing b = means_lines (sightings b) (directions (counts b) (readings b)) (pair_counts (counts b))
