-- "Sightings at a station": from the table of counts n and the table of readings r to the directions, in the rules' letters.
-- Position i + 1, object j + 1; object 1, the initial, is j = 0.
use Rattle.std.specs.Prelude.{Bool, cond, not, ◌&&◌, List, ℕ, ltb, ℤ, pos, nat_abs, ◌+ℤ◌, ◌-ℤ◌, ◌*ℤ◌}
use Rattle.std.specs.Int.Signed.{lt_z}
use Rattle.exact.specs.Circle.{C, floor, modulo}
use Rattle.exact.specs.First.{first}
use Rattle.exact.specs.Same.{same}
use Rattle.exact.specs.Tabulate.{tabulate}
use Rattle.station.specs.SumWhere.{sum_where}
use Rattle.station.specs.Table.{entry}

-- half of the circle C
abbrev pub half_c : ℤ
half_c = pos 648000000

-- z "brought by whole circles into" [-half, half), where a circle is twice the half
unfoldable pub centred : ℤ → ℤ → ℤ
centred z half = modulo (z +ℤ half) (pos 2 *ℤ half) -ℤ half

-- the left and the right reading of a position and an object
abbrev pub L : List ℤ → ℕ → ℕ → ℤ
L r i j = entry r 0 i j

abbrev pub R : List ℤ → ℕ → ℕ → ℤ
R r i j = entry r 1 i j

-- the object was sighted in the position, by either face
unfoldable pub seen : List ℤ → ℕ → ℕ → Bool
seen n i j = lt_z (pos 0) (entry n 0 i j +ℤ entry n 1 i j)

-- 23: "a face missing or given more than once": sighted, but not once left and once right
unfoldable pub faces_fault : List ℤ → ℕ → ℕ → Bool
faces_fault n i j = seen n i j && not (same (entry n 0 i j) (pos 1) && same (entry n 1 i j) (pos 1))

-- 24: "position without object 1": another object was sighted there, and object 1 was not
unfoldable pub initial_fault : List ℤ → ℕ → ℕ → Bool
initial_fault n i j = seen n i j && not (seen n i 0)

-- "For a pair, s is R - L - C/2, brought by whole circles into [-C/2, C/2)."
unfoldable pub s : List ℤ → ℕ → ℕ → ℤ
s r i j = centred (R r i j -ℤ L r i j -ℤ half_c) half_c

-- 25: "It may be at most 60,000 in size."
unfoldable pub apart_fault : List ℤ → List ℤ → ℕ → ℕ → Bool
apart_fault n r i j = seen n i j && ltb 60000 (nat_abs (s r i j))

-- "the doubled direction is g = 2(L - L1) + s - s1, modulo 2C, where L1 and s1 belong to object 1 there"
unfoldable pub g : List ℤ → ℕ → ℕ → ℤ
g r i j = modulo (pos 2 *ℤ (L r i j -ℤ L r i 0) +ℤ s r i j -ℤ s r i 0) (pos 2 *ℤ C)

-- "For each object, take g of its lowest position as base b."
unfoldable pub lowest : List ℤ → ℕ → ℕ
lowest n j = first 16 (λ i. seen n i j)

abbrev pub base : List ℤ → List ℤ → ℕ → ℤ
base n r j = g r (lowest n j) j

-- "Each other g differs from b by e, brought into [-C, C)": the base differs from itself by 0
unfoldable pub e : List ℤ → List ℤ → ℕ → ℕ → ℤ
e n r i j = centred (g r i j -ℤ base n r j) C

-- 26: e "at most 120,000 in size"
unfoldable pub spread_fault : List ℤ → List ℤ → ℕ → ℕ → Bool
spread_fault n r i j = seen n i j && ltb 120000 (nat_abs (e n r i j))

-- "With P pairs": by the check of 23 each position that has the object has one pair
unfoldable pub P : List ℤ → ℕ → ℤ
P n j = sum_where 16 (λ i. seen n i j) (λ i. pos 1)

-- the sum of e over the positions that have the object
unfoldable pub sum_of_e : List ℤ → List ℤ → ℕ → ℤ
sum_of_e n r j = sum_where 16 (λ i. seen n i j) (λ i. e n r i j)

-- "t = P*b + sum of e"
abbrev pub t : List ℤ → List ℤ → ℕ → ℤ
t n r j = P n j *ℤ base n r j +ℤ sum_of_e n r j

-- "the direction is floor((t + P) / 2P) modulo C: halves go upward here"; "an object never seen has 0 and 0"
unfoldable pub direction : List ℤ → List ℤ → ℕ → ℤ
direction n r j = cond (lt_z (pos 0) (P n j)) (modulo (floor (t n r j +ℤ P n j) (pos 2 *ℤ P n j)) C) (pos 0)

-- "The answer gives direction and P for all 16 objects"
abbrev pub directions : List ℤ → List ℤ → List ℤ
directions n r = tabulate 16 (direction n r)

abbrev pub pair_counts : List ℤ → List ℤ
pair_counts n = tabulate 16 (P n)
