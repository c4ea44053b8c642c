-- Figures 9 and 10 of the rules, out of the definitions by computation. Assumes nothing.
--   figure_9                "Position 1: object 1 at 0 and 648,004,000; object 2 at 144,010,000 and 792,016,000. Object 2's direction is 144,011,000, P = 1."
--   figure_10_whole, figure_10_three      "One pair with g = 2C - 1: direction 0. g = 3: direction 2."
--   across_zero_lem             0.5 seconds and 359 59 59.5 are averaged to 0, not to 180 degrees
--   below_zero              t may be negative: P = 2 and t = -3 give C - 1
use mathlib.Core.Path.{◌≡◌, refl}
use mathlib.Core.List.{List, [], ◌∷◌}
use Prim.Native.Nat.{ℕ}
use lib.IntN.{ℤ, pos, negsuc, ◌+ℤ◌}
use lib.ListN.{replicate}
use Rattle.exact.specs.Sum.{sum}
use Rattle.exact.specs.Circle.{C, floor, modulo}
use Rattle.exact.specs.First.{first}
use Rattle.exact.specs.Tabulate.{tabulate}
use Rattle.exact.specs.Same.{same}
use Rattle.station.specs.Sightings.{Book, book, lengths_fit, out_of_range, is_of}
use Rattle.station.specs.Table.{total, counts, readings}
use Rattle.station.specs.Means.{centred, seen, faces_fault, initial_fault, s, apart_fault, g, lowest, e, spread_fault, P, sum_of_e, direction, directions, pair_counts}
use Rattle.station.specs.Replies.{fault, table_reply, reply_of}
use Rattle.std.specs.Prelude.{Ok}

-- one position: object 1 at 0 and right₁, object 2 at left and right
abbrev pub pair_of_objects : ℕ → ℕ → ℕ → Book
pair_of_objects right₁ left right =
    book (pos 1 ∷ pos 1 ∷ pos 1 ∷ pos 1 ∷ []) (pos 1 ∷ pos 1 ∷ pos 2 ∷ pos 2 ∷ []) (pos 0 ∷ pos 1 ∷ pos 0 ∷ pos 1 ∷ []) (pos 0 ∷ pos right₁ ∷ pos left ∷ pos right ∷ [])

-- object 1 at 0, object 2 at z, the other fourteen not seen
abbrev pub second : ℤ → List ℤ
second z = pos 0 ∷ z ∷ replicate 14 (pos 0)

abbrev pub Figure : Book → ℤ → Type 0
Figure b z = (reply_of b 16 16 ≡ Ok tt) × ((directions (counts b) (readings b) ≡ second z) × (pair_counts (counts b) ≡ pos 1 ∷ pos 1 ∷ replicate 14 (pos 0)))

pub figure_9 : Figure (pair_of_objects 648004000 144010000 792016000) (pos 144011000)
unfolding sum first tabulate floor modulo lengths_fit out_of_range same is_of total centred seen faces_fault initial_fault s apart_fault g lowest e spread_fault P sum_of_e direction fault table_reply reply_of
figure_9 = (refl, (refl, refl))

-- L = C - 1 and s = 1
pub figure_10_whole : (g (readings (pair_of_objects 648000000 1295999999 648000000)) 0 1 ≡ pos 2591999999) × Figure (pair_of_objects 648000000 1295999999 648000000) (pos 0)
unfolding sum first tabulate floor modulo lengths_fit out_of_range same is_of total centred seen faces_fault initial_fault s apart_fault g lowest e spread_fault P sum_of_e direction fault table_reply reply_of
figure_10_whole = (refl, (refl, (refl, refl)))

-- L = 1 and s = 1
pub figure_10_three : (g (readings (pair_of_objects 648000000 1 648000002)) 0 1 ≡ pos 3) × Figure (pair_of_objects 648000000 1 648000002) (pos 2)
unfolding sum first tabulate floor modulo lengths_fit out_of_range same is_of total centred seen faces_fault initial_fault s apart_fault g lowest e spread_fault P sum_of_e direction fault table_reply reply_of
figure_10_three = (refl, (refl, (refl, refl)))

-- two positions: object 1 at 0 in both, object 2 at 0.5 seconds in the first and at 359 59 59.5 in the second, no face off
abbrev pub across_zero : Book
across_zero =
    book
    (pos 1 ∷ pos 1 ∷ pos 1 ∷ pos 1 ∷ pos 2 ∷ pos 2 ∷ pos 2 ∷ pos 2 ∷ [])
    (pos 1 ∷ pos 1 ∷ pos 2 ∷ pos 2 ∷ pos 1 ∷ pos 1 ∷ pos 2 ∷ pos 2 ∷ [])
    (pos 0 ∷ pos 1 ∷ pos 0 ∷ pos 1 ∷ pos 0 ∷ pos 1 ∷ pos 0 ∷ pos 1 ∷ [])
    (pos 0 ∷ pos 648000000 ∷ pos 500 ∷ pos 648000500 ∷ pos 0 ∷ pos 648000000 ∷ pos 1295999500 ∷ pos 647999500 ∷ [])

pub across_zero_lem : (reply_of across_zero 16 16 ≡ Ok tt) × ((directions (counts across_zero) (readings across_zero) ≡ second (pos 0)) × (pair_counts (counts across_zero) ≡ pos 2 ∷ pos 2 ∷ replicate 14 (pos 0)))
unfolding sum first tabulate floor modulo lengths_fit out_of_range same is_of total centred seen faces_fault initial_fault s apart_fault g lowest e spread_fault P sum_of_e direction fault table_reply reply_of
across_zero_lem = (refl, (refl, refl))

pub below_zero : modulo (floor (negsuc 2 +ℤ pos 2) (pos 4)) C ≡ pos 1295999999
unfolding floor modulo
below_zero = refl
