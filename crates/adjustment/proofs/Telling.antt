-- Small tables whose answers tell the rules from errors that look right, computed from the definitions. Assumes nothing.
--   inverse_weights          the larger q has the larger correction; with weights for inverse weights it would be the other way round
--   unrounded_remainder      R comes from the unrounded corrections; those that are printed leave Q, which is another number
--   each_product_rounded     each product of a correlate is rounded; one rounding of their sum would give K(1) = -8,250
--   light_alone              a lone condition with the coefficient 1 is no weak row, up to the limit of its correlate and past it; one with 0 is
--   beside_a_thousandth      a pivot of 1 whose 1,000-fold is one below its entry is too low; at the entry, and one above it, it is not
--   only_rounding            a condition that repeats another in other numbers has a pivot of 160, by rounding alone, and is refused
--   small_pivots             a correlate of 2 * 10^13, by a pivot of 1, is refused with 7 at its row
--   at_one_minute            a printed correction of 60,000 passes, of either sign, and one of 60,001 is a blunder
--   lowest_direction         of two blunders the one with the lower direction number is named, though the other is larger
--   remainder_first          a table with a remainder that is too large and a blunder is refused for its remainder
use mathlib.Core.Path.{◌≡◌, refl}
use mathlib.Core.List.{[], ◌∷◌, ◌++◌}
use Prim.Native.Nat.{ℕ, ◌*◌}
use lib.ListN.{replicate}
use lib.IntN.{ℤ, pos, neg_ℤ}
use Rattle.exact.specs.Sum.{sum}
use Rattle.exact.specs.Nearest.{nearest}
use Rattle.exact.specs.Tabulate.{tabulate}
use Rattle.exact.specs.First.{first}
use Rattle.reply.specs.declared.Refusal.TheVariants.{WeakRow, Correlate, Remainder, Correction}
use Rattle.reply.specs.Reply.{Reply}
use Rattle.doolittle.specs.Table.{Table, table_of}
use Rattle.doolittle.specs.Solution.{N, reduced, D, L, M, weak_row, weak, back, K}
use Rattle.adjustment.specs.Corrections.{V_of, R_of, u_of, Q_of}
use Rattle.adjustment.specs.Refusals.{rows_reply, correlates_reply, remainders_reply, corrections_reply, solution_reply}
use Rattle.std.specs.Prelude.{Ok, Err}

-- two directions with q = 1 and q = 4, one condition 100, 100 with w = 1,000
abbrev unequal : Table
unequal = table_of (pos 1 ∷ pos 4 ∷ []) (pos 100 ∷ pos 100 ∷ []) (pos 1000 ∷ [])

pub inverse_weights : tabulate 2 (V_of unequal (K unequal)) ≡ neg_ℤ (pos 20000000) ∷ neg_ℤ (pos 80000000) ∷ []
unfolding sum nearest tabulate N reduced D L M back K V_of
inverse_weights = refl

-- figure 1's condition
abbrev one : Table
one = table_of (pos 1 ∷ pos 1 ∷ pos 1 ∷ []) (neg_ℤ (pos 306) ∷ pos 694 ∷ neg_ℤ (pos 1058) ∷ []) (neg_ℤ (pos 79200) ∷ [])

pub unrounded_remainder : (R_of one (K one) 0 ≡ neg_ℤ (pos 2948)) × (Q_of one (K one) 0 ≡ pos 3200000)
unfolding sum nearest tabulate N reduced D L M back K V_of R_of u_of Q_of
unrounded_remainder = (refl, refl)

-- three directions in three conditions, each of two of them
abbrev three : Table
three =
    table_of (pos 1 ∷ pos 1 ∷ pos 1 ∷ [])
    (pos 100 ∷ pos 100 ∷ pos 0 ∷ pos 0 ∷ pos 100 ∷ pos 100 ∷ pos 100 ∷ pos 0 ∷ pos 100 ∷ [])
    (pos 1 ∷ neg_ℤ (pos 43) ∷ pos 13 ∷ [])

pub each_product_rounded : tabulate 3 (K three) ≡ neg_ℤ (pos 8249) ∷ pos 35750 ∷ neg_ℤ (pos 20251) ∷ []
unfolding sum nearest tabulate N reduced D L M back K
each_product_rounded = refl

-- one direction with one coefficient
abbrev single : (a w : ℤ) → Table
single a w = table_of (pos 1 ∷ []) (a ∷ []) (w ∷ [])

pub light_alone :
    (solution_reply (single (pos 1) (pos 10)) ≡ Ok tt)
    × (K (single (pos 1) (pos 10)) 0 ≡ neg_ℤ (pos 100000000))
    × (solution_reply (single (pos 1) (pos 11)) ≡ Err (Correlate 1))
    × (solution_reply (single (pos 0) (pos 0)) ≡ Err (WeakRow 1))
unfolding sum nearest first N reduced D L M weak_row weak back K V_of R_of u_of rows_reply correlates_reply remainders_reply corrections_reply solution_reply
light_alone = (refl, refl, refl, refl)

-- five directions of q = 1: the second condition is the first so many times, and 1 in a direction of its own, so that its pivot is 1
abbrev second : (x₁ x₂ x₃ x₄ times : ℕ) → Table
second x₁ x₂ x₃ x₄ c =
    table_of (replicate 5 (pos 1))
    (pos x₁ ∷ pos x₂ ∷ pos x₃ ∷ pos x₄ ∷ pos 0 ∷ pos (c * x₁) ∷ pos (c * x₂) ∷ pos (c * x₃) ∷ pos (c * x₄) ∷ pos 1 ∷ [])
    (pos 0 ∷ pos 0 ∷ [])

-- entry and pivot of the second row, and the reply
abbrev SecondRow : Table → (entry pivot : ℕ) → Reply → Type 0
SecondRow t entry pivot reply = (N t 1 1 ≡ pos entry) × (D t 1 1 ≡ pos pivot) × (solution_reply t ≡ reply)

pub beside_a_thousandth :
    SecondRow (second 1 3 0 0 10) 1001 1 (Err (WeakRow 2))
    × SecondRow (second 10 3 1 1 3) 1000 1 (Ok tt)
    × SecondRow (second 31 6 1 0 1) 999 1 (Ok tt)
unfolding sum nearest first N reduced D L M weak_row weak back K V_of R_of u_of rows_reply correlates_reply remainders_reply corrections_reply solution_reply
beside_a_thousandth = ((refl, refl, refl), (refl, refl, refl), (refl, refl, refl))

-- eight directions of q = 10, 1,999 in each and then 1,997 in each
abbrev repeated : Table
repeated = table_of (replicate 8 (pos 10)) (replicate 8 (pos 1999) ++ replicate 8 (pos 1997)) (pos 0 ∷ pos 0 ∷ [])

pub only_rounding : SecondRow repeated 319040720 160 (Err (WeakRow 2))
unfolding sum nearest first N reduced D L M weak_row weak back K V_of R_of u_of rows_reply correlates_reply remainders_reply corrections_reply solution_reply
only_rounding = (refl, refl, refl)

-- one direction in the first condition, the same and another in the second, and the largest misclosures
abbrev steep : Table
steep = table_of (pos 1 ∷ pos 1 ∷ []) (pos 1 ∷ pos 0 ∷ pos 1 ∷ pos 1 ∷ []) (neg_ℤ (pos 1000000) ∷ pos 1000000 ∷ [])

pub small_pivots : (K steep 1 ≡ neg_ℤ (pos 20000000000000)) × (solution_reply steep ≡ Err (Correlate 2))
unfolding sum nearest first N reduced D L M weak_row weak back K V_of R_of u_of rows_reply correlates_reply remainders_reply corrections_reply solution_reply
small_pivots = (refl, refl)

-- one direction with coefficient 100, so that u is -w
abbrev alone : ℤ → Table
alone = single (pos 100)

pub at_one_minute :
    (solution_reply (alone (pos 60000)) ≡ Ok tt)
    × (solution_reply (alone (neg_ℤ (pos 60000))) ≡ Ok tt)
    × (solution_reply (alone (pos 60001)) ≡ Err (Correction 1))
    × (solution_reply (alone (neg_ℤ (pos 60001))) ≡ Err (Correction 1))
unfolding sum nearest first N reduced D L M weak_row weak back K V_of R_of u_of rows_reply correlates_reply remainders_reply corrections_reply solution_reply
at_one_minute = (refl, refl, refl, refl)

-- three directions, each alone in its condition: u is -w of each
abbrev two_blunders : Table
two_blunders =
    table_of (pos 1 ∷ pos 1 ∷ pos 1 ∷ [])
    (pos 100 ∷ pos 0 ∷ pos 0 ∷ pos 0 ∷ pos 100 ∷ pos 0 ∷ pos 0 ∷ pos 0 ∷ pos 100 ∷ [])
    (pos 500 ∷ pos 61000 ∷ neg_ℤ (pos 90000) ∷ [])

pub lowest_direction :
    (solution_reply two_blunders ≡ Err (Correction 2)) × (tabulate 3 (u_of two_blunders (K two_blunders)) ≡ neg_ℤ (pos 500) ∷ neg_ℤ (pos 61000) ∷ pos 90000 ∷ [])
unfolding sum nearest first tabulate N reduced D L M weak_row weak back K V_of R_of u_of rows_reply correlates_reply remainders_reply corrections_reply solution_reply
lowest_direction = (refl, refl)

-- figure 7's condition, and a fifth direction alone in another
abbrev open_and_blunder : Table
open_and_blunder =
    table_of (pos 10 ∷ pos 10 ∷ pos 10 ∷ pos 10 ∷ pos 1 ∷ [])
    (pos 2000 ∷ pos 2000 ∷ pos 2000 ∷ pos 2000 ∷ pos 0 ∷ pos 0 ∷ pos 0 ∷ pos 0 ∷ pos 0 ∷ pos 100 ∷ [])
    (pos 200 ∷ pos 70000 ∷ [])

pub remainder_first : (solution_reply open_and_blunder ≡ Err (Remainder 1)) × (u_of open_and_blunder (K open_and_blunder) 4 ≡ neg_ℤ (pos 70000))
unfolding sum nearest first N reduced D L M weak_row weak back K V_of R_of u_of rows_reply correlates_reply remainders_reply corrections_reply solution_reply
remainder_first = (refl, refl)
