-- The refusals of a lent condition table, in their order.
use Rattle.std.specs.Prelude.{Bool, ◌||◌, not, cond, List, ℕ, suc, ◌+◌, ◌-◌, ◌*◌, ltb, eqb, length, ℤ, nat_abs}
use Rattle.exact.specs.First.{some_below}
use Rattle.reply.specs.declared.Refusal.TheVariants.{Count, Coefficient, Misclosure, WeakRow, Correlate, Remainder, Correction}
use Rattle.reply.specs.Reply.{Reply}
use Rattle.reply.specs.Checks.{refuse_if, refuse_first, ◌and_then◌}
use Rattle.direction.specs.Ranges.{directions_reply}
use Rattle.doolittle.specs.Table.{Table, table_of}
use Rattle.doolittle.specs.Solution.{weak, K}
use Rattle.adjustment.specs.Corrections.{R_of, u_of}

-- Directions m: 1 to 64. Conditions n: 1 to 24, and n not above m.
unfoldable pub counts_amiss : ℕ → ℕ → Bool
counts_amiss m n = ltb m 1 || (ltb 64 m || (ltb n 1 || (ltb 24 n || ltb m n)))

-- lengths that disagree: of q and the coefficients, of the three answers by direction (V, u, adjusted), of the three by condition (K, R, Q)
unfoldable pub differs : (count x y z : ℕ) → Bool
differs count x y z = not (eqb x count) || (not (eqb y count) || not (eqb z count))

unfoldable pub lengths_amiss : (m n q a v u adjusted k r Q : ℕ) → Bool
lengths_amiss m n q a v u adjusted k r Q = not (eqb q m) || (not (eqb a (n * m)) || (differs m v u adjusted || differs n k r Q))

-- 4: a coefficient beyond 2,000; 5: a misclosure beyond 1,000,000; by condition
unfoldable pub coefficient_fault : Table → ℕ → Bool
coefficient_fault t j = some_below t.m (λ i. ltb 2000 (nat_abs (t.a j i)))

unfoldable pub misclosure_fault : Table → ℕ → Bool
misclosure_fault t j = ltb 1000000 (nat_abs (t.w j))

unfoldable pub conditions_reply : Table → Reply
conditions_reply t =
    refuse_first t.n (λ j. coefficient_fault t j || misclosure_fault t j)
    (λ j. cond (coefficient_fault t j) (Coefficient (j + 1)) (Misclosure (j + 1)))

-- 6 by row
unfoldable pub rows_reply : Table → Reply
rows_reply t = refuse_first t.n (weak t) (λ j. WeakRow (j + 1))

-- 7 in back order: |K| at most 10^8
unfoldable pub correlates_reply : Table → Reply
correlates_reply t = refuse_first t.n (λ b. ltb 100000000 (nat_abs (K t (t.n - suc b)))) (λ b. Correlate (t.n - b))

-- 8 by condition: |R| at most 50,000,000
unfoldable pub remainders_reply : Table → (ℕ → ℤ) → Reply
remainders_reply t k = refuse_first t.n (λ j. ltb 50000000 (nat_abs (R_of t k j))) (λ j. Remainder (j + 1))

-- "A correction past one minute is a blunder. [..] Any printed correction above 60,000 in size refuses the whole adjustment."
abbrev pub past_minute : ℤ → Bool
past_minute u = ltb 60000 (nat_abs u)

-- 9 by direction: "9, place the lowest direction number concerned, tested after 8"
unfoldable pub corrections_reply : Table → (ℕ → ℤ) → Reply
corrections_reply t k = refuse_first t.m (λ i. past_minute (u_of t k i)) (λ i. Correction (i + 1))

-- the refusals of a table that has passed its input checks
unfoldable pub solution_reply : Table → Reply
solution_reply t = rows_reply t and_then (correlates_reply t and_then (remainders_reply t (K t) and_then corrections_reply t (K t)))

-- the input checks of a lent table; the last six numbers are the lengths of the lent answer lists V, u, adjusted, K, R and Q
unfoldable pub input_reply : (directions qs cs ws : List ℤ) (v u adjusted k r Q : ℕ) → Reply
input_reply ds qs cs ws v u adjusted k r Q =
    refuse_if (counts_amiss (length ds) (length ws)) (Count 0)
    and_then (refuse_if (lengths_amiss (length ds) (length ws) (length qs) (length cs) v u adjusted k r Q) (Count 0)
    and_then (directions_reply ds qs
    and_then conditions_reply (table_of qs cs ws)))
