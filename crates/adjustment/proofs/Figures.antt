-- The rules' figures 1, 2 and 4 to 8, computed from the definitions. Assumes nothing.
--   figure_1, figure_2       accepted tables with N, K, R, u and Q
--   figure_4 to figure_8     two equal conditions, a correlate at its limit and past it, a light condition, a remainder past its limit and at it
use mathlib.Core.Path.{◌≡◌, refl}
use mathlib.Core.List.{List, [], ◌∷◌}
use Prim.Native.Nat.{ℕ}
use lib.ListN.{length, replicate}
use lib.IntN.{ℤ, pos, neg_ℤ}
use Rattle.exact.specs.Sum.{sum}
use Rattle.exact.specs.Nearest.{nearest}
use Rattle.exact.specs.Circle.{floor, modulo}
use Rattle.exact.specs.First.{first}
use Rattle.exact.specs.Tabulate.{tabulate}
use Rattle.reply.specs.declared.Refusal.TheVariants.{WeakRow, Correlate, Remainder}
use Rattle.reply.specs.Reply.{Reply}
use Rattle.direction.specs.Ranges.{directions_reply}
use Rattle.doolittle.specs.Table.{Table, at, table_of}
use Rattle.doolittle.specs.Solution.{N, reduced, D, L, M, weak_row, weak, back, K}
use Rattle.adjustment.specs.Corrections.{V_of, R_of, u_of, adjusted_of, Q_of}
use Rattle.adjustment.specs.Refusals.{counts_amiss, differs, lengths_amiss, coefficient_fault, misclosure_fault, conditions_reply, rows_reply, correlates_reply, remainders_reply, corrections_reply, solution_reply, input_reply}
use Rattle.adjustment.specs.Promise.{Answers, lists, adjust_reply, answers_of}
use Rattle.std.specs.Prelude.{Ok, Err}

-- a whole number below 0
abbrev minus : ℕ → ℤ
minus n = neg_ℤ (pos n)

-- a figure: m directions of inverse weight q, the coefficients row by row, and the misclosures
pub record Figure : Type 0 where
  pub m : ℕ
  pub q : ℕ
  pub coefficients : List ℤ
  pub misclosures : List ℤ

abbrev pub table_in : Figure → Table
table_in f = table_of (replicate f.m (pos f.q)) f.coefficients f.misclosures

-- the reply, with directions that are all 0 and answer lists of the right lengths
abbrev pub reply_to : Figure → Reply
reply_to f =
    let by_direction = replicate f.m (pos 0) in let by_condition = replicate (length f.misclosures) (pos 0) in
    adjust_reply by_direction (replicate f.m (pos f.q)) f.coefficients f.misclosures (lists by_direction by_direction by_direction by_condition by_condition by_condition)

-- all six answer lists, with directions that are all 0
abbrev pub answers_in : Figure → Answers
answers_in f = answers_of (table_in f) (K (table_in f)) (at (replicate f.m (pos 0)))

abbrev pub K_in : Figure → List ℤ
K_in f = tabulate (table_in f).n (K (table_in f))

abbrev pub R_in : Figure → List ℤ
R_in f = tabulate (table_in f).n (R_of (table_in f) (K (table_in f)))

abbrev pub u_in : Figure → List ℤ
u_in f = tabulate (table_in f).m (u_of (table_in f) (K (table_in f)))

abbrev pub Q_in : Figure → List ℤ
Q_in f = tabulate (table_in f).n (Q_of (table_in f) (K (table_in f)))

abbrev pub figure1 : Figure
figure1 = record { m = 3; q = 1; coefficients = minus 306 ∷ pos 694 ∷ minus 1058 ∷ []; misclosures = minus 79200 ∷ [] }

pub figure_1 :
    (reply_to figure1 ≡ Ok tt)
    × (N (table_in figure1) 0 0 ≡ pos 1694636)
    × (K_in figure1 ≡ pos 467357 ∷ [])
    × (R_in figure1 ≡ minus 2948 ∷ [])
    × (u_in figure1 ≡ minus 1430 ∷ pos 3243 ∷ minus 4945 ∷ [])
    × (Q_in figure1 ≡ pos 3200000 ∷ [])
unfolding sum nearest first tabulate directions_reply N reduced D L M weak_row weak back K V_of R_of u_of Q_of counts_amiss differs lengths_amiss coefficient_fault misclosure_fault conditions_reply rows_reply correlates_reply remainders_reply corrections_reply solution_reply input_reply adjust_reply
figure_1 = (refl, refl, refl, refl, refl, refl)

abbrev pub figure2 : Figure
figure2 = record { m = 4; q = 1; coefficients = minus 100 ∷ pos 100 ∷ minus 100 ∷ pos 100 ∷ []; misclosures = pos 9300 ∷ [] }

pub figure_2 :
    (reply_to figure2 ≡ Ok tt)
    × (K_in figure2 ≡ minus 2325000 ∷ [])
    × (u_in figure2 ≡ pos 2325 ∷ minus 2325 ∷ pos 2325 ∷ minus 2325 ∷ [])
    × (R_in figure2 ≡ pos 0 ∷ [])
unfolding sum nearest first tabulate directions_reply N reduced D L M weak_row weak back K V_of R_of u_of Q_of counts_amiss differs lengths_amiss coefficient_fault misclosure_fault conditions_reply rows_reply correlates_reply remainders_reply corrections_reply solution_reply input_reply adjust_reply
figure_2 = (refl, refl, refl, refl)

-- two conditions 100, 100, with the misclosures w and w'
abbrev pub figure4 : ℤ → ℤ → Figure
figure4 w w' = record { m = 2; q = 1; coefficients = replicate 4 (pos 100); misclosures = w ∷ w' ∷ [] }

pub figure_4 : (reply_to (figure4 (pos 500) (pos 500)) ≡ Err (WeakRow 2)) × (reply_to (figure4 (pos 500) (minus 500)) ≡ Err (WeakRow 2))
unfolding sum nearest first tabulate directions_reply N reduced D L M weak_row weak back K V_of R_of u_of Q_of counts_amiss differs lengths_amiss coefficient_fault misclosure_fault conditions_reply rows_reply correlates_reply remainders_reply corrections_reply solution_reply input_reply adjust_reply
figure_4 = (refl, refl)

-- one direction and one condition
abbrev pub single : ℤ → ℤ → Figure
single a w = record { m = 1; q = 1; coefficients = a ∷ []; misclosures = w ∷ [] }

-- the six answers of such a table, all zero
abbrev pub zeros : Answers
zeros = let zero = pos 0 ∷ [] in lists zero zero zero zero zero zero

pub figure_5 :
    (reply_to (single (pos 10) (pos 1000)) ≡ Ok tt)
    × (K_in (single (pos 10) (pos 1000)) ≡ minus 100000000 ∷ [])
    × (reply_to (single (pos 10) (pos 1001)) ≡ Err (Correlate 1))
unfolding sum nearest first tabulate directions_reply N reduced D L M weak_row weak back K V_of R_of u_of Q_of counts_amiss differs lengths_amiss coefficient_fault misclosure_fault conditions_reply rows_reply correlates_reply remainders_reply corrections_reply solution_reply input_reply adjust_reply
figure_5 = (refl, refl, refl)

pub figure_6 : (reply_to (single (pos 9) (pos 0)) ≡ Ok tt) × (answers_in (single (pos 9) (pos 0)) ≡ zeros)
unfolding sum nearest first tabulate directions_reply N reduced D L M weak_row weak back K V_of R_of u_of floor modulo adjusted_of Q_of counts_amiss differs lengths_amiss coefficient_fault misclosure_fault conditions_reply rows_reply correlates_reply remainders_reply corrections_reply solution_reply input_reply adjust_reply
figure_6 = (refl, refl)

abbrev pub figure7 : Figure
figure7 = record { m = 4; q = 10; coefficients = replicate 4 (pos 2000); misclosures = pos 200 ∷ [] }

pub figure_7 : (reply_to figure7 ≡ Err (Remainder 1)) × (K_in figure7 ≡ minus 13 ∷ []) × (R_in figure7 ≡ minus 80000000 ∷ [])
unfolding sum nearest first tabulate directions_reply N reduced D L M weak_row weak back K V_of R_of u_of Q_of counts_amiss differs lengths_amiss coefficient_fault misclosure_fault conditions_reply rows_reply correlates_reply remainders_reply corrections_reply solution_reply input_reply adjust_reply
figure_7 = (refl, refl, refl)

abbrev pub figure8 : Figure
figure8 = record { m = 10; q = 10; coefficients = replicate 10 (pos 1000); misclosures = pos 5 ∷ [] }

pub figure_8 : (reply_to figure8 ≡ Ok tt) × (K_in figure8 ≡ minus 1 ∷ []) × (R_in figure8 ≡ minus 50000000 ∷ [])
unfolding sum nearest first tabulate directions_reply N reduced D L M weak_row weak back K V_of R_of u_of Q_of counts_amiss differs lengths_amiss coefficient_fault misclosure_fault conditions_reply rows_reply correlates_reply remainders_reply corrections_reply solution_reply input_reply adjust_reply
figure_8 = (refl, refl, refl)
