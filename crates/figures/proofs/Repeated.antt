-- Figure 4 for every pair of misclosures that is in range, equal or not. Assumes nothing.
--   repeated        "Two conditions 100, 100, equal or unequal w: 6 at row 2."
use mathlib.Core.Path.{◌≡◌, refl, ap}
use mathlib.Core.Bool.{Bool, true, false, ◌||◌}
use Prim.Native.Nat.{zero, suc, ◌≤◌}
use native.Mathlib.Omega.{arith}
use borrow.Author.Tests.{le-ltb}
use lib.Dec.{ltb}
use lib.IntN.{ℤ, pos, nat_abs, ◌*ℤ◌}
use Rattle.exact.specs.Sum.{sum}
use Rattle.exact.specs.First.{first}
use Rattle.exact.specs.Nearest.{nearest}
use Rattle.exact.proofs.Bound.{abs_mul}
use Rattle.exact.proofs.Searching.{Failed, first_at, first_none}
use Rattle.reply.specs.declared.Refusal.TheVariants.{WeakRow}
use Rattle.direction.specs.Ranges.{directions_reply}
use Rattle.doolittle.specs.Solution.{N, reduced, D, L, weak_row, weak}
use Rattle.doolittle.proofs.Weakness.{weak_by_low}
use Rattle.adjustment.specs.Refusals.{counts_amiss, differs, lengths_amiss, coefficient_fault, misclosure_fault, conditions_reply, rows_reply, solution_reply, input_reply}
use Rattle.adjustment.specs.Promise.{adjust_reply}
use Rattle.adjustment.proofs.Figures.{figure4, table_in, reply_to}
use Rattle.std.specs.Prelude.{Ok, Err}

in_range : (w : ℤ) → nat_abs w ≤ 1000000 → ltb 1000000 (nat_abs w) ≡ false
in_range w small = le-ltb 1000000 (nat_abs w) small

-- the constant of row 1 is 1,000*w, well below 4,000,000,000
constant_1 : (w : ℤ) → nat_abs w ≤ 1000000 → ltb 4000000000 (nat_abs (pos 1000 *ℤ w)) ≡ false
constant_1 w small = le-ltb 4000000000 (nat_abs (pos 1000 *ℤ w)) (omega (arith, small, abs_mul (pos 1000) w))

row_1_stands : (w w' : ℤ) → nat_abs w ≤ 1000000 → weak (table_in (figure4 w w')) 0 ≡ false
unfolding sum nearest first N reduced D L weak_row weak
row_1_stands w w' small = ap (λ (b : Bool). b || false) (constant_1 w small)

-- D(2,2) = 20,000 - 20,000, whatever the constant is
row_2_weak : (w w' : ℤ) → weak (table_in (figure4 w w')) 1 ≡ true
unfolding sum nearest first N reduced D weak_row weak
row_2_weak w w' = let t = table_in (figure4 w w') in weak_by_low 2 1 (N t 1 1) (D t 1) (L t 1) refl

rows : (w w' : ℤ) → nat_abs w ≤ 1000000 → rows_reply (table_in (figure4 w w')) ≡ Err (WeakRow 2)
unfolding rows_reply
rows w w' small = rw (first_at 2 (weak (table_in (figure4 w w'))) 1 (omega arith) before (row_2_weak w w')) refl
  where
    before : Failed (weak (table_in (figure4 w w'))) 1
    before zero l = row_1_stands w w' small
    before (suc h) l = absurd (omega arith)

-- both conditions pass 4 and 5
unfaulted : (w w' : ℤ) → nat_abs w ≤ 1000000 → nat_abs w' ≤ 1000000 → Failed (λ j. coefficient_fault (table_in (figure4 w w')) j || misclosure_fault (table_in (figure4 w w')) j) 2
unfolding first coefficient_fault misclosure_fault
unfaulted w w' small small' zero l = in_range w small
unfaulted w w' small small' (suc zero) l = in_range w' small'
unfaulted w w' small small' (suc (suc h)) l = absurd (omega arith)

conditions : (w w' : ℤ) → nat_abs w ≤ 1000000 → nat_abs w' ≤ 1000000 → conditions_reply (table_in (figure4 w w')) ≡ Ok tt
unfolding conditions_reply
conditions w w' small small' = rw (first_none 2 _ (unfaulted w w' small small')) refl

pub repeated : (w w' : ℤ) → nat_abs w ≤ 1000000 → nat_abs w' ≤ 1000000 → reply_to (figure4 w w') ≡ Err (WeakRow 2)
unfolding first directions_reply counts_amiss differs lengths_amiss solution_reply input_reply adjust_reply
repeated w w' small small' = rw (conditions w w' small small') (rw (rows w w' small) refl)
