-- The lowest position of an object, and its pairs. Assumes nothing.
--   lowest_none             without a lowest position the object was sighted in none
--   P_none, P_above, P_test        without a lowest position there is no pair, and with one there is
--   P_size, sum_of_e_size     at most 16 pairs, and the sum of their e
use mathlib.Core.Path.{◌≡◌}
use mathlib.Core.Bool.{true, false}
use mathlib.Core.List.{List}
use Prim.Native.Nat.{ℕ, ◌<◌, ◌≤◌}
use native.Mathlib.Omega.{arith}
use lib.IntN.{ℤ, pos, nat_abs}
use lib.Signed.{lt_z, ◌<ℤ◌, ◌≤ℤ◌}
use Rattle.std.proofs.lemmas.Int.{ints}
use Rattle.exact.proofs.Searching.{first_before, first_none}
use Rattle.station.specs.Means.{seen, lowest, e, P, sum_of_e}
use Rattle.station.specs.Table.{one}
use Rattle.station.proofs.Figures.{e_size}
use Rattle.station.proofs.Selecting.{where_failed, where_nonneg, where_zero, where_size}

module _ (n : List ℤ) (j : ℕ) where
  pub lowest_none : 16 ≤ lowest n j → (i : ℕ) → i < 16 → seen n i j ≡ false
  unfolding lowest
  lowest_none l i k = first_before 16 (λ i. seen n i j) i (omega arith)

  pub P_none : 16 ≤ lowest n j → P n j ≡ pos 0
  unfolding P
  P_none l = where_failed (λ i. seen n i j) one 16 (lowest_none l)

  pub P_above : lowest n j < 16 → pos 0 <ℤ P n j
  unfolding lowest P
  P_above l =
      let low : pos 0 ≤ℤ P n j = where_nonneg (λ i. seen n i j) 16 in
      let some : P n j ≡ pos 0 → ⊥ = λ e. omega (arith, first_none 16 (λ i. seen n i j) (where_zero (λ i. seen n i j) 16 e)) in
      grind (arith, ints)

  pub P_test : lowest n j < 16 → lt_z (pos 0) (P n j) ≡ true
  P_test l = let above = P_above l in grind (arith, ints)

pub P_size : (n : List ℤ) (j : ℕ) → nat_abs (P n j) ≤ 16
unfolding P
P_size n j = where_size (λ i. seen n i j) (λ i. pos 1) 16 1 (λ i l. omega arith)

pub sum_of_e_size : (n r : List ℤ) (j : ℕ) → nat_abs (sum_of_e n r j) ≤ 20736000000
unfolding sum_of_e
sum_of_e_size n r j = where_size (λ i. seen n i j) (λ i. e n r i j) 16 1296000000 (λ i l. e_size n r i j)
