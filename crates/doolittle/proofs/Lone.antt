-- A lone condition is weak exactly where all its coefficients are zero. Assumes nothing.
--   entry_from_0                 N(j,j) is not below 0
--   Untouching, no_entry, zero_entry      N(j,j) is 0 only where the condition touches no direction, and there it is
--   lone_row                     of the four tests of a lone condition's row only that of its pivot can find anything
--   lone_weak, lone_zero         so the row is weak only where the condition touches no direction, and there it is
use mathlib.Core.Path.{◌≡◌, refl, sym, ◌∙◌, ap}
use mathlib.Core.Bool.{Bool, true, false, ◌&&◌}
use mathlib.Core.List.{List}
use Prim.Native.Nat.{ℕ, ◌<◌, ◌≤◌, zero-le}
use native.Mathlib.Omega.{arith}
use borrow.Author.Tests.{le-ltb}
use lib.Dec.{ltb, leb}
use lib.ListN.{length}
use lib.IntN.{ℤ, pos, nat_abs, ◌*ℤ◌}
use lib.Signed.{◌≤ℤ◌}
use Rattle.std.proofs.lemmas.Int.{ints, unsigned_abs-mul}
use Rattle.exact.specs.Sum.{sum}
use Rattle.exact.proofs.Bound.{abs_mul}
use Rattle.exact.proofs.Order.{from_one, mul_nonneg, square_nonneg, square_zero, lt_le}
use Rattle.exact.proofs.Ring.{*ℤ_assoc}
use Rattle.exact.proofs.Searching.{some_none, from_test, from_failed}
use Rattle.exact.proofs.Sum.{sum_ext, sum_zero, sum_nonneg, sum_zeros}
use Rattle.doolittle.specs.Table.{Table, table_of}
use Rattle.doolittle.specs.Solution.{N, reduced, D, L, multiplier, low_pivot, weak}
use Rattle.doolittle.specs.Inner.{Sound, share}
use Rattle.doolittle.proofs.Reducing.{untouched, N_size}
use Rattle.doolittle.proofs.Weakness.{large_d, large_m, weak_by_low, weak_by_multiplier}

-- condition j has no coefficient other than zero
abbrev pub Untouching : Table → ℕ → Type 0
Untouching t j = (i : ℕ) → i < t.m → t.a j i ≡ pos 0

-- ---- N(j,j)
module _ (t : Table) (j : ℕ) where
  abbrev square : ℕ → ℤ
  square i = t.q i *ℤ (t.a j i *ℤ t.a j i)

  entry_is : N t j j ≡ sum t.m square
  unfolding N
  entry_is = sum_ext t.m (λ i. t.q i *ℤ t.a j i *ℤ t.a j i) square (λ i l. *ℤ_assoc (t.q i) (t.a j i) (t.a j i))

  pub zero_entry : Untouching t j → N t j j ≡ pos 0
  unfolding N
  zero_entry z = sum_ext t.m (share t j j) (λ i. pos 0) (λ i l. untouched t j j i (z i l)) ∙ sum_zero t.m

  module _ (weighted : (i : ℕ) → i < t.m → pos 1 ≤ℤ t.q i) where
    square_from_0 : (i : ℕ) → i < t.m → pos 0 ≤ℤ square i
    square_from_0 i l = mul_nonneg (lt_le (from_one (t.q i) (weighted i l))) (square_nonneg (t.a j i))

    pub entry_from_0 : pos 0 ≤ℤ N t j j
    entry_from_0 = rw entry_is (sum_nonneg t.m square square_from_0)

    pub no_entry : N t j j ≡ pos 0 → Untouching t j
    no_entry e i l = square_zero (t.q i) (t.a j i) (from_one (t.q i) (weighted i l)) (sum_zeros t.m square square_from_0 (sym entry_is ∙ e) i l)

-- ---- a row whose pivot is its entry
low_entry : (x : ℤ) → pos 0 ≤ℤ x → low_pivot x x ≡ true → x ≡ pos 0
low_entry x h e = grind (arith, ints, unsigned_abs-mul (pos 1000) x)

module _ (qs cs ws : List ℤ) (s : Sound qs cs ws) (one : length ws ≡ 1) where
  abbrev t : Table
  t = table_of qs cs ws

  small_coefficients : large_d t.n 0 (D t 0) ≡ false
  unfolding D reduced
  small_coefficients =
      some_none t.n (λ k. leb 0 k && ltb 2560000000 (nat_abs (D t 0 k)))
      (λ k l. from_test 0 k (λ k. ltb 2560000000 (nat_abs (D t 0 k))) zero-le ∙ le-ltb 2560000000 (nat_abs (N t 0 k)) (N_size qs cs ws s 0 k (omega arith) l))

  small_constant : nat_abs (L t 0) ≤ 4000000000
  unfolding L reduced
  small_constant = omega (arith, abs_mul (pos 1000) (t.w 0), s.w_most 0 (omega arith))

  no_multipliers : large_m t.n 0 (D t 0) ≡ false
  no_multipliers =
      let large : ℕ → Bool = λ k. ltb 1000000000 (nat_abs (multiplier (D t 0 k) (D t 0 0))) in
      some_none t.n (λ k. leb 1 k && large k) (λ k l. from_failed 1 large k (omega arith))

  pub lone_row : weak t 0 ≡ low_pivot (N t 0 0) (N t 0 0)
  unfolding weak D reduced
  lone_row = by_test (low_pivot (N t 0 0) (N t 0 0)) refl
    where
      by_test : (b : Bool) → low_pivot (N t 0 0) (N t 0 0) ≡ b → weak t 0 ≡ b
      by_test true e = weak_by_low t.n 0 (N t 0 0) (D t 0) (L t 0) e
      by_test false e = weak_by_multiplier t.n 0 (N t 0 0) (D t 0) (L t 0) small_coefficients small_constant e ∙ no_multipliers

  pub lone_weak : weak t 0 ≡ true → Untouching t 0
  lone_weak e = no_entry t 0 s.q_least (low_entry (N t 0 0) (entry_from_0 t 0 s.q_least) (sym lone_row ∙ e))

  pub lone_zero : Untouching t 0 → weak t 0 ≡ true
  lone_zero z = lone_row ∙ ap (λ (x : ℤ). low_pivot x x) (zero_entry t 0 z)
