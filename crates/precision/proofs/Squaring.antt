-- The laws of S, the sum of 2,520*u*u/q. Assumes nothing.
--   whole                    2,520*u*u/q is whole: q times it is 2,520*u*u, for q from 1 to 10
--   part_most, S_most        of corrections within one minute: a part is at most 9,072,000,000,000, and S of 64 directions 64 times that
--   S_none, S_more           of no directions, and of one more
--   S_from_0                 S is not below 0
--   S_weighted               S is demand 3's weighted sum of the same corrections
--   S_ext                    S reads the q and the sizes of u of the m directions alone
use mathlib.Core.Path.{◌≡◌, refl, ◌∙◌, ap, ap₂}
use Prim.Native.Nat.{ℕ, ◌+◌, ◌*◌, ◌/◌, ◌≤◌, ◌<◌, zero-le}
use native.Mathlib.Nat.{le_refl, le_trans, div-le_self, mul-div_cancel_left}
use native.Mathlib.Omega.{arith}
use lib.Dec.{le→leb}
use lib.IntN.{ℤ, pos, negsuc, nat_abs, ◌+ℤ◌, ◌*ℤ◌}
use lib.Signed.{◌≤ℤ◌}
use Rattle.exact.proofs.Bound.{mul_le}
use Rattle.exact.proofs.Sum.{sum_none, sum_more, sum_ext, sum_nonneg}
use Rattle.exact.proofs.Weights.{weight_exact}
use Rattle.doolittle.specs.Table.{Table}
use Rattle.doolittle.proofs.Sizes.{sum_within}
use Rattle.adjustment.specs.Demand.{weighted}
use Rattle.precision.specs.Errors.{weighted_square, S}

-- ---- one part
module _ (q : ℕ) (h : 0 < q) (k : q ≤ 10) where
  -- 2,520 is a multiple of q, so the quotient can be taken first
  quotient_first : (x : ℕ) → 2520 * x / q ≡ 2520 / q * x
  quotient_first x =
      let e : 2520 * x ≡ q * (2520 / q * x) = omega (arith, ap (λ (y : ℕ). y * x) (weight_exact q h k)) in
      ap (λ (y : ℕ). y / q) e ∙ mul-div_cancel_left (2520 / q * x) h

  pub whole : (x : ℕ) → q * (2520 * x / q) ≡ 2520 * x
  whole x = omega (arith, ap (λ (y : ℕ). q * y) (quotient_first x), ap (λ (y : ℕ). y * x) (weight_exact q h k))

pub part_most : (q u : ℤ) → nat_abs u ≤ 60000 → nat_abs (weighted_square q u) ≤ 9072000000000
part_most q u h = le_trans (div-le_self (2520 * (nat_abs u * nat_abs u)) (nat_abs q)) (mul_le (le_refl 2520) (mul_le h h))

-- a square is that of the size
squared : (u : ℤ) → u *ℤ u ≡ pos (nat_abs u * nat_abs u)
squared (pos u) = refl
squared (negsuc u) = refl

-- ---- their sum
pub S_none : (q u : ℕ → ℤ) → S 0 q u ≡ pos 0
unfolding S
S_none q u = sum_none (λ i. weighted_square (q i) (u i))

pub S_more : (m : ℕ) (q u : ℕ → ℤ) → S (m + 1) q u ≡ S m q u +ℤ weighted_square (q m) (u m)
unfolding S
S_more m q u = sum_more m (λ i. weighted_square (q i) (u i))

module _ (m : ℕ) (q u : ℕ → ℤ) where
  pub S_from_0 : pos 0 ≤ℤ S m q u
  unfolding S
  S_from_0 = sum_nonneg m (λ i. weighted_square (q i) (u i)) (λ i l. record { le = le→leb 0 (nat_abs (weighted_square (q i) (u i))) zero-le })

  pub S_most : m ≤ 64 → ((i : ℕ) → i < m → nat_abs (u i) ≤ 60000) → nat_abs (S m q u) ≤ 580608000000000
  unfolding S
  S_most h k = sum_within m 64 9072000000000 (λ i. weighted_square (q i) (u i)) h (λ i l. part_most (q i) (u i) (k i l))

  pub S_ext : (q' u' : ℕ → ℤ) → ((i : ℕ) → i < m → q i ≡ q' i) → ((i : ℕ) → i < m → nat_abs (u i) ≡ nat_abs (u' i)) → S m q u ≡ S m q' u'
  unfolding S
  S_ext q' u' e f = sum_ext m _ _ (λ i l. ap₂ (λ (x y : ℕ). pos (2520 * (y * y) / x)) (ap nat_abs (e i l)) (f i l))

pub S_weighted : (t : Table) (u : ℕ → ℤ) → ((i : ℕ) → i < t.m → 0 < nat_abs (t.q i)) → ((i : ℕ) → i < t.m → nat_abs (t.q i) ≤ 10) → S t.m t.q u ≡ weighted t u
unfolding S
S_weighted t u h k = sum_ext t.m _ _ (λ i l. rw (squared (u i)) (ap pos (quotient_first (nat_abs (t.q i)) (h i l) (k i l) (nat_abs (u i) * nat_abs (u i)))))
