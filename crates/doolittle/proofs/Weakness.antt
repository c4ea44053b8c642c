-- The one test of a row. Assumes nothing.
--   large_d, large_m                the parts of the test that search the row
--   weak_by_coefficient, weak_by_constant, weak_by_low      each of these parts by itself makes a row weak
--   weak_by_multiplier            where they do not, the multipliers decide
--   high_pivot                    a pivot that is not low divides, and 1,000 times it is not below its entry
--   SoundRow, sound_row           what is known of a row that is not weak
--   weak_ext                      the test reads the coefficients from j to n alone
use mathlib.Core.Path.{◌≡◌, ap, ap₂}
use mathlib.Core.Bool.{Bool, true, false, ◌||◌, ◌&&◌}
use Prim.Native.Nat.{ℕ, suc, ◌≤◌, ◌<◌}
use native.Mathlib.Nat.{le_refl}
use native.Mathlib.Omega.{arith}
use borrow.Author.Tests.{lt-ltb, le-ltb, ltb-false}
use lib.Dec.{ltb, leb}
use lib.IntN.{ℤ, pos, nat_abs, ◌*ℤ◌}
use lib.Signed.{◌≤ℤ◌, ◌<ℤ◌}
use Rattle.std.proofs.lemmas.Int.{ints}
use Rattle.exact.specs.First.{some_below}
use Rattle.exact.proofs.Searching.{from_ext, from_none}
use Rattle.std.proofs.lemmas.Bool.{or_parts, or_right}
use Rattle.doolittle.specs.Solution.{multiplier, low_pivot, weak_row}
use Rattle.doolittle.specs.Inner.{From}

-- the parts of the test
abbrev pub large_d : ℕ → ℕ → (ℕ → ℤ) → Bool
large_d n j d = some_below n (λ k. leb j k && ltb 2560000000 (nat_abs (d k)))

abbrev pub large_m : ℕ → ℕ → (ℕ → ℤ) → Bool
large_m n j d = some_below n (λ k. ltb j k && ltb 1000000000 (nat_abs (multiplier (d k) (d j))))

module _ (n j : ℕ) (entry : ℤ) (d : ℕ → ℤ) (l : ℤ) where
  pub weak_by_coefficient : large_d n j d ≡ true → weak_row n j entry d l ≡ true
  unfolding weak_row
  weak_by_coefficient e = rw e

  pub weak_by_constant : 4000000000 < nat_abs l → weak_row n j entry d l ≡ true
  unfolding weak_row
  weak_by_constant h = or_right (large_d n j d) _ (rw (lt-ltb 4000000000 (nat_abs l) h))

  pub weak_by_low : low_pivot (d j) entry ≡ true → weak_row n j entry d l ≡ true
  unfolding weak_row
  weak_by_low h = or_right (large_d n j d) _ (or_right (ltb 4000000000 (nat_abs l)) _ (rw h))

  pub weak_by_multiplier : large_d n j d ≡ false → nat_abs l ≤ 4000000000 → low_pivot (d j) entry ≡ false → weak_row n j entry d l ≡ large_m n j d
  unfolding weak_row
  weak_by_multiplier e f h = rw (e, le-ltb 4000000000 (nat_abs l) f, h)

-- ---- a row that is not weak
pub high_pivot : (x entry : ℤ) → low_pivot x entry ≡ false → (pos 0 <ℤ x) × (entry ≤ℤ (pos 1000 *ℤ x))
high_pivot x entry e = (grind (arith, ints), grind (arith, ints))

pub record SoundRow (n j : ℕ) (entry : ℤ) (d : ℕ → ℤ) (l : ℤ) : Type 0 where
  pub coefficients : From j n (λ k. nat_abs (d k) ≤ 2560000000)
  pub constant : nat_abs l ≤ 4000000000
  pub pivot : (pos 0 <ℤ d j) × (entry ≤ℤ (pos 1000 *ℤ d j))
  pub multipliers : From (suc j) n (λ k. nat_abs (multiplier (d k) (d j)) ≤ 1000000000)

pub sound_row : (n j : ℕ) (entry : ℤ) (d : ℕ → ℤ) (l : ℤ) → weak_row n j entry d l ≡ false → SoundRow n j entry d l
unfolding weak_row
sound_row n j entry d l e =
    let a = or_parts (large_d n j d) (ltb 4000000000 (nat_abs l) || (low_pivot (d j) entry || large_m n j d)) e in
    let b = or_parts (ltb 4000000000 (nat_abs l)) (low_pivot (d j) entry || large_m n j d) a.1 in
    let c = or_parts (low_pivot (d j) entry) (large_m n j d) b.1 in
    record {
      coefficients = λ k h i. ltb-false 2560000000 (nat_abs (d k)) (from_none n j (λ k. ltb 2560000000 (nat_abs (d k))) a.0 k h i);
      constant = ltb-false 4000000000 (nat_abs l) b.0;
      pivot = high_pivot (d j) entry c.0;
      multipliers = λ k h i.
          ltb-false 1000000000 (nat_abs (multiplier (d k) (d j))) (from_none n (suc j) (λ k. ltb 1000000000 (nat_abs (multiplier (d k) (d j)))) c.1 k h i);
    }

pub weak_ext : (n j : ℕ) (entry entry' : ℤ) (d d' : ℕ → ℤ) (l l' : ℤ) → j < n → entry ≡ entry' → From j n (λ k. d k ≡ d' k) → l ≡ l' → weak_row n j entry d l ≡ weak_row n j entry' d' l'
unfolding weak_row
weak_ext n j entry entry' d d' l l' h g e f =
    λ t. ltb (from_ext n j (λ k. ltb 2560000000 (nat_abs (d k))) (λ k. ltb 2560000000 (nat_abs (d' k))) (λ k a b. ap (λ (x : ℤ). ltb 2560000000 (nat_abs x)) (e k a b)) t) n
    || (ltb 4000000000 (nat_abs (f t))
    || (low_pivot (e j (le_refl j) h t) (g t)
    || ltb
    (from_ext n (suc j) (λ k. ltb 1000000000 (nat_abs (multiplier (d k) (d j)))) (λ k. ltb 1000000000 (nat_abs (multiplier (d' k) (d' j))))
    (λ k a b. ap₂ (λ (x y : ℤ). ltb 1000000000 (nat_abs (multiplier x y))) (e k (omega arith) b) (e j (le_refl j) h)) t) n))
