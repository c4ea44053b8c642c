-- Finite sums of whole numbers, over the numbers below n. Assumes nothing.
--   sum_none, sum_next, sum_more      no term; one more term, at `suc n` and at `n + 1`
--   sum_first                         the first term and the others
--   sum_ext                           equal terms, equal sums
--   sum_add, sum_mul, sum_swap        a sum of sums; a factor taken out; two sums exchanged
--   sum_zero, sum_only                terms that are all 0; all but one
--   sum_nonneg, sum_zeros             terms not below 0; where such terms add up to 0, each is 0
--   sum_abs, sum_abs_sum              the size of a sum: each term within B; at most the sum of the sizes
use mathlib.Core.Path.{◌≡◌, refl, sym, ◌∙◌, ap, subst}
use Prim.Native.Nat.{ℕ, zero, suc, ◌+◌, ◌*◌, ◌<◌, ◌≤◌}
use native.Mathlib.Numerals.{add-one}
use native.Mathlib.Omega.{arith}
use native.Mathlib.Decide.{dec_lt}
use lib.IntN.{ℤ, pos, nat_abs, ◌+ℤ◌, ◌*ℤ◌, *ℤ-zero, +ℤ_idl, +ℤ_idr}
use lib.Signed.{◌≤ℤ◌, ≤ℤ_refl}
use Rattle.std.proofs.lemmas.Int.{ints}
use Rattle.exact.specs.Sum.{sum}
use Rattle.exact.proofs.Ring.{ring, *ℤ_dist_l}
use Rattle.exact.proofs.Bound.{abs_add}
use Rattle.exact.proofs.Order.{add_le}

pub sum_none : (f : ℕ → ℤ) → sum 0 f ≡ pos 0
unfolding sum
sum_none f = refl

pub sum_next : (n : ℕ) (f : ℕ → ℤ) → sum (suc n) f ≡ sum n f +ℤ f n
unfolding sum
sum_next n f = refl

-- one more, as code counts
pub sum_more : (n : ℕ) (f : ℕ → ℤ) → sum (n + 1) f ≡ sum n f +ℤ f n
unfolding sum
sum_more n f = rw add-one

onto : (a b c : ℤ) → (a +ℤ b) +ℤ c ≡ a +ℤ (b +ℤ c)
onto a b c = simp ring

pub sum_first : (n : ℕ) (f : ℕ → ℤ) → sum (suc n) f ≡ f 0 +ℤ sum n (λ i. f (suc i))
unfolding sum
sum_first zero f = +ℤ_idl (f 0) ∙ sym (+ℤ_idr (f 0))
sum_first (suc n) f = ap (λ (z : ℤ). z +ℤ f (suc n)) (sum_first n f) ∙ onto (f 0) (sum n (λ i. f (suc i))) (f (suc n))

pub sum_ext : (n : ℕ) (f g : ℕ → ℤ) → ((i : ℕ) → i < n → f i ≡ g i) → sum n f ≡ sum n g
unfolding sum
sum_ext zero f g h = refl
sum_ext (suc n) f g h = λ d. sum_ext n f g (λ i k. h i (omega arith)) d +ℤ h n (omega arith) d

swap : (a b c d : ℤ) → (a +ℤ b) +ℤ (c +ℤ d) ≡ (a +ℤ c) +ℤ (b +ℤ d)
swap a b c d = simp ring

pub sum_add : (n : ℕ) (f g : ℕ → ℤ) → sum n (λ i. f i +ℤ g i) ≡ sum n f +ℤ sum n g
unfolding sum
sum_add zero f g = refl
sum_add (suc n) f g = ap (λ (x : ℤ). x +ℤ (f n +ℤ g n)) (sum_add n f g) ∙ swap (sum n f) (sum n g) (f n) (g n)

pub sum_mul : (n : ℕ) (c : ℤ) (f : ℕ → ℤ) → sum n (λ i. c *ℤ f i) ≡ c *ℤ sum n f
unfolding sum
sum_mul zero c f = sym (*ℤ-zero c)
sum_mul (suc n) c f = ap (λ (x : ℤ). x +ℤ c *ℤ f n) (sum_mul n c f) ∙ sym (*ℤ_dist_l c (sum n f) (f n))

pub sum_zero : (n : ℕ) → sum n (λ i. pos 0) ≡ pos 0
unfolding sum
sum_zero zero = refl
sum_zero (suc n) = ap (λ (x : ℤ). x +ℤ pos 0) (sum_zero n)

pub sum_swap : (n m : ℕ) (f : ℕ → ℕ → ℤ) → sum n (λ i. sum m (λ j. f i j)) ≡ sum m (λ j. sum n (λ i. f i j))
unfolding sum
sum_swap zero m f = sym (sum_zero m)
sum_swap (suc n) m f = ap (λ (x : ℤ). x +ℤ sum m (λ j. f n j)) (sum_swap n m f) ∙ sym (sum_add m (λ j. sum n (λ i. f i j)) (λ j. f n j))

pub sum_le : (n : ℕ) (f g : ℕ → ℤ) → ((i : ℕ) → i < n → f i ≤ℤ g i) → sum n f ≤ℤ sum n g
unfolding sum
sum_le zero f g h = ≤ℤ_refl (pos 0)
sum_le (suc n) f g h = add_le (sum_le n f g (λ i k. h i (omega arith))) (h n (omega arith))

pub sum_nonneg : (n : ℕ) (f : ℕ → ℤ) → ((i : ℕ) → i < n → pos 0 ≤ℤ f i) → pos 0 ≤ℤ sum n f
unfolding sum
sum_nonneg zero f h = ≤ℤ_refl (pos 0)
sum_nonneg (suc n) f h = add_le {a = pos 0} {c = pos 0} (sum_nonneg n f (λ i k. h i (omega arith))) (h n (omega arith))

-- terms that are not negative and add up to 0 are 0
both_zero : (a b : ℤ) → pos 0 ≤ℤ a → pos 0 ≤ℤ b → a +ℤ b ≡ pos 0 → (a ≡ pos 0) × (b ≡ pos 0)
both_zero a b h k e = (omega (arith, ints), omega (arith, ints))

pub sum_zeros : (n : ℕ) (f : ℕ → ℤ) → ((i : ℕ) → i < n → pos 0 ≤ℤ f i) → sum n f ≡ pos 0 → (i : ℕ) → i < n → f i ≡ pos 0
unfolding sum
sum_zeros zero f h e i k = absurd (omega arith)
sum_zeros (suc n) f h e i k = pick (sum_zeros n f (λ i k. h i (omega arith)) z.0 i) (dec_lt i n)
  where
    z : (sum n f ≡ pos 0) × (f n ≡ pos 0)
    z = both_zero (sum n f) (f n) (sum_nonneg n f (λ i k. h i (omega arith))) (h n (omega arith)) e

    at_end : ¬ (i < n) → n ≡ i
    at_end l = omega arith

    pick : (i < n → f i ≡ pos 0) → Dec (i < n) → f i ≡ pos 0
    pick r (yes l) = r l
    pick r (no l) = subst (λ (m : ℕ). f m ≡ pos 0) (at_end l) z.1

pub sum_abs : (n B : ℕ) (f : ℕ → ℤ) → ((i : ℕ) → i < n → nat_abs (f i) ≤ B) → nat_abs (sum n f) ≤ n * B
unfolding sum
sum_abs zero B f h = omega arith
sum_abs (suc n) B f h = omega (arith, abs_add (sum n f) (f n), sum_abs n B f (λ i k. h i (omega arith)), h n (omega arith))

-- the size of a sum is at most the sum of the sizes
module _ (f : ℕ → ℤ) where
  one_more : (s a t : ℤ) → pos (nat_abs s) ≤ℤ t → pos (nat_abs (s +ℤ a)) ≤ℤ (t +ℤ pos (nat_abs a))
  one_more s a t h = omega (arith, ints, abs_add s a)

  pub sum_abs_sum : (n : ℕ) → pos (nat_abs (sum n f)) ≤ℤ sum n (λ i. pos (nat_abs (f i)))
  unfolding sum
  sum_abs_sum zero = ≤ℤ_refl (pos 0)
  sum_abs_sum (suc n) = one_more (sum n f) (f n) (sum n (λ i. pos (nat_abs (f i)))) (sum_abs_sum n)

-- all terms but that of m are 0
pub sum_only : (n m : ℕ) (f : ℕ → ℤ) → m < n → ((i : ℕ) → i < n → (i ≡ m → ⊥) → f i ≡ pos 0) → sum n f ≡ f m
sum_only zero m f l z = absurd (omega arith)
sum_only (suc n) m f l z = by_order (dec_lt m n) (sum_only n m f)
  where
    by_order : Dec (m < n) → (m < n → ((i : ℕ) → i < n → (i ≡ m → ⊥) → f i ≡ pos 0) → sum n f ≡ f m) → sum (suc n) f ≡ f m
    by_order (yes k) r = sum_next n f ∙ (λ t. r k (λ i q. z i (omega arith)) t +ℤ z n (omega arith) (λ e. omega arith) t) ∙ +ℤ_idr (f m)
    by_order (no k) r =
        sum_next n f
        ∙ ap (λ (s : ℤ). s +ℤ f n) (sum_ext n f (λ i. pos 0) (λ i q. z i (omega arith) (λ e. omega arith)) ∙ sum_zero n)
        ∙ +ℤ_idl (f n) ∙ ap f (omega arith)
