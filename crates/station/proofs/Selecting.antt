-- Sums of chosen terms. Assumes nothing.
--   where_none              no term yet
--   where_taken, where_passed        one more number: its term is added where the test holds, and nothing where it fails
--   where_size              the size of such a sum, each term within B
--   where_failed            a sum where the test holds nowhere is 0
--   where_at                a sum in which the test picks one number is the term of that number
--   where_nonneg, where_zero        a count is not below 0; a count of 0 says that the test holds nowhere
--   OnlyOne, where_one      a count of 1 says that the test holds at one number alone, and a sum is then the term of that number
use mathlib.Core.Path.{◌≡◌, refl, sym, ◌∙◌, ap, subst}
use mathlib.Core.Bool.{Bool, true, false, cond}
use mathlib.Core.List.{[], ◌∷◌}
use Prim.Native.Nat.{ℕ, zero, suc, ◌+◌, ◌*◌, ◌<◌, ◌≤◌}
use native.Mathlib.Decide.{dec_lt}
use native.Mathlib.Omega.{arith}
use borrow.Author.Tests.{eq-eqb, ne_eqb}
use lib.Dec.{T, eqb}
use lib.IntN.{ℤ, pos, nat_abs, ◌+ℤ◌, +ℤ_idl, +ℤ_idr}
use lib.Signed.{◌≤ℤ◌}
use Rattle.exact.proofs.Linear.{unknowns, linear, eq_by, eq_of}
use Rattle.exact.proofs.Sum.{sum_none, sum_next, sum_more, sum_ext, sum_zero, sum_only, sum_nonneg, sum_zeros, sum_abs}
use Rattle.station.specs.SumWhere.{sum_where}
use Rattle.station.specs.Table.{one}

module _ (test : ℕ → Bool) (v : ℕ → ℤ) where
  abbrev pub chosen : ℕ → ℤ
  chosen i = cond (test i) (v i) (pos 0)

  pub where_none : sum_where 0 test v ≡ pos 0
  where_none = sum_none chosen

  pub where_taken : (i : ℕ) → test i ≡ true → sum_where (i + 1) test v ≡ sum_where i test v +ℤ v i
  where_taken i p = sum_more i chosen ∙ (λ t. sum_where i test v +ℤ cond (p t) (v i) (pos 0))

  pub where_passed : (i : ℕ) → test i ≡ false → sum_where (i + 1) test v ≡ sum_where i test v
  where_passed i p = sum_more i chosen ∙ (λ t. sum_where i test v +ℤ cond (p t) (v i) (pos 0)) ∙ +ℤ_idr (sum_where i test v)

  pub where_failed : (n : ℕ) → ((i : ℕ) → i < n → test i ≡ false) → sum_where n test v ≡ pos 0
  where_failed n f = sum_ext n chosen (λ i. pos 0) (λ i l t. cond (f i l t) (v i) (pos 0)) ∙ sum_zero n

  pub where_size : (n B : ℕ) → ((i : ℕ) → i < n → nat_abs (v i) ≤ B) → nat_abs (sum_where n test v) ≤ n * B
  where_size n B h = sum_abs n B chosen (λ i l. by_test (test i) (v i) (h i l))
    where
      by_test : (t : Bool) (z : ℤ) → nat_abs z ≤ B → nat_abs (cond t z (pos 0)) ≤ B
      by_test true z k = k
      by_test false z k = omega arith

-- ---- one number alone
pub where_at : (n m : ℕ) (f : ℕ → ℤ) → m < n → sum_where n (λ k. eqb k m) f ≡ f m
where_at n m f l =
    sum_only n m (chosen (λ k. eqb k m) f) l (λ i q e t. cond (ne_eqb i m e t) (f i) (pos 0))
    ∙ (λ t. cond (eq-eqb m m refl t) (f m) (pos 0))

-- ---- counts
not_negative : (t : Bool) → pos 0 ≤ℤ cond t (pos 1) (pos 0)
not_negative true = record { le = tt }
not_negative false = record { le = tt }

module _ (test : ℕ → Bool) where
  pub where_nonneg : (n : ℕ) → pos 0 ≤ℤ sum_where n test one
  where_nonneg n = sum_nonneg n (chosen test one) (λ k l. not_negative (test k))

  pub where_zero : (n : ℕ) → sum_where n test one ≡ pos 0 → (i : ℕ) → i < n → test i ≡ false
  where_zero n e i l = by_test (test i) (sum_zeros n (chosen test one) (λ k m. not_negative (test k)) e i l)
    where
      by_test : (t : Bool) → cond t (pos 1) (pos 0) ≡ pos 0 → t ≡ false
      by_test true q = absurd (omega (arith, ap nat_abs q))
      by_test false q = refl

  -- the test holds at one number below n, and at no other
  pub record OnlyOne (n : ℕ) : Type 0 where
    pub at : ℕ
    pub below : at < n
    pub holds : test at ≡ true
    pub alone : (m : ℕ) → m < n → test m ≡ true → m ≡ at
    pub value : (v : ℕ → ℤ) → sum_where n test v ≡ v at

  less_one : (z : ℤ) → z +ℤ pos 1 ≡ pos 1 → z ≡ pos 0
  less_one z e = let u = unknowns (z ∷ []) in eq_by (search linear) (search linear) (omega (arith, eq_of e (search linear) (search linear)))

  never : (i : ℕ) → test i ≡ false → test i ≡ true → ⊥
  never i f t = subst T (sym t ∙ f) tt

  at_end : (n m : ℕ) → m < suc n → ¬ (m < n) → m ≡ n
  at_end n m l k = omega arith

  last_one : (n : ℕ) → test n ≡ true → ((i : ℕ) → i < n → test i ≡ false) → OnlyOne (suc n)
  last_one n t f = record {
    at = n;
    below = omega arith;
    holds = t;
    alone = λ m l q. by_order m l q (dec_lt m n);
    value = λ v. sum_next n (chosen test v) ∙ (λ i. where_failed test v n f i +ℤ cond (t i) (v n) (pos 0)) ∙ +ℤ_idl (v n);
  }
    where
      by_order : (m : ℕ) → m < suc n → test m ≡ true → Dec (m < n) → m ≡ n
      by_order m l q (yes k) = absurd (never m (f m k) q)
      by_order m l q (no k) = at_end n m l k

  one_before : (n : ℕ) → test n ≡ false → OnlyOne n → OnlyOne (suc n)
  one_before n t o = record {
    at = o.at;
    below = omega (arith, o.below);
    holds = o.holds;
    alone = λ m l q. by_order m l q (dec_lt m n);
    value = λ v. sum_next n (chosen test v) ∙ (λ i. o.value v i +ℤ cond (t i) (v n) (pos 0)) ∙ +ℤ_idr (v o.at);
  }
    where
      by_order : (m : ℕ) → m < suc n → test m ≡ true → Dec (m < n) → m ≡ o.at
      by_order m l q (yes k) = o.alone m k q
      by_order m l q (no k) = absurd (never n t (subst (λ (i : ℕ). test i ≡ true) (at_end n m l k) q))

  pub where_one : (n : ℕ) → sum_where n test one ≡ pos 1 → OnlyOne n
  where_one zero e = absurd (omega (arith, ap nat_abs (sym (sum_none (chosen test one)) ∙ e)))
  where_one (suc n) e = by_test (test n) refl (where_one n) (sym (sum_next n (chosen test one)) ∙ e)
    where
      by_test : (t : Bool) → test n ≡ t → (sum_where n test one ≡ pos 1 → OnlyOne n) → sum_where n test one +ℤ cond (test n) (pos 1) (pos 0) ≡ pos 1 → OnlyOne (suc n)
      by_test true t r q = last_one n t (where_zero n (less_one (sum_where n test one) ((λ i. sum_where n test one +ℤ cond (sym t i) (pos 1) (pos 0)) ∙ q)))
      by_test false t r q = one_before n t (r (sym (+ℤ_idr (sum_where n test one)) ∙ (λ i. sum_where n test one +ℤ cond (sym t i) (pos 1) (pos 0)) ∙ q))
