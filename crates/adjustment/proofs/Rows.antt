-- A condition's coefficients as a list of their own, and the checks of the conditions one by one. Assumes nothing.
--   some_of                      a test holds of some element of a list exactly where it does at some number below its length
--   row_fault                    the row of condition j has a coefficient that is too large where the table has
--   by_coefficient, by_misclosure, by_none      the reply, where the conditions before are in range, or all are
--   products_size, terms_size    no sum of products that a loop forms overflows
--   combined_size, seen_size     nor do the whole sums of a*K and of a*x
--   added_fits, added_kept       the sum of a*x and 10^7*w do not overflow
--   put_more                     a list that is filled one place a turn
use Rattle.std.proofs.Common.{◌≡◌, refl, ◌∙◌, ap, ℕ, suc, ◌+◌, ◌*◌, ◌<◌, ◌≤◌, ℤ, pos, nat_abs, List, [], ◌∷◌, length, get_or, FitsSigned, w64, to_z, of_z, Bool, true, false, ◌||◌, cond, ltb, Ok, Err, arith}
use Rattle.std.specs.Prelude.{◌+ℤ◌, ◌*ℤ◌}
use Rattle.std.proofs.lemmas.Int.{ints, to_z-of_z}
use Rattle.exact.proofs.Bound.{abs_mul}
use Rattle.std.proofs.lemmas.Bool.Decides.{nat_tests}
use borrow.Author.Tests.{lt-ltb}
use Rattle.std.specs.List.{list_any}
use Rattle.exact.specs.First.{first, some_below}
use Rattle.exact.specs.Sum.{sum}
use Rattle.exact.proofs.Searching.{Failed}
use Rattle.reply.specs.declared.Refusal.TheVariants.{Coefficient, Misclosure}
use Rattle.reply.proofs.Checking.{refuse_at, refuse_none}
use Rattle.std.proofs.Math.ListN.{set}
use Rattle.std.proofs.lemmas.Grind.{common_steps}
use Rattle.doolittle.specs.Table.{Table, at}
use Rattle.doolittle.specs.Lent.{table_in}
use Rattle.doolittle.specs.declared.SoundTable.{SoundTable}
use Rattle.doolittle.specs.Inner.{Small}
use Rattle.doolittle.proofs.Sizes.{sum_within, product_size}
use Rattle.adjustment.specs.Demand.{seen}
use Rattle.adjustment.specs.Refusals.{coefficient_fault, misclosure_fault, conditions_reply}

suc_both : (a n : ℕ) → ltb a n ≡ ltb (suc a) (suc n)
suc_both a n = grind (arith, nat_tests)

pub some_of : {A : Type 0} (p : A → Bool) (d : A) (xs : List A) (f : ℕ → A) → ((i : ℕ) → i < length xs → get_or xs i d ≡ f i) → list_any p xs ≡ some_below (length xs) (λ i. p (f i))
unfolding first
some_of p d [] f e = refl
some_of p d (x ∷ xs) f e = by_test (p x) (p (f 0)) (ap p (e 0 (omega arith))) (some_of p d xs (λ i. f (suc i)) (λ i l. e (suc i) (omega arith)))
  where
    by_test : (a b : Bool) → a ≡ b → list_any p xs ≡ some_below (length xs) (λ i. p (f (suc i))) → (a || list_any p xs) ≡ ltb (cond b 0 (suc (first (length xs) (λ i. p (f (suc i)))))) (suc (length xs))
    by_test true b h r = rw (← h, lt-ltb 0 (suc (length xs)) (omega arith))
    by_test false b h r = rw (← h) (r ∙ suc_both (first (length xs) (λ i. p (f (suc i)))) (length xs))

-- of the row of condition j
module _ (t : Table) (j : ℕ) (row : List ℤ) (long : length row ≡ t.m) (same : (i : ℕ) → i < t.m → at row i ≡ t.a j i) where
  pub row_fault : list_any (λ x. ltb 2000 (nat_abs x)) row ≡ coefficient_fault t j
  unfolding coefficient_fault
  row_fault =
      some_of (λ x. ltb 2000 (nat_abs x)) (pos 0) row (t.a j) (λ i l. same i (omega (arith, long)))
      ∙ ap (λ (m : ℕ). some_below m (λ i. ltb 2000 (nat_abs (t.a j i)))) long

-- the reply to the conditions, where those before j are in range
abbrev pub condition_fault : Table → ℕ → Bool
condition_fault t j = coefficient_fault t j || misclosure_fault t j

module _ (t : Table) (j : ℕ) (l : j < t.n) (f : Failed (condition_fault t) j) where
  pub by_coefficient : coefficient_fault t j ≡ true → conditions_reply t ≡ Err (Coefficient (j + 1))
  unfolding conditions_reply
  by_coefficient e = refuse_at t.n (condition_fault t) (λ j. cond (coefficient_fault t j) (Coefficient (j + 1)) (Misclosure (j + 1))) j l f (rw e) ∙ rw e

  pub by_misclosure : coefficient_fault t j ≡ false → misclosure_fault t j ≡ true → conditions_reply t ≡ Err (Misclosure (j + 1))
  unfolding conditions_reply
  by_misclosure e g = refuse_at t.n (condition_fault t) (λ j. cond (coefficient_fault t j) (Coefficient (j + 1)) (Misclosure (j + 1))) j l f (rw (e, g)) ∙ rw e

pub by_none : (t : Table) → Failed (condition_fault t) t.n → conditions_reply t ≡ Ok tt
unfolding conditions_reply
by_none t f = refuse_none t.n (condition_fault t) (λ j. cond (coefficient_fault t j) (Coefficient (j + 1)) (Misclosure (j + 1))) f

-- ---- the size of a sum of products, as far as a loop has come
pub products_size : (i : ℕ) {m : ℕ} (a x : ℕ → ℤ) → i < m → m ≤ 64 → ((h : ℕ) → h < m → nat_abs (a h) ≤ 2000) → ((h : ℕ) → h < m → nat_abs (x h) ≤ 48000000000000) → nat_abs (sum i (λ h. a h *ℤ x h)) ≤ 7000000000000000000
products_size i a x l h f g =
    omega (arith, sum_within i 64 96000000000000000 (λ h. a h *ℤ x h) (omega arith) (λ j k. product_size (a j) (x j) (f j (omega arith)) (g j (omega arith))))

-- the same of one direction's coefficients in all conditions
pub terms_size : (j : ℕ) {n : ℕ} (a k : ℕ → ℤ) → j < n → n ≤ 24 → ((h : ℕ) → h < n → nat_abs (a h) ≤ 2000) → ((h : ℕ) → h < n → nat_abs (k h) ≤ 100000000) → nat_abs (sum j (λ h. a h *ℤ k h)) ≤ 7000000000000000000
terms_size j a k l h f g =
    omega (arith, sum_within j 24 200000000000 (λ h. a h *ℤ k h) (omega arith) (λ h e. product_size (a h) (k h) (f h (omega arith)) (g h (omega arith))))

-- and of the whole sums
pub combined_size : (table : SoundTable) (ks : List ℤ) → Small 100000000 ks (length table.w.now) → (i : ℕ) → i < length table.q.now → nat_abs (sum (length table.w.now) (λ j. (table_in table).a j i *ℤ at ks j)) ≤ 4800000000000
combined_size table ks small i l =
    let t = table_in table in let s = table.sound in
    sum_within t.n 24 200000000000 (λ j. t.a j i *ℤ at ks j) s.n_most (λ j h. product_size (t.a j i) (at ks j) (s.a_most j h i l) (small j h))

pub seen_size : (table : SoundTable) (x : List ℤ) {B : ℕ} → Small B x (length table.q.now) → (j : ℕ) → j < length table.w.now → nat_abs (seen (table_in table) j (at x)) ≤ 64 * (2000 * B)
seen_size table x {B} small j l =
    let t = table_in table in let s = table.sound in
    sum_within t.m 64 (2000 * B) (λ i. t.a j i *ℤ at x i) s.m_most (λ i h. product_size (t.a j i) (at x i) (s.a_most j l i h) (small i h))

-- ---- s + 10^7*w, as the code adds it
module _ (s w : ℤ) (l : nat_abs s ≤ 6144000000000000000) (h : nat_abs w ≤ 1000000) where
  abbrev added : ℤ
  added = to_z w64 (of_z w64 s) +ℤ to_z w64 (of_z w64 (pos 10000000 *ℤ to_z w64 (of_z w64 w)))

  added_is : added ≡ s +ℤ pos 10000000 *ℤ w
  added_is =
      let f : FitsSigned w64 s = omega (arith, ints) in let g : FitsSigned w64 w = omega (arith, ints) in
      let k : FitsSigned w64 (pos 10000000 *ℤ w) = omega (arith, ints, abs_mul (pos 10000000) w) in
      simp to_z-of_z

  pub added_fits : FitsSigned w64 added
  added_fits = omega (arith, ints, added_is, abs_mul (pos 10000000) w)

  pub added_kept : to_z w64 (of_z w64 added) ≡ s +ℤ pos 10000000 *ℤ w
  added_kept = to_z-of_z w64 added added_fits ∙ added_is

-- ---- a list that is filled one place a turn
pub put_more : (f : ℕ → ℤ) (xs : List ℤ) (i : ℕ) (x : ℤ) → i < length xs → ((h : ℕ) → h < i → at xs h ≡ f h) → x ≡ f i → (h : ℕ) → h < i + 1 → at (set xs i x) h ≡ f h
put_more f xs i x l done e h k = grind (arith, common_steps)
