-- The rescue's steps as the code makes them, on the station's tables. Assumes nothing.
--   cleared_long, cleared_within        a cleared table keeps its length, and its numbers get no larger
--   cleared_none, cleared_on            without a reason nothing is cleared; what was cleared for fewer reasons is cleared for more
--   noted_at, noted_keeps               what a step notes, and no reason is lost
--   Stepped, stepped_none, stepped_more        the reasons and the tables after k steps: before the first, and after one more
use mathlib.Core.Path.{◌≡◌, refl, sym, ◌∙◌, ap}
use mathlib.Core.Bool.{Bool, true, false, cond}
use mathlib.Core.List.{List}
use Prim.Native.Nat.{ℕ, suc, ◌%◌, ◌<◌, ◌≤◌}
use native.Mathlib.Decide.{dec_lt}
use native.Mathlib.Omega.{arith}
use borrow.Author.Tests.{eq-eqb, eqb-true}
use lib.IntN.{ℤ, pos, nat_abs}
use lib.ListN.{length, get_or, replicate, get_or-replicate, get_or-eq_default}
use Rattle.exact.specs.Within.{Within}
use Rattle.exact.proofs.Filling.{tabulate_length, tabulate_at, tabulate_ext, tabulate_is}
use Rattle.station.specs.declared.checks.Check.{Check}
use Rattle.station.specs.Replies.{fault}
use Rattle.station.specs.Rescue.{step_check}
use Rattle.station.specs.Steps.{free, noted, cleared, why_after}

-- ---- a cleared table
pub cleared_long : (why : List ℕ) (t : List ℤ) → length (cleared why t) ≡ 512
unfolding cleared
cleared_long why t = tabulate_length 512 _

cleared_at : (why : List ℕ) (t : List ℤ) (k : ℕ) → k < 512 → get_or (cleared why t) k (pos 0) ≡ cond (free why (k % 256)) (get_or t k (pos 0)) (pos 0)
unfolding cleared
cleared_at why t k l = tabulate_at 512 _ k (pos 0) l

pub cleared_within : (B : ℕ) (why : List ℕ) (t : List ℤ) → Within B t → Within B (cleared why t)
cleared_within B why t h k = by_order (dec_lt k 512)
  where
    by_test : (b : Bool) → nat_abs (cond b (get_or t k (pos 0)) (pos 0)) ≤ B
    by_test true = h k
    by_test false = omega arith

    by_order : Dec (k < 512) → nat_abs (get_or (cleared why t) k (pos 0)) ≤ B
    by_order (yes l) = rw (cleared_at why t k l) (by_test (free why (k % 256)))
    by_order (no l) = rw (get_or-eq_default (cleared why t) (pos 0) {n = k} (omega (arith, cleared_long why t))) (omega arith)

pub cleared_none : (t : List ℤ) → length t ≡ 512 → cleared (replicate 256 0) t ≡ t
unfolding cleared
cleared_none t e =
    sym (tabulate_is (pos 0) 512 _ t e (λ k l. let z : free (replicate 256 0) (k % 256) ≡ true = eq-eqb _ 0 (get_or-replicate 256 (k % 256) 0 0 (omega arith)) in λ i. cond (sym z i) (get_or t k (pos 0)) (pos 0)))

-- what is cleared for some reasons is cleared for these and more
pub cleared_on : (why more : List ℕ) (t : List ℤ) → ((k : ℕ) → k < 256 → free more k ≡ true → free why k ≡ true) → cleared more (cleared why t) ≡ cleared more t
unfolding cleared
cleared_on why more t h = tabulate_ext 512 _ _ (λ k l. (λ i. cond (free more (k % 256)) (cleared_at why t k l i) (pos 0)) ∙ by_test k (free more (k % 256)) refl)
  where
    by_test : (k : ℕ) (b : Bool) → free more (k % 256) ≡ b → cond b (cond (free why (k % 256)) (get_or t k (pos 0)) (pos 0)) (pos 0) ≡ cond b (get_or t k (pos 0)) (pos 0)
    by_test k true e = λ i. cond (h (k % 256) (omega arith) e i) (get_or t k (pos 0)) (pos 0)
    by_test k false e = refl

-- ---- the reasons
module _ (check : Check) (step : ℕ) (n r : List ℤ) (why : List ℕ) where
  pub noted_at : (k : ℕ) → k < 256 → get_or (noted check step n r why) k 0 ≡ cond (fault check n r k) step (get_or why k 0)
  unfolding noted
  noted_at k l = tabulate_at 256 _ k 0 l

  pub noted_keeps : 1 ≤ step → (k : ℕ) → k < 256 → free (noted check step n r why) k ≡ true → free why k ≡ true
  noted_keeps l k m e = by_test (fault check n r k) (sym (noted_at k m) ∙ eqb-true _ 0 e)
    where
      by_test : (b : Bool) → cond b step (get_or why k 0) ≡ 0 → free why k ≡ true
      by_test true z = absurd (omega (arith, z))
      by_test false z = eq-eqb _ 0 z

-- ---- after k steps
pub record Stepped (n r : List ℤ) (k : ℕ) (count sums : List ℤ) (why : List ℕ) : Type 0 where
  pub reasons_are : why ≡ why_after k n r
  pub counts_are : count ≡ cleared why n
  pub sums_are : sums ≡ cleared why r

module _ (n r : List ℤ) where
  pub stepped_none : length n ≡ 512 → length r ≡ 512 → (why : List ℕ) → why ≡ replicate 256 0 → Stepped n r 0 n r why
  unfolding why_after
  stepped_none ln lr why e = record {
    reasons_are = e;
    counts_are = sym (cleared_none n ln) ∙ ap (λ (w : List ℕ). cleared w n) (sym e);
    sums_are = sym (cleared_none r lr) ∙ ap (λ (w : List ℕ). cleared w r) (sym e);
  }

  pub stepped_more : (k : ℕ) {count sums count' sums' : List ℤ} {why why' : List ℕ} → Stepped n r k count sums why →
      why' ≡ noted (step_check k) (suc k) count sums why → count' ≡ cleared why' count → sums' ≡ cleared why' sums → Stepped n r (suc k) count' sums' why'
  unfolding why_after
  stepped_more k {count} {sums} {count'} {sums'} {why} {why'} s e f g = record {
    reasons_are = e ∙ (λ i. noted (step_check k) (suc k) ((s.counts_are ∙ ap (λ (w : List ℕ). cleared w n) s.reasons_are) i) ((s.sums_are ∙ ap (λ (w : List ℕ). cleared w r) s.reasons_are) i) (s.reasons_are i));
    counts_are = f ∙ ap (cleared why') s.counts_are ∙ cleared_on why why' n keeps;
    sums_are = g ∙ ap (cleared why') s.sums_are ∙ cleared_on why why' r keeps;
  }
    where
      keeps : (j : ℕ) → j < 256 → free why' j ≡ true → free why j ≡ true
      keeps j l t = noted_keeps (step_check k) (suc k) count sums why (omega arith) j l ((λ i. free (sym e i) j) ∙ t)
