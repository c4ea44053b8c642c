-- The steps of the rescue on the tables. Assumes nothing.
--   entry_cleared                     what a cleared table has of a face, a position and an object
--   fault_gone                        a place with a reason is not spoilt, once the table is cleared: nothing is seen there
--   why_at, free_next                 the reason of a place after one step more, and whether it has one
--   free_before                       a place without a reason had none before
--   settled                           after the four steps no place is spoilt, for any step
use mathlib.Core.Path.{◌≡◌, refl, sym, ◌∙◌, ap, subst}
use mathlib.Core.Bool.{Bool, true, false, not, cond, ◌&&◌, and-false, and-true as and_yes, and-not_self}
use mathlib.Core.List.{List}
use Prim.Native.Nat.{ℕ, zero, suc, ◌/◌, ◌%◌, ◌<◌, ◌≤◌}
use native.Mathlib.Decide.{dec_lt}
use native.Mathlib.Omega.{arith}
use borrow.Author.Tests.{not-true, ne_eqb}
use lib.Dec.{eqb, ltb}
use lib.IntN.{ℤ, pos, nat_abs, ◌+ℤ◌, ◌-ℤ◌}
use lib.ListN.{get_or}
use lib.Signed.{lt_z}
use Rattle.exact.specs.Same.{same}
use Rattle.exact.proofs.Filling.{tabulate_at}
use Rattle.station.specs.declared.checks.Check.TheVariants.{PairsWhole, InitialSeen, FacesClose}
use Rattle.station.specs.Table.{slot, entry}
use Rattle.station.specs.Means.{half_c, centred, seen, faces_fault, initial_fault, s, apart_fault}
use Rattle.station.specs.Replies.{fault}
use Rattle.station.specs.Rescue.{step_check}
use Rattle.station.specs.Steps.{free, noted, cleared, why_after}
use Rattle.station.proofs.Tests.{and_true}

-- ---- a cleared table
module _ (why : List ℕ) (table : List ℤ) where
  pub entry_cleared : (f i j : ℕ) → f < 2 → i < 16 → j < 16 → entry (cleared why table) f i j ≡ cond (free why (slot 0 i j)) (entry table f i j) (pos 0)
  unfolding cleared
  entry_cleared f i j lf li lj =
      tabulate_at 512 (λ k. cond (free why (k % 256)) (get_or table k (pos 0)) (pos 0)) (slot f i j) (pos 0) (omega arith)
      ∙ ap (λ (p : ℕ). cond (free why p) (entry table f i j) (pos 0)) here
    where
      here : slot f i j % 256 ≡ slot 0 i j
      here = omega arith

  module _ (i j : ℕ) (li : i < 16) (lj : j < 16) where
    -- at a place without a reason it is as it was
    as_it_was : free why (slot 0 i j) ≡ true → (f : ℕ) → f < 2 → entry (cleared why table) f i j ≡ entry table f i j
    as_it_was e f lf = entry_cleared f i j lf li lj ∙ (λ t. cond (e t) (entry table f i j) (pos 0))

    seen_free : free why (slot 0 i j) ≡ true → seen (cleared why table) i j ≡ seen table i j
    unfolding seen
    seen_free e = λ t. lt_z (pos 0) (as_it_was e 0 (omega arith) t +ℤ as_it_was e 1 (omega arith) t)

    unseen : free why (slot 0 i j) ≡ false → seen (cleared why table) i j ≡ false
    unfolding seen
    unseen e = λ t. lt_z (pos 0) (gone 0 (omega arith) t +ℤ gone 1 (omega arith) t)
      where
        gone : (f : ℕ) → f < 2 → entry (cleared why table) f i j ≡ pos 0
        gone f lf = entry_cleared f i j lf li lj ∙ (λ t. cond (e t) (entry table f i j) (pos 0))

-- a place where nothing is seen is not spoilt
fault_unseen : (k : ℕ) (n r : List ℤ) (p : ℕ) → seen n (p / 16) (p % 16) ≡ false → fault (step_check k) n r p ≡ false
unfolding step_check fault faces_fault initial_fault apart_fault
fault_unseen zero n r p e = rw e
fault_unseen (suc zero) n r p e = rw e
fault_unseen (suc (suc zero)) n r p e = rw e
fault_unseen (suc (suc (suc k))) n r p e = rw e

-- a place is that of its position and object
at_place : (p : ℕ) → slot 0 (p / 16) (p % 16) ≡ p
at_place p = omega arith

pub fault_gone : (why : List ℕ) (n r : List ℤ) (p : ℕ) → p < 256 → (k : ℕ) → free why p ≡ false → fault (step_check k) (cleared why n) r p ≡ false
fault_gone why n r p l k e = fault_unseen k (cleared why n) r p (unseen why n (p / 16) (p % 16) (omega arith) (omega arith) (ap (free why) (at_place p) ∙ e))

-- ---- one step more
module _ (n r : List ℤ) where
  abbrev why : ℕ → List ℕ
  why k = why_after k n r

  -- what a step finds at a place
  abbrev found : ℕ → ℕ → Bool
  found k p = fault (step_check k) (cleared (why k) n) (cleared (why k) r) p

  module _ (p : ℕ) (l : p < 256) where
    pub why_at : (k : ℕ) → get_or (why_after (suc k) n r) p 0 ≡ cond (fault (step_check k) (cleared (why_after k n r) n) (cleared (why_after k n r) r) p) (suc k) (get_or (why_after k n r) p 0)
    unfolding why_after noted
    why_at k = tabulate_at 256 (λ p. cond (found k p) (suc k) (get_or (why k) p 0)) p 0 l

    pub free_next : (k : ℕ) → free (why_after (suc k) n r) p ≡ (free (why_after k n r) p && not (fault (step_check k) (cleared (why_after k n r) n) (cleared (why_after k n r) r) p))
    free_next k = ap (λ (i : ℕ). eqb i 0) (why_at k) ∙ by_test (found k p)
      where
        by_test : (y : Bool) → eqb (cond y (suc k) (get_or (why k) p 0)) 0 ≡ (free (why k) p && not y)
        by_test true = ne_eqb (suc k) 0 (λ e. omega arith) ∙ sym (and-false (free (why k) p))
        by_test false = sym (and_yes (free (why k) p))

    pub free_before : (m k : ℕ) → m ≤ k → free (why_after k n r) p ≡ true → free (why_after m n r) p ≡ true
    free_before m zero lm e = subst (λ (i : ℕ). free (why i) p ≡ true) (none m lm) e
      where
        none : (m : ℕ) → m ≤ 0 → 0 ≡ m
        none m lm = omega arith
    free_before m (suc k) lm e = by_order (dec_lt k m) (free_before m k)
      where
        here : k < m → suc k ≡ m
        here a = omega arith

        by_order : Dec (k < m) → (m ≤ k → free (why k) p ≡ true → free (why m) p ≡ true) → free (why m) p ≡ true
        by_order (yes a) rec = subst (λ (i : ℕ). free (why i) p ≡ true) (here a) e
        by_order (no a) rec = rec (omega arith) (and_true (free (why k) p) _ (sym (free_next k) ∙ e)).0

    -- a place that has no reason after a step was not spoilt in it
    not_found : (k : ℕ) → free (why (suc k)) p ≡ true → found k p ≡ false
    not_found k e = not-true (found k p) (and_true (free (why k) p) _ (sym (free_next k) ∙ e)).1

    -- ---- 23 and 25 look at the place alone: a place that stays is as it was
    module _ (k : ℕ) (e : free (why k) p ≡ true) where
      here : free (why k) (slot 0 (p / 16) (p % 16)) ≡ true
      here = ap (free (why k)) (at_place p) ∙ e

      faces_free : fault PairsWhole (cleared (why k) n) (cleared (why k) r) p ≡ fault PairsWhole n r p
      unfolding fault faces_fault
      faces_free = λ t.
          seen_free (why k) n (p / 16) (p % 16) (omega arith) (omega arith) here t
          && not (
          same (as_it_was (why k) n (p / 16) (p % 16) (omega arith) (omega arith) here 0 (omega arith) t) (pos 1)
          && same (as_it_was (why k) n (p / 16) (p % 16) (omega arith) (omega arith) here 1 (omega arith) t) (pos 1))

      apart_free : fault FacesClose (cleared (why k) n) (cleared (why k) r) p ≡ fault FacesClose n r p
      unfolding fault apart_fault s
      apart_free = λ t.
          seen_free (why k) n (p / 16) (p % 16) (omega arith) (omega arith) here t
          && ltb 60000 (nat_abs (centred (
          as_it_was (why k) r (p / 16) (p % 16) (omega arith) (omega arith) here 1 (omega arith) t
          -ℤ as_it_was (why k) r (p / 16) (p % 16) (omega arith) (omega arith) here 0 (omega arith) t -ℤ half_c) half_c))

  -- ---- 24 looks at object 1 too, which the fourth step itself never drops
  own_initial : (i : ℕ) → found 3 (slot 0 i 0) ≡ false
  unfolding step_check fault initial_fault
  own_initial i =
      ap (λ (j : ℕ). seen (cleared (why 3) n) (slot 0 i 0 / 16) j && not (seen (cleared (why 3) n) (slot 0 i 0 / 16) 0)) first_object
      ∙ and-not_self (seen (cleared (why 3) n) (slot 0 i 0 / 16) 0)
    where
      first_object : slot 0 i 0 % 16 ≡ 0
      first_object = omega arith

  initial_stays : (i : ℕ) → i < 16 → seen (cleared (why 4) n) i 0 ≡ seen (cleared (why 3) n) i 0
  initial_stays i li = by_test (free (why 3) (slot 0 i 0)) refl
    where
      by_test : (x : Bool) → free (why 3) (slot 0 i 0) ≡ x → seen (cleared (why 4) n) i 0 ≡ seen (cleared (why 3) n) i 0
      by_test true e =
          seen_free (why 4) n i 0 li (omega arith) (free_next (slot 0 i 0) (omega arith) 3 ∙ (λ t. e t && not (own_initial i t)))
          ∙ sym (seen_free (why 3) n i 0 li (omega arith) e)
      by_test false e =
          unseen (why 4) n i 0 li (omega arith) (free_next (slot 0 i 0) (omega arith) 3 ∙ (λ t. e t && not (found 3 (slot 0 i 0))))
          ∙ sym (unseen (why 3) n i 0 li (omega arith) e)

  -- ---- after the four steps
  module _ (p : ℕ) (l : p < 256) where
    by_free : (k : ℕ) → (free (why 4) p ≡ true → fault (step_check k) (cleared (why 4) n) (cleared (why 4) r) p ≡ false) → fault (step_check k) (cleared (why 4) n) (cleared (why 4) r) p ≡ false
    by_free k f = by_test (free (why 4) p) refl
      where
        by_test : (x : Bool) → free (why 4) p ≡ x → fault (step_check k) (cleared (why 4) n) (cleared (why 4) r) p ≡ false
        by_test true e = f e
        by_test false e = fault_gone (why 4) n (cleared (why 4) r) p l k e

    initials_settled : free (why 4) p ≡ true → fault InitialSeen (cleared (why 4) n) (cleared (why 4) r) p ≡ false
    unfolding step_check fault initial_fault
    initials_settled e = (λ t. same_seen t && not (initial_stays (p / 16) (omega arith) t)) ∙ not_found p l 3 e
      where
        same_seen : seen (cleared (why 4) n) (p / 16) (p % 16) ≡ seen (cleared (why 3) n) (p / 16) (p % 16)
        same_seen =
            seen_free (why 4) n (p / 16) (p % 16) (omega arith) (omega arith) (here p l 4 e)
            ∙ sym (seen_free (why 3) n (p / 16) (p % 16) (omega arith) (omega arith) (here p l 3 (free_before p l 3 4 (omega arith) e)))

    pub settled : (k : ℕ) → fault (step_check k) (cleared (why_after 4 n r) n) (cleared (why_after 4 n r) r) p ≡ false
    unfolding step_check
    settled zero = by_free 0 (λ e. faces_free p l 4 e ∙ sym (faces_free p l 0 (free_before p l 0 4 (omega arith) e)) ∙ not_found p l 0 (free_before p l 1 4 (omega arith) e))
    settled (suc zero) = by_free 1 initials_settled
    settled (suc (suc zero)) = by_free 2 (λ e. apart_free p l 4 e ∙ sym (apart_free p l 2 (free_before p l 2 4 (omega arith) e)) ∙ not_found p l 2 (free_before p l 3 4 (omega arith) e))
    settled (suc (suc (suc k))) = by_free (suc (suc (suc k))) initials_settled
