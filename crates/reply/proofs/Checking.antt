-- The laws of a fixed order of checks. Assumes nothing.
--   refuse_at, refuse_none        a check over n things in their order: what it replies, from what a loop has found
--   refuse_first_lem, accept_first    the same, from the first at fault
--   none_refused                  where it accepts, no thing is at fault
--   never                         a refusal is no acceptance
--   both_accepted, if_accepted    where two checks accept one after the other, each does; where one check accepts, its fault is not there
--   if_refused                    where one check refuses, it is with its own refusal
--   refused_by, refused_after     a refusal by one check and then another is one of theirs: the second's, once the first has accepted
--   refused_as                    that of a check over n things is of the first at fault
--   figure_replied, figure_accepted, figure_given, figure_refused, figure_left, figure_ok      an answer that gives something, taken apart
--   turn_none, turn_all, turn_more, turn_stops, turn_each      several checks of each of n things, by the loop that makes them
use mathlib.Core.Path.{◌≡◌, refl, sym, subst}
use mathlib.Core.Bool.{Bool, true, false}
use mathlib.Core.Logic.{◌⊎◌, inl, inr}
use Prim.Native.Nat.{ℕ, zero, suc, ◌+◌, ◌≤◌, ◌<◌}
use native.Mathlib.Decide.{dec_lt}
use native.Mathlib.Numerals.{add-one}
use native.Mathlib.Omega.{arith}
use borrow.Author.Tests.{lt-ltb, le-ltb}
use Rattle.exact.specs.First.{first, some_below}
use Rattle.exact.proofs.Searching.{Failed, first_at, some_at, some_none, all_failed}
use Rattle.reply.specs.declared.Refusal.{Refusal}
use Rattle.reply.specs.Reply.{Reply}
use Rattle.reply.specs.Checks.{refuse_if, refuse_first, ◌and_then◌, in_turn, figure_of, figure_reply, figure_leaves, leaves}
use Rattle.std.specs.Prelude.{IsOk, Ok, Err}
use borrow.Author.Rules.{rules}

pub never : {A : Type 0} (why : Refusal) → ◌≡◌ {A = Reply} (Err why) (Ok tt) → A
never why e = let z : ◌≡◌ {A = ℕ} 0 1 = cc in absurd (omega arith)

pub both_accepted : (r s : Reply) → (r and_then s) ≡ Ok tt → (r ≡ Ok tt) × (s ≡ Ok tt)
both_accepted (Ok _) s e = (refl, e)
both_accepted (Err why) s e = never why e

pub if_accepted : (fault : Bool) (why : Refusal) → refuse_if fault why ≡ Ok tt → fault ≡ false
if_accepted true why e = never why e
if_accepted false why e = refl

pub if_refused : (fault : Bool) (why other : Refusal) → refuse_if fault why ≡ Err other → why ≡ other
if_refused true why other e = cc
if_refused false why other e = never other (sym e)

pub refused_by : (r s : Reply) {why : Refusal} → (r and_then s) ≡ Err why → (r ≡ Err why) ⊎ (s ≡ Err why)
refused_by (Ok _) s e = inr e
refused_by (Err why) s e = inl e

pub refused_after : (r s : Reply) {why : Refusal} → (r and_then s) ≡ Err why → (r ≡ Err why) ⊎ ((r ≡ Ok tt) × (s ≡ Err why))
refused_after (Ok _) s e = inr (refl, e)
refused_after (Err why) s e = inl e

-- ---- one check of n things
module _ (n : ℕ) (fault : ℕ → Bool) (why : ℕ → Refusal) where
  pub refuse_at : (i : ℕ) → i < n → Failed fault i → fault i ≡ true → refuse_first n fault why ≡ Err (why i)
  refuse_at i l f e = rw (some_at n fault i l f e, first_at n fault i l f e)

  pub refuse_none : Failed fault n → refuse_first n fault why ≡ Ok tt
  refuse_none f = rw (some_none n fault f)

  -- the same, where the first at fault has been found
  pub refuse_first_lem : (i : ℕ) → i ≡ first n fault → i < n → refuse_first n fault why ≡ Err (why i)
  refuse_first_lem i e l = rw (← e, lt-ltb i n l)

  pub accept_first : n ≤ first n fault → refuse_first n fault why ≡ Ok tt
  accept_first l = rw (le-ltb (first n fault) n l)

  pub none_refused : refuse_first n fault why ≡ Ok tt → Failed fault n
  none_refused e = all_failed n fault (if_accepted (some_below n fault) (why (first n fault)) e)

  pub refused_as : (other : Refusal) → refuse_first n fault why ≡ Err other → why (first n fault) ≡ other
  refused_as other e = if_refused (some_below n fault) (why (first n fault)) other e

-- ---- several checks of each of n things
module _ (check : ℕ → Reply) where
  pub turn_none : in_turn 0 check ≡ Ok tt
  unfolding in_turn
  turn_none = refl

  pub turn_all : (n : ℕ) → ((j : ℕ) → j < n → check j ≡ Ok tt) → in_turn n check ≡ Ok tt
  unfolding in_turn
  turn_all zero each = refl
  turn_all (suc n) each = rw (turn_all n (λ j l. each j (omega arith))) (each n (omega arith))

  pub turn_more : (n : ℕ) → in_turn n check ≡ Ok tt → check n ≡ Ok tt → in_turn (n + 1) check ≡ Ok tt
  unfolding in_turn
  turn_more n e f = rw (add-one, e) f

  -- what comes after a refusal does not change it
  pub turn_stops : (n i : ℕ) (why : Refusal) → i < n → in_turn i check ≡ Ok tt → check i ≡ Err why → in_turn n check ≡ Err why
  unfolding in_turn
  turn_stops zero i why l e f = absurd (omega arith)
  turn_stops (suc n) i why l e f = by_place (dec_lt i n) (turn_stops n i why)
    where
      last : ¬ (i < n) → i ≡ n
      last k = omega arith

      by_place : Dec (i < n) → (i < n → in_turn i check ≡ Ok tt → check i ≡ Err why → in_turn n check ≡ Err why) → (in_turn n check and_then check n) ≡ Err why
      by_place (yes k) rec = rw (rec k e f)
      by_place (no k) rec = rw (subst (λ (j : ℕ). in_turn j check ≡ Ok tt) (last k) e) (subst (λ (j : ℕ). check j ≡ Err why) (last k) f)

  pub turn_each : (n : ℕ) → in_turn n check ≡ Ok tt → (j : ℕ) → j < n → check j ≡ Ok tt
  unfolding in_turn
  turn_each zero e j l = absurd (omega arith)
  turn_each (suc n) e j l = by_place (dec_lt j n) (turn_each n (both_accepted (in_turn n check) (check n) e).0 j)
    where
      last : ¬ (j < n) → n ≡ j
      last k = omega arith

      by_place : Dec (j < n) → (j < n → check j ≡ Ok tt) → check j ≡ Ok tt
      by_place (yes k) rec = rec k
      by_place (no k) rec = subst (λ (i : ℕ). check i ≡ Ok tt) (last k) (both_accepted (in_turn n check) (check n) e).1

-- ---- the answer of an operation that gives something
-- its reply is that of the checks
pub figure_replied : {A : Type 0} (r : Reply) (v : A) → figure_reply (figure_of r v) ≡ r
figure_replied (Ok _) v = refl
figure_replied (Err why) v = refl

-- where there is something given, every check accepts, and it is that
pub figure_accepted : {A : Type 0} (r : Reply) (v : A) → IsOk (figure_of r v) → r ≡ Ok tt
figure_accepted (Ok _) v e = refl
figure_accepted (Err why) v e = absurd (search rules)

pub figure_given : {A : Type 0} (r : Reply) (v : A) {given : A} → figure_of r v ≡ Ok given → (r ≡ Ok tt) × (given ≡ v)
figure_given (Ok _) v e = (refl, cc)
figure_given (Err why) v e = cc

-- where there is a refusal, it is that of the checks
pub figure_refused : {A : Type 0} (r : Reply) (v : A) {why : Refusal} → figure_of r v ≡ Err why → r ≡ Err why
figure_refused (Ok _) v e = cc
figure_refused (Err why) v e = cc

-- what then stands in the place that was lent for it
pub figure_left : {A : Type 0} (r : Reply) (v before : A) → figure_leaves (figure_of r v) before ≡ leaves r v before
figure_left (Ok _) v before = refl
figure_left (Err why) v before = refl

pub figure_ok : {A : Type 0} (r : Reply) (v : A) → r ≡ Ok tt → IsOk (figure_of r v)
figure_ok (Ok _) v e = refl
figure_ok (Err why) v e = never why e
