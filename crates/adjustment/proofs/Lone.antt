-- When a lone condition is refused as a weak row: exactly where all its coefficients are zero. A light condition is no weak one. Assumes nothing.
--   WeakExactly      a reply is 6, at whatever row, exactly where this is so, and then it is 6 at row 1
--   lone_solution    of the solution of a lone condition whose numbers are in range
--   lone_table       of a lent table of one condition that passes the input checks
use mathlib.Core.Path.{◌≡◌, refl, ap, subst}
use mathlib.Core.Bool.{Bool, true, false}
use mathlib.Core.Logic.{⊎_elim}
use mathlib.Core.List.{List}
use Prim.Native.Nat.{ℕ, ◌+◌, ◌-◌, ◌<◌}
use native.Mathlib.Omega.{arith}
use lib.Dec.{lit≤}
use lib.ListN.{length}
use lib.IntN.{ℤ}
use Rattle.exact.specs.First.{first}
use Rattle.exact.proofs.Searching.{failed_none}
use Rattle.reply.specs.declared.Refusal.{Refusal}
use Rattle.reply.specs.declared.Refusal.TheVariants.{WeakRow, Correlate, Remainder, Correction}
use Rattle.reply.specs.Reply.{Reply}
use Rattle.reply.specs.Numbers.{number_of}
use Rattle.reply.specs.Checks.{refuse_first, ◌and_then◌}
use Rattle.reply.proofs.Checking.{refuse_none, refused_by, refused_as}
use Rattle.doolittle.specs.Table.{Table, table_of}
use Rattle.doolittle.specs.Solution.{weak, K}
use Rattle.doolittle.specs.Inner.{Sound}
use Rattle.doolittle.proofs.Lone.{Untouching, lone_weak, lone_zero}
use Rattle.adjustment.specs.Refusals.{rows_reply, correlates_reply, remainders_reply, corrections_reply, solution_reply}
use Rattle.adjustment.specs.Promise.{Answers, adjust_reply}
use Rattle.adjustment.proofs.Promising.{input, passed_sound, passed_solved}
use Rattle.adjustment.proofs.Solving.{first_weak}
use Rattle.std.specs.Prelude.{Ok, Err}

abbrev pub WeakExactly : Reply → Type 0 → Type 0
WeakExactly reply P = (P → reply ≡ Err (WeakRow 1)) × ((row : ℕ) → reply ≡ Err (WeakRow row) → P)

-- a check whose refusals have later numbers finds no weak row
later : (n : ℕ) (fault : ℕ → Bool) (why : ℕ → Refusal) (row : ℕ) → ((i : ℕ) → 6 < number_of (why i)) → refuse_first n fault why ≡ Err (WeakRow row) → ⊥
later n fault why row l e = omega (arith, l (first n fault), ap number_of (refused_as n fault why (WeakRow row) e))

module _ (qs cs ws : List ℤ) (s : Sound qs cs ws) (one : length ws ≡ 1) where
  abbrev t : Table
  t = table_of qs cs ws

  -- 8 and 9, which come after 7
  abbrev after_7 : Reply
  after_7 = remainders_reply t (K t) and_then corrections_reply t (K t)

  none_later : (row : ℕ) → (correlates_reply t and_then after_7) ≡ Err (WeakRow row) → ⊥
  unfolding correlates_reply remainders_reply corrections_reply
  none_later row e =
      ⊎_elim (later t.n _ (λ b. Correlate (t.n - b)) row (λ b. lit≤ tt))
      (λ f. ⊎_elim (later t.n _ (λ j. Remainder (j + 1)) row (λ j. lit≤ tt)) (later t.m _ (λ i. Correction (i + 1)) row (λ i. lit≤ tt))
      (refused_by (remainders_reply t (K t)) (corrections_reply t (K t)) f))
      (refused_by (correlates_reply t) after_7 e)

  rows_stand : weak t 0 ≡ false → rows_reply t ≡ Ok tt
  unfolding rows_reply
  rows_stand e = refuse_none t.n (weak t) (λ j. WeakRow (j + 1)) (λ h l. let z : 0 ≡ h = omega arith in subst (λ (h : ℕ). weak t h ≡ false) z e)

  pub lone_solution : WeakExactly (solution_reply t) (Untouching t 0)
  unfolding solution_reply
  lone_solution = (
    (λ z. first_weak t 0 (omega arith) (failed_none (weak t)) (lone_zero qs cs ws s one z)),
    (λ row e. by_test (weak t 0) refl row e),
  )
    where
      by_test : (b : Bool) → weak t 0 ≡ b → (row : ℕ) → solution_reply t ≡ Err (WeakRow row) → Untouching t 0
      by_test true f row e = lone_weak qs cs ws s one f
      by_test false f row e = absurd (none_later row (rw (rows_stand f) at e))

pub lone_table : (ds qs cs ws : List ℤ) (lent : Answers) → input ds qs cs ws lent ≡ Ok tt → length ws ≡ 1 → WeakExactly (adjust_reply ds qs cs ws lent) (Untouching (table_of qs cs ws) 0)
lone_table ds qs cs ws lent passed one = rw (passed_solved ds qs cs ws lent passed) (lone_solution qs cs ws (passed_sound ds qs cs ws lent passed) one)
