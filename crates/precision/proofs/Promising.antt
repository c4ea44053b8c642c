-- The promise of `probable_error`, from what its checks have said, and what a caller is told who lends two numbers. Assumes nothing.
--   by_ranges                             the reply, where counts and lengths are accepted
--   refused_finds, accepted_finds         a refusal keeps the promise, and so does an acceptance with both errors
--   refused_tells, accepted_tells         a refusal with both numbers as they were lent keeps the promise, and so does an acceptance with both errors
--   finds_tells                           what is promised of the answer is promised of the two lent numbers
--   refusal_leaves_numbers                a refusal that keeps the promise leaves both numbers as they were
--   only_answer, one_found, one_estimate  two answers that keep the promise are equal, and leave equal numbers; of the answer itself, and of `estimate` too
use mathlib.Core.Path.{◌≡◌, refl, sym, ◌∙◌, ap}
use mathlib.Core.Bool.{false}
use mathlib.Core.List.{List}
use Prim.Native.Nat.{ℕ}
use borrow.Author.Tests.{eq-eqb}
use lib.ListN.{length}
use lib.IntN.{ℤ}
use Rattle.exact.proofs.Unique.{only}
use Rattle.reply.specs.declared.Refusal.{Refusal}
use Rattle.reply.specs.Reply.{Reply}
use Rattle.reply.specs.Checks.{leaves, figure_reply, figure_leaves}
use Rattle.reply.specs.Verdicts.{verdict_of}
use Rattle.reply.proofs.Checking.{never}
use Rattle.adjustment.specs.Refusals.{counts_amiss}
use Rattle.precision.specs.declared.Errors.{Errors}
use Rattle.precision.specs.Errors.{errors_of}
use Rattle.precision.specs.Promise.{ranges_reply, errors_reply, FindsErrors, TellsErrors}
use Rattle.precision.proofs.Meaning.{lists_mean_error}
use Rattle.std.specs.Prelude.{Result, Ok, Err}

module _ (us qs : List ℤ) (n : ℕ) where
  -- ---- the reply
  pub by_ranges : counts_amiss (length us) n ≡ false → length qs ≡ length us → errors_reply us qs n ≡ ranges_reply us qs
  unfolding errors_reply
  by_ranges a e = rw (a, eq-eqb (length qs) (length us) e)

  -- ---- the promise
  pub refused_finds : {why : Refusal} → errors_reply us qs n ≡ Err why → FindsErrors us qs n (Err why)
  refused_finds e = record { answer = rw e; verdict = ap verdict_of (sym e); mean_error = λ x k. cc }

  pub accepted_finds : errors_reply us qs n ≡ Ok tt → {found : Errors} → found ≡ errors_of us qs n → FindsErrors us qs n (Ok found)
  accepted_finds e {found} f = record {
    answer = rw (e, f);
    verdict = ap verdict_of (sym e);
    mean_error = λ x k. let same : x ≡ errors_of us qs n = cc in rw same (lists_mean_error us qs n e);
  }

  -- ---- and where two numbers are lent
  module _ {lent : Errors} where
    pub refused_tells : (why : Refusal) → errors_reply us qs n ≡ Err why → TellsErrors us qs n lent (Err why) lent
    refused_tells why e = record { answer = sym e; verdict = ap verdict_of (sym e); errors = refl; mean_error = never why }

    pub accepted_tells : errors_reply us qs n ≡ Ok tt → {left : Errors} → left ≡ errors_of us qs n → TellsErrors us qs n lent (Ok tt) left
    accepted_tells e {left} f = record { answer = sym e; verdict = ap verdict_of (sym e); errors = f; mean_error = λ k. rw f (lists_mean_error us qs n e) }

    pub finds_tells : {found : Result Errors Refusal} → FindsErrors us qs n found → TellsErrors us qs n lent (figure_reply found) (figure_leaves found lent)
    finds_tells {found} a = by_reply (errors_reply us qs n) refl
      where
        by_reply : (r : Reply) → errors_reply us qs n ≡ r → TellsErrors us qs n lent (figure_reply found) (figure_leaves found lent)
        by_reply (Ok _) e = let is : found ≡ Ok (errors_of us qs n) = rw e at a.answer in rw is (accepted_tells e refl)
        by_reply (Err why) e = let is : found ≡ Err why = rw e at a.answer in rw is (refused_tells why e)

    pub refusal_leaves_numbers : (why : Refusal) (left : Errors) → TellsErrors us qs n lent (Err why) left → left ≡ lent
    refusal_leaves_numbers why left t = t.errors

    -- ---- and there is only one
    pub only_answer : (r r' : Reply) (left left' : Errors) → TellsErrors us qs n lent r left → TellsErrors us qs n lent r' left' → (r ≡ r') × (left ≡ left')
    only_answer r r' left left' a b =
        let held : Reply → Errors = λ x. leaves x (errors_of us qs n) lent in
        (only a.answer b.answer, only (a.errors ∙ ap held a.answer) (b.errors ∙ ap held b.answer))

  pub one_found : {found found' : Result Errors Refusal} → FindsErrors us qs n found → FindsErrors us qs n found' → found ≡ found'
  one_found a b = only a.answer b.answer

  pub one_estimate : (r r' : Errors) → r ≡ errors_of us qs n → r' ≡ errors_of us qs n → r ≡ r'
  one_estimate r r' x y = only x y
