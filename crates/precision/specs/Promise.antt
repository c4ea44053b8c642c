-- What the operation on lent lists promises for every input: its reply, both errors, and what the mean error is; and the same as a caller is told it who
-- lends two numbers.
use Rattle.std.specs.Prelude.{◌≡◌, Bool, ◌||◌, not, List, ℕ, ◌+◌, ◌*◌, eqb, length, ℤ, pos, ◌+ℤ◌, ◌*ℤ◌, ◌≤ℤ◌, ◌<ℤ◌, Result, Ok}
use Rattle.reply.specs.declared.Refusal.{Refusal}
use Rattle.reply.specs.declared.Refusal.TheVariants.{Count, OutOfRange}
use Rattle.reply.specs.Reply.{Reply}
use Rattle.reply.specs.Checks.{refuse_if, refuse_first, ◌and_then◌, leaves, figure_of, figure_reply}
use Rattle.reply.specs.Verdicts.{verdict_of}
use Rattle.direction.specs.Ranges.{weight_out_of_range}
use Rattle.doolittle.specs.Table.{at}
use Rattle.adjustment.specs.Refusals.{counts_amiss, past_minute}
use Rattle.precision.specs.declared.Errors.{Errors}
use Rattle.precision.specs.Errors.{S_of, errors_of}

-- 3 by direction number, for a u past one minute or a q out of range
abbrev pub out_of_range_at : (us qs : List ℤ) (i : ℕ) → Bool
out_of_range_at us qs i = past_minute (at us i) || weight_out_of_range (at qs i)

abbrev pub ranges_reply : (us qs : List ℤ) → Reply
ranges_reply us qs = refuse_first (length us) (out_of_range_at us qs) (λ i. OutOfRange (i + 1))

-- 2 at 0 for counts and lengths, then 3
unfoldable pub errors_reply : (us qs : List ℤ) (n : ℕ) → Reply
errors_reply us qs n =
    refuse_if (counts_amiss (length us) n || not (eqb (length qs) (length us))) (Count 0) and_then ranges_reply us qs

-- x*x*2,520*n
abbrev pub square : (n : ℕ) (x : ℤ) → ℤ
square n x = x *ℤ x *ℤ pos (2520 * n)

-- "The root search ends with the value it has found, and that value is shown to be the only one": e*e*2,520*n <= S < (e + 1)*(e + 1)*2,520*n,
-- no larger number has the first, and no other number from 0 on has both
pub record MeanError (n : ℕ) (S e : ℤ) : Type 0 where
  pub from_0 : pos 0 ≤ℤ e
  pub within : square n e ≤ℤ S
  pub above : S <ℤ square n (e +ℤ pos 1)
  pub largest : (x : ℤ) → square n x ≤ℤ S → x ≤ℤ e
  pub only : (x : ℤ) → pos 0 ≤ℤ x → square n x ≤ℤ S → S <ℤ square n (x +ℤ pos 1) → x ≡ e

pub record FindsErrors (us qs : List ℤ) (n : ℕ) (found : Result Errors Refusal) : Type 0 where
  pub answer : found ≡ figure_of (errors_reply us qs n) (errors_of us qs n)
  -- in the rules' numbers: number and place
  pub verdict : verdict_of (figure_reply found) ≡ verdict_of (errors_reply us qs n)
  pub mean_error : (e : Errors) → found ≡ Ok e → MeanError n (S_of us qs) e.mean

-- where two numbers are lent for the errors: what they then hold
pub record TellsErrors (us qs : List ℤ) (n : ℕ) (lent : Errors) (reply : Reply) (left : Errors) : Type 0 where
  pub answer : reply ≡ errors_reply us qs n
  -- in the rules' numbers: number and place
  pub verdict : verdict_of reply ≡ verdict_of (errors_reply us qs n)
  pub errors : left ≡ leaves reply (errors_of us qs n) lent
  pub mean_error : reply ≡ Ok tt → MeanError n (S_of us qs) left.mean
