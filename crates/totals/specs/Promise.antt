-- What the operation on two lent reports promises for every input.
use Rattle.std.specs.Prelude.{◌≡◌, Bool, ◌||◌, not, List, ℕ, ◌+◌, eqb, ltb, length, get_or}
use Rattle.reply.specs.declared.Refusal.TheVariants.{Count, OutOfRange, Nets}
use Rattle.reply.specs.Reply.{Reply}
use Rattle.reply.specs.Checks.{refuse_if, refuse_first, ◌and_then◌, leaves}
use Rattle.reply.specs.Verdicts.{verdict_of}
use Rattle.totals.specs.Totals.{joined, sum_of}

-- the most nets of a report, and the number of a net past them
abbrev pub most_nets : ℕ
most_nets = 100000

-- the most that a report's number may be: 18 digits
abbrev pub most_total : ℕ
most_total = 999999999999999999

-- lists that are no reports
unfoldable pub lengths_amiss : (first second sum : ℕ) → Bool
lengths_amiss first second sum = not (eqb first 16) || (not (eqb second 16) || not (eqb sum 16))

-- a number of one place, or what both make, past 18 digits
unfoldable pub too_large : (i x y : ℕ) → Bool
too_large i x y = ltb most_total x || (ltb most_total y || ltb most_total (joined i x y))

abbrev pub too_large_at : (first second : List ℕ) → ℕ → Bool
too_large_at first second i = too_large i (get_or first i 0) (get_or second i 0)

-- 3 by place
abbrev pub sizes_reply : (first second : List ℕ) → Reply
sizes_reply first second = refuse_first 16 (too_large_at first second) (λ i. OutOfRange (i + 1))

-- 2 at 0 for lengths, then 3 by place, then "30 for a net past 100,000"
unfoldable pub sum_reply : (first second : List ℕ) (room : ℕ) → Reply
sum_reply first second room =
    refuse_if (lengths_amiss (length first) (length second) room) (Count 0)
    and_then (sizes_reply first second
    and_then refuse_if (ltb most_nets (get_or first 0 0 + get_or second 0 0)) (Nets (most_nets + 1)))

pub record Adds (first second lent : List ℕ) (reply : Reply) (left : List ℕ) : Type 0 where
  pub answer : reply ≡ sum_reply first second (length lent)
  -- in the rules' numbers: number and place
  pub verdict : verdict_of reply ≡ verdict_of (sum_reply first second (length lent))
  pub sum : left ≡ leaves reply (sum_of first second) lent
