-- What the inner functions hand each other, and `adjust_own` the crate above. No part of the promise.
use Rattle.std.specs.Prelude.{◌≡◌, List, ℕ, ◌<◌, length, get_or, replicate, ℤ, pos, ◌+ℤ◌, ◌*ℤ◌, Result, Ok}
use Rattle.exact.specs.Nearest.{nearest}
use Rattle.exact.specs.Tabulate.{tabulate}
use Rattle.reply.specs.declared.Refusal.{Refusal}
use Rattle.reply.specs.Reply.{Reply}
use Rattle.reply.specs.Checks.{figure_reply}
use Rattle.doolittle.specs.Table.{Table, at, table_of}
use Rattle.doolittle.specs.Solution.{K}
use Rattle.doolittle.specs.Inner.{Small, Sound}
use Rattle.adjustment.specs.Corrections.{V_of, R_of, u_of}
use Rattle.adjustment.specs.Demand.{seen}
use Rattle.adjustment.specs.declared.lists.Adjusted.{Adjusted}
use Rattle.adjustment.specs.declared.lists.AnswerLists.{AnswerLists}
use Rattle.adjustment.specs.Promise.{Answers, lists, adjust_reply, answers_of, WithinMinute}

-- a lent table that has passed its input checks; the last six numbers are the lengths of the lent answer lists
pub record Checked (ds qs cs ws : List ℤ) (v u adjusted k r Q : ℕ) : Type 0 where
  pub sound : Sound qs cs ws
  pub directions : length ds ≡ length qs
  pub in_circle : Small 1296000000 ds (length qs)
  pub by_direction : (v ≡ length qs) × (u ≡ length qs) × (adjusted ≡ length qs)
  pub by_condition : (k ≡ length ws) × (r ≡ length ws) × (Q ≡ length ws)

-- R(j) by a and V: sum of a*V + 10^7*w(j)
abbrev pub closing : Table → (ℕ → ℤ) → ℕ → ℤ
closing t v j = seen t j v +ℤ pos 10000000 *ℤ t.w j

-- u(i) by V: V to the nearest 10^5
abbrev pub rounding : (ℕ → ℤ) → ℕ → ℤ
rounding v i = nearest (v i) (pos 100000)

-- the correlates, corrections, printed corrections and remainders of a table that is accepted
pub record Solved (t : Table) (ks vs us rs : List ℤ) : Type 0 where
  pub k : (j : ℕ) → j < t.n → get_or ks j (pos 0) ≡ K t j
  pub v : (i : ℕ) → i < t.m → get_or vs i (pos 0) ≡ V_of t (K t) i
  pub u : (i : ℕ) → i < t.m → get_or us i (pos 0) ≡ u_of t (K t) i
  pub r : (j : ℕ) → j < t.n → get_or rs j (pos 0) ≡ R_of t (K t) j
  pub u_most : WithinMinute t (u_of t (K t))

-- the reply to a lent table, and the answers of an accepted one; what a refusal leaves in the lists is not said
pub record AdjustsOwn (ds qs cs ws : List ℤ) (lent : Answers) (reply : Reply) (left : Answers) : Type 0 where
  pub answer : reply ≡ adjust_reply ds qs cs ws lent
  pub lists : reply ≡ Ok tt → left ≡ answers_of (table_of qs cs ws) (K (table_of qs cs ws)) (at ds)

-- answer lists that are as long as m directions and n conditions ask; what stands in them is never read
unfoldable pub fitting : (m n : ℕ) → Answers
fitting m n =
    let blank : ℕ → List ℤ = λ count. tabulate count (λ i. pos 0) in
    lists (blank m) (blank m) (blank m) (blank n) (blank n) (blank n)

-- answer lists that hold no answers yet; what stands in them is never read either
unfoldable pub no_answers : AnswerLists
no_answers = record {
  corrections = replicate 64 (pos 0);
  printed = replicate 64 (pos 0);
  adjusted = replicate 64 (pos 0);
  correlates = replicate 24 (pos 0);
  remainders = replicate 24 (pos 0);
  misses = replicate 24 (pos 0);
}

abbrev pub answers_in : Adjusted → Answers
answers_in x = lists x.corrections.now x.printed.now x.adjusted.now x.correlates.now x.remainders.now x.misses.now

-- the reply to a lent table where the answer lists are as long as they must be, and the answers of an accepted one
pub record GivesAnswers (ds qs cs ws : List ℤ) (given : Result Adjusted Refusal) : Type 0 where
  pub reply : figure_reply given ≡ adjust_reply ds qs cs ws (fitting (length ds) (length ws))
  pub answers : (x : Adjusted) → given ≡ Ok x → answers_in x ≡ answers_of (table_of qs cs ws) (K (table_of qs cs ws)) (at ds)
