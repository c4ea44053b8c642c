-- What the operation promises for every input: its reply, what each lent answer list then holds, and of every accepted table demand 3 and that no
-- printed correction is past one minute.
use Rattle.std.specs.Prelude.{◌≡◌, List, ℕ, ◌≤◌, ◌<◌, length, ℤ, nat_abs, Ok}
use Rattle.exact.specs.Tabulate.{tabulate}
use Rattle.reply.specs.Reply.{Reply}
use Rattle.reply.specs.Checks.{◌and_then◌, leaves}
use Rattle.reply.specs.Verdicts.{verdict_of}
use Rattle.doolittle.specs.Table.{Table, at, table_of}
use Rattle.doolittle.specs.Solution.{K}
use Rattle.adjustment.specs.Corrections.{V_of, R_of, u_of, adjusted_of, Q_of}
use Rattle.adjustment.specs.Refusals.{input_reply, solution_reply}
use Rattle.adjustment.specs.Demand.{Demand3}

-- the six lent answer lists: V, u, the adjusted directions, K, R and Q
pub record Answers : Type 0 where
  pub corrections : List ℤ
  pub printed : List ℤ
  pub adjusted : List ℤ
  pub correlates : List ℤ
  pub remainders : List ℤ
  pub misses : List ℤ

abbrev pub lists : (v u adjusted k r Q : List ℤ) → Answers
lists v u adjusted k r Q = record { corrections = v; printed = u; adjusted = adjusted; correlates = k; remainders = r; misses = Q }

-- the reply to a lent table, with the answer lists as they were lent
unfoldable pub adjust_reply : (directions qs cs ws : List ℤ) → Answers → Reply
adjust_reply ds qs cs ws lent =
    input_reply ds qs cs ws (length lent.corrections) (length lent.printed) (length lent.adjusted) (length lent.correlates) (length lent.remainders) (length lent.misses)
    and_then solution_reply (table_of qs cs ws)

-- the answer lists of a table and its correlates
abbrev pub answers_of : Table → (k direction : ℕ → ℤ) → Answers
answers_of t k direction = record {
  corrections = tabulate t.m (V_of t k);
  printed = tabulate t.m (u_of t k);
  adjusted = tabulate t.m (adjusted_of t k direction);
  correlates = tabulate t.n k;
  remainders = tabulate t.n (R_of t k);
  misses = tabulate t.n (Q_of t k);
}

-- "A correction past one minute is a blunder": none of these printed corrections is one
abbrev pub WithinMinute : Table → (ℕ → ℤ) → Type 0
WithinMinute t u = (i : ℕ) → i < t.m → nat_abs (u i) ≤ 60000

pub record Adjusts (ds qs cs ws : List ℤ) (lent : Answers) (reply : Reply) (left : Answers) : Type 0 where
  pub answer : reply ≡ adjust_reply ds qs cs ws lent
  -- in the rules' numbers: number and place
  pub verdict : verdict_of reply ≡ verdict_of (adjust_reply ds qs cs ws lent)
  pub lists : left ≡ leaves reply (answers_of (table_of qs cs ws) (K (table_of qs cs ws)) (at ds)) lent
  pub demand3 : reply ≡ Ok tt → Demand3 (table_of qs cs ws) (at left.corrections) (at left.printed) (at left.remainders) (at left.misses)
  pub within_minute : reply ≡ Ok tt → WithinMinute (table_of qs cs ws) (at left.printed)
