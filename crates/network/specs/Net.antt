-- The net of a file whose scan is accepted: its directions with their q, and its conditions with their terms, in the order of their lines.
use Rattle.std.specs.Prelude.{◌≡◌, List, [], ◌∷◌, ◌++◌, ℕ, suc, ℤ, pos, length, drop, Ok, Err, Result, Some, None, Option}
use Rattle.exact.specs.Tabulate.{tabulate}
use Rattle.reply.specs.declared.Refusal.{Refusal}
use Rattle.reply.specs.declared.Refusal.TheVariants.{Coefficient, Misclosure}
use Rattle.reply.specs.Reply.{Reply}
use Rattle.reply.specs.Checks.{◌and_then◌, figure_reply, figure_value}
use Rattle.condition.specs.declared.Kind.{Kind}
use Rattle.condition.specs.declared.Kind.TheVariants.{Angle, Side}
use Rattle.condition.specs.Rules.{Lent, lent, coefficients_reply, coefficients_list, misclosure_figure}
use Rattle.text.specs.Lines.{lines_of}
use Rattle.network.specs.Records.{record_of}
use Rattle.network.specs.Scan.{scan_reply}
use Rattle.network.specs.declared.lists.NetTable.{NetTable}
use Rattle.network.specs.declared.record.Record.{Record}
use Rattle.network.specs.declared.record.Record.TheVariants.{Direction, Angles, Sides, Term}

-- a condition with the field lists of its terms, as `condition` takes them
pub record Condition : Type 0 where
  pub kind : Kind
  pub target : ℤ
  pub kinds : List ℤ
  pub values : List ℤ
  pub d : List ℤ
  pub i : List ℤ
  pub k : List ℤ

-- the terms of a condition whose C line is still to come, read from the last line back
abbrev pub no_terms : Condition
no_terms = record { kind = Side; target = pos 0; kinds = []; values = []; d = []; i = []; k = [] }

pub record Net : Type 0 where
  pub directions : List ℤ
  pub q : List ℤ
  pub pending : Condition
  pub conditions : List Condition

abbrev pub headed : Kind → ℤ → Condition → Condition
headed kind target c = record { kind = kind; target = target; kinds = c.kinds; values = c.values; d = c.d; i = c.i; k = c.k }

abbrev pub with_term : ℕ → (value d i k : ℤ) → Condition → Condition
with_term letter value d i k c =
    record { kind = c.kind; target = c.target; kinds = pos letter ∷ c.kinds; values = value ∷ c.values; d = d ∷ c.d; i = i ∷ c.i; k = k ∷ c.k }

-- a line before the others. Only a C line takes up the terms that follow it, up to the next line of another kind
unfoldable pub line_before : Option Record → Net → Net
line_before (Some (Direction number direction q)) net =
    record { directions = direction ∷ net.directions; q = q ∷ net.q; pending = no_terms; conditions = net.conditions }
line_before (Some (Angles target)) net =
    record { directions = net.directions; q = net.q; pending = no_terms; conditions = headed Angle target net.pending ∷ net.conditions }
line_before (Some Sides) net = record { directions = net.directions; q = net.q; pending = no_terms; conditions = headed Side (pos 0) net.pending ∷ net.conditions }
line_before (Some (Term letter value d i k)) net =
    record { directions = net.directions; q = net.q; pending = with_term letter value d i k net.pending; conditions = net.conditions }
line_before None net = record { directions = net.directions; q = net.q; pending = no_terms; conditions = net.conditions }

unfoldable pub net_of : List (List ℕ) → Net
net_of [] = record { directions = []; q = []; pending = no_terms; conditions = [] }
net_of (line ∷ lines) = line_before (record_of line) (net_of lines)

-- the net of the lines from a start on
unfoldable pub net_from : List ℕ → ℕ → Net
net_from file start = net_of (lines_of (drop start file))

-- ---- "Then conditions in order, 4 before 5"; the place is the condition's number
unfoldable pub refused_as : Refusal → Reply → Reply
refused_as why (Ok _) = Ok tt
refused_as why (Err other) = Err why

unfoldable pub zeros : ℕ → List ℤ
zeros n = tabulate n (λ i. pos 0)

module _ (directions q : List ℤ) where
  unfoldable pub lent_of : Condition → Lent
  lent_of c = lent directions q c.kind c.target c.kinds c.values c.d c.i c.k

  -- condition j
  unfoldable pub condition_reply : ℕ → Condition → Reply
  condition_reply j c =
      refused_as (Coefficient j) (coefficients_reply (lent_of c) (length directions)) and_then refused_as (Misclosure j) (figure_reply (misclosure_figure (lent_of c)))

  -- from condition j on
  unfoldable pub formed_reply : ℕ → List Condition → Reply
  formed_reply j [] = Ok tt
  formed_reply j (c ∷ cs) = condition_reply j c and_then formed_reply (suc j) cs

  unfoldable pub row_of : Condition → List ℤ
  row_of c = coefficients_list (lent_of c) (zeros (length directions))

  unfoldable pub misclosure_of : Condition → ℤ
  misclosure_of c = figure_value (misclosure_figure (lent_of c))

  unfoldable pub rows_of : List Condition → List ℤ
  rows_of [] = []
  rows_of (c ∷ cs) = row_of c ++ rows_of cs

  unfoldable pub misclosures_of : List Condition → List ℤ
  misclosures_of [] = []
  misclosures_of (c ∷ cs) = misclosure_of c ∷ misclosures_of cs

-- ---- the kinds of the conditions
unfoldable pub kinds_of : List Condition → List Kind
kinds_of [] = []
kinds_of (c ∷ cs) = c.kind ∷ kinds_of cs

-- ---- refusals 1 to 5 of a file, and its condition table
unfoldable pub table_reply : List ℕ → Reply
table_reply file = let net = net_of (lines_of file) in scan_reply file and_then formed_reply net.directions net.q 1 net.conditions

-- what `table` hands on: the table of an accepted net
pub record Tabled (net : Net) (table : NetTable) : Type 0 where
  pub directions_are : table.directions.now ≡ net.directions
  pub q_are : table.q.now ≡ net.q
  pub rows_are : table.a.now ≡ rows_of net.directions net.q net.conditions
  pub misclosures_are : table.w.now ≡ misclosures_of net.directions net.q net.conditions
  pub kinds_are : table.kinds.now ≡ kinds_of net.conditions

pub record Tables (rule : Reply) (net : Net) (answer : Result NetTable Refusal) : Type 0 where
  pub reply : figure_reply answer ≡ rule
  pub table : (table : NetTable) → answer ≡ Ok table → Tabled net table
