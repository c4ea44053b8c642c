-- What inner functions hand each other: the order of a file's lines, the heading that a line is, and what stands in lent lists after the directions, the
-- terms of a condition, or all conditions have been read; and lists that hold no net yet.
use Rattle.std.specs.Prelude.{◌≡◌, List, [], ◌∷◌, ℕ, ◌*◌, ◌≤◌, ℤ, pos, length, take, drop, replicate, Ok, Result, IsOk, Some, None, Option}
use Rattle.reply.specs.Checks.{figure_of}
use Rattle.condition.specs.declared.Kind.{Kind}
use Rattle.condition.specs.declared.Kind.TheVariants.{Angle, Side}
use Rattle.text.specs.Lines.{lines_of}
use Rattle.network.specs.Records.{record_of}
use Rattle.network.specs.Net.{Condition, headed, net_from, condition_reply, misclosure_of, formed_reply, rows_of, misclosures_of, kinds_of}
use Rattle.network.specs.declared.conditions.Asked.{Asked}
use Rattle.network.specs.declared.conditions.Heading.{Heading}
use Rattle.network.specs.declared.lists.Lists.{Lists}
use Rattle.network.specs.declared.record.Record.{Record}
use Rattle.network.specs.declared.record.Turn.{Turn}
use Rattle.network.specs.declared.terms.Terms.{Terms}
use Rattle.network.specs.declared.record.Record.TheVariants.{Direction, Angles, Sides, Term}
use Rattle.reply.specs.declared.Refusal.{Refusal}

-- ---- the order of lines that the scan accepts: D lines, then C lines with their terms
-- by what a line says: a D line, a C line, a term
abbrev pub ByKind : Option Record → (direction heading term : Type 0) → Type 0
ByKind (Some (Direction number direction q)) d h t = d
ByKind (Some (Angles target)) d h t = h
ByKind (Some Sides) d h t = h
ByKind (Some (Term letter value x i k)) d h t = t
ByKind None d h t = ⊥

-- C lines and terms
unfoldable pub Body : List (List ℕ) → Type 0
Body [] = Unit {0}
Body (line ∷ lines) = ByKind (record_of line) ⊥ (Body lines) (Body lines)

-- the same, and the first is a C line
unfoldable pub Opened : List (List ℕ) → Type 0
Opened [] = Unit {0}
Opened (line ∷ lines) = ByKind (record_of line) ⊥ (Body lines) ⊥

-- the same behind D lines
unfoldable pub Led : List (List ℕ) → Type 0
Led [] = Unit {0}
Led (line ∷ lines) = ByKind (record_of line) (Led lines) (Body lines) ⊥

-- ---- the directions, in the first m places
pub record Directed (file : List ℕ) (directions q : List ℤ) (m next : ℕ) : Type 0 where
  pub most : m ≤ 64
  pub long : length directions ≡ 64
  pub q_long : length q ≡ 64
  pub directions_are : take m directions ≡ (net_from file 0).directions
  pub q_are : take m q ≡ (net_from file 0).q
  -- the lines from the first C line on
  pub conditions : (net_from file next).conditions ≡ (net_from file 0).conditions
  pub opened : Opened (lines_of (drop next file))
  pub within : next ≤ length file

-- ---- one condition
-- the condition that a line begins, with the place of its terms
unfoldable pub begins : Record → ℕ → Option Heading
begins (Angles target) next = Some (record { kind = Angle; target = target; next = next })
begins Sides next = Some (record { kind = Side; target = pos 0; next = next })
begins (Direction number direction q) next = None
begins (Term letter value d i k) next = None

unfoldable pub heading_in : Option Turn → Option Heading
heading_in (Some turn) = begins turn.said turn.next
heading_in None = None

abbrev pub condition_of : Asked → Condition
condition_of c = record { kind = c.kind; target = c.target; kinds = c.kinds.now; values = c.values.now; d = c.d.now; i = c.i.now; k = c.k.now }

-- a heading with the terms behind it
abbrev pub condition_at : List ℕ → Heading → Condition
condition_at file heading = headed heading.kind heading.target (net_from file heading.next).pending

-- the first terms of lists, under no heading yet
abbrev pub terms_in : Terms → (count : ℕ) → Condition
terms_in t count =
    record {
      kind = Side;
      target = pos 0;
      kinds = take count t.kinds;
      values = take count t.values;
      d = take count t.d;
      i = take count t.i;
      k = take count t.k;
    }

-- the terms of a condition, in the first places of lists
pub record Gathers (file : List ℕ) (start : ℕ) (t : Terms) (count next : ℕ) : Type 0 where
  pub most : count ≤ 12
  pub terms : (kind : Kind) (target : ℤ) → headed kind target (terms_in t count) ≡ headed kind target (net_from file start).pending
  -- the lines behind them
  pub conditions : (net_from file next).conditions ≡ (net_from file start).conditions
  pub opened : Opened (lines_of (drop next file))
  pub on : start ≤ next
  pub within : next ≤ length file

-- condition j, c, whose terms stand at a start: its figure, its row, and the lines behind it
pub record Closes (file : List ℕ) (start : ℕ) (directions q : List ℤ) (j : ℕ) (c : Condition) (w : ℤ) (next : ℕ) : Type 0 where
  pub passed : condition_reply directions q j c ≡ Ok tt
  pub misclosure : w ≡ misclosure_of directions q c
  pub conditions : (net_from file next).conditions ≡ (net_from file start).conditions
  pub opened : Opened (lines_of (drop next file))
  pub on : start ≤ next
  pub within : next ≤ length file

-- no condition has more terms than the lists hold
unfoldable pub Fit : List Condition → Type 0
Fit [] = Unit {0}
Fit (c ∷ cs) = (length c.kinds ≤ 12) × Fit cs

-- ---- all conditions
pub record Forms (directions q : List ℤ) (cs : List Condition) (answer : Result ℕ Refusal) (a w : List ℤ) (kinds : List Kind) : Type 0 where
  pub count : answer ≡ figure_of (formed_reply directions q 1 cs) (length cs)
  pub rows : IsOk answer → take (length cs * length directions) a ≡ rows_of directions q cs
  pub misclosures : IsOk answer → take (length cs) w ≡ misclosures_of directions q cs
  pub kinds_are : IsOk answer → take (length cs) kinds ≡ kinds_of cs

-- ---- lists that hold no net yet; what stands in them is never read
unfoldable pub no_net : Lists
no_net = record {
  directions = replicate 64 (pos 0);
  q = replicate 64 (pos 0);
  rows = record { a = replicate 1536 (pos 0); w = replicate 24 (pos 0); kinds = replicate 24 Angle };
}
