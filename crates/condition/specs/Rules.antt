-- The two operations on one condition's lent terms: the checks that both make, the coefficients and the misclosure.
use Rattle.std.specs.Prelude.{Bool, not, ◌||◌, List, ℕ, ◌+◌, eqb, ltb, ℤ, pos, nat_abs, ◌-ℤ◌, ◌*ℤ◌, length, get_or, Ok}
use Rattle.exact.specs.First.{some_below}
use Rattle.exact.specs.Circle.{C}
use Rattle.exact.specs.Outside.{outside}
use Rattle.exact.specs.Sum.{sum}
use Rattle.exact.specs.Tabulate.{tabulate}
use Rattle.reply.specs.declared.Refusal.TheVariants.{Malformed, Count, OutOfRange, Coefficient, Misclosure}
use Rattle.reply.specs.Reply.{Reply, Figure}
use Rattle.reply.specs.Checks.{refuse_if, ◌and_then◌, in_turn, leaves, figure_of}
use Rattle.direction.specs.Ranges.{directions_reply}
use Rattle.condition.specs.declared.Kind.{Kind}
use Rattle.condition.specs.declared.Kind.TheVariants.{Angle, Side}
use Rattle.condition.specs.declared.term.Term.{Term}
use Rattle.condition.specs.Terms.{letter_of, suits, fault, share, part}

-- what is lent: the directions 1 to m with their q, the kind of condition, the target, and the field lists of the terms
pub record Lent : Type 0 where
  pub directions : List ℤ
  pub q : List ℤ
  pub kind : Kind
  pub target : ℤ
  pub kinds : List ℤ
  pub values : List ℤ
  pub d : List ℤ
  pub i : List ℤ
  pub k : List ℤ

abbrev pub lent : List ℤ → List ℤ → Kind → ℤ → List ℤ → List ℤ → List ℤ → List ℤ → List ℤ → Lent
lent directions q kind target kinds values d i k =
    record { directions = directions; q = q; kind = kind; target = target; kinds = kinds; values = values; d = d; i = i; k = k }

-- the term at place j of the field lists
abbrev pub term_at : List ℤ → List ℤ → List ℤ → List ℤ → List ℤ → ℕ → Term
term_at kinds values d i k j = record {
  letter = letter_of (get_or kinds j (pos 0));
  value = get_or values j (pos 0);
  d = get_or d j (pos 0);
  i = get_or i j (pos 0);
  k = get_or k j (pos 0);
}

abbrev pub term : Lent → ℕ → Term
term l = term_at l.kinds l.values l.d l.i l.k

-- ---- the checks that both operations make
-- 2: counts out of range, and lists of unequal length
abbrev pub unequal : ℕ → ℕ → Bool
unequal a b = not (eqb a b)

-- "Directions m: 1 to 64", each with its q
unfoldable pub directions_miscounted : ℕ → ℕ → Bool
directions_miscounted m q = ltb m 1 || ltb 64 m || unequal q m

-- "A condition has 1 to 12 terms", each with all its fields
unfoldable pub terms_miscounted : ℕ → ℕ → ℕ → ℕ → ℕ → Bool
terms_miscounted n values d i k = ltb n 1 || ltb 12 n || unequal values n || unequal d n || unequal i n || unequal k n

abbrev pub counts_fault : Lent → Bool
counts_fault l =
    directions_miscounted (length l.directions) (length l.q)
    || terms_miscounted (length l.kinds) (length l.values) (length l.d) (length l.i) (length l.k)

-- 3, place 0: the target of an angle condition, "0 to 12C"; "a side condition's target [is] not read"
abbrev pub target_fault : ℤ → Bool
target_fault target = outside (pos 0) (pos 12 *ℤ C) target

abbrev pub target_check : Kind → ℤ → Reply
target_check Angle target = refuse_if (target_fault target) (OutOfRange 0)
target_check Side target = Ok tt

-- one term: "1 for a kind that doesn't fit and 3 for a range or i = k (place: its ordinal [..])"
abbrev pub term_check : Kind → ℤ → ℕ → Term → Reply
term_check kind m ordinal t = refuse_if (not (suits kind t.letter)) (Malformed ordinal) and_then refuse_if (fault m t) (OutOfRange ordinal)

unfoldable pub terms_check : Kind → ℤ → ℕ → (ℕ → Term) → Reply
terms_check kind m n term = in_turn n (λ j. term_check kind m (j + 1) (term j))

-- "2 (place 0) for counts or unequal lengths, then 3 for directions and q [..], 3 (place 0) for an angle condition's target, then by term"
unfoldable pub checks : Lent → Reply
checks l =
    refuse_if (counts_fault l) (Count 0)
    and_then directions_reply l.directions l.q
    and_then target_check l.kind l.target
    and_then terms_check l.kind (pos (length l.directions)) (length l.kinds) (term l)

-- ---- the coefficients
-- of direction number h: what all terms add to it. That of number 0 "is dropped and never tested"
unfoldable pub coefficient : Lent → ℕ → ℤ
coefficient l h = sum (length l.kinds) (λ j. share (term l j) h)

-- 4: "coefficient beyond 2,000", at one of the directions 1 to m, after all terms
abbrev pub beyond : Lent → Bool
beyond l = some_below (length l.directions) (λ h. ltb 2000 (nat_abs (coefficient l (h + 1))))

-- the reply to a caller whose answer list holds `room` numbers
unfoldable pub coefficients_reply : Lent → ℕ → Reply
coefficients_reply l room = refuse_if (unequal room (length l.directions)) (Count 0) and_then checks l and_then refuse_if (beyond l) (Coefficient 1)

-- what the answer list holds in the end: the coefficients of directions 1 to m; after a refusal, what it held before
unfoldable pub coefficients_list : Lent → List ℤ → List ℤ
coefficients_list l before =
    leaves (coefficients_reply l (length before)) (tabulate (length l.directions) (λ h. coefficient l (h + 1))) before

-- ---- the misclosure
-- "w = angles + fixed angles - target"; "w = 100 * (left logarithms - right logarithms)"
abbrev pub w_of : Kind → ℤ → ℤ → ℤ
w_of Angle total target = total -ℤ target
w_of Side total target = pos 100 *ℤ total

unfoldable pub misclosure : Lent → ℤ
misclosure l = w_of l.kind (sum (length l.kinds) (λ j. part l.directions (term l j))) l.target

-- 5: "Misclosure w: [..] -1,000,000 to 1,000,000"
abbrev pub judged : ℤ → Reply
judged w = refuse_if (ltb 1000000 (nat_abs w)) (Misclosure 1)

unfoldable pub misclosure_figure : Lent → Figure
misclosure_figure l = figure_of (checks l and_then judged (misclosure l)) (misclosure l)
