-- Laws of a walk over a file's lines, in the order that the scan accepts. Assumes nothing.
--   Walked, walked, walked_as                 what a line that says something tells of the lines and the net from there on, and of the next start
--   body_net, opened_body, opened_pending     C lines and terms have no directions; a C line ends the terms before it
--   directions_stop, terms_stop               where a line is no D line, or no term, the conditions begin, or the next one does
--   headed_line, opened_rest                  a C line says something, and C lines and terms follow it
--   no_heading                                where a line is no C line, no condition is left
--   taken_more, taken_all, taken_long         the first of a list in turn, filled one by one
use mathlib.Core.Path.{◌≡◌, refl, sym, ◌∙◌, ap, subst}
use mathlib.Core.Bool.{Bool, true, false, cond}
use mathlib.Core.List.{List, [], ◌∷◌, ◌++◌, append-nil}
use Prim.Native.Nat.{ℕ, ◌+◌, ◌<◌, ◌≤◌}
use native.Mathlib.Numerals.{add-one}
use native.Mathlib.Omega.{arith}
use borrow.Author.Tests.{ltb-true, ltb-false}
use lib.Dec.{ltb}
use lib.ListN.{length, take, drop, set, length-append}
use lib.Seq.{take-suc-set, append_snoc, length-take-le}
use lib.IntN.{ℤ}
use Rattle.text.specs.Parts.{place_from}
use Rattle.text.specs.Lines.{LF, line_at, lines_of}
use Rattle.text.proofs.Parting.{place_after}
use Rattle.text.proofs.Splitting.{lines_whole, lines_rest}
use Rattle.network.specs.Records.{record_of}
use Rattle.network.specs.Net.{Net, no_terms, line_before, net_of, net_from}
use Rattle.network.specs.Turns.{turned, turn_at}
use Rattle.network.specs.Gathered.{ByKind, Body, Opened, Led, begins, heading_in}
use Rattle.network.specs.declared.conditions.Heading.{Heading}
use Rattle.std.specs.Prelude.{Option, Some, None}
use Rattle.network.specs.declared.record.Record.{Record}
use Rattle.network.specs.declared.record.Turn.{Turn}
use Rattle.network.specs.declared.record.Record.TheVariants.{Direction, Angles, Sides, Term}

-- ---- the line at a start
module _ (file : List ℕ) (start : ℕ) where
  -- what follows a line that says `said`, from `next` on
  pub record Walked (said : Record) (next : ℕ) : Type 0 where
    pub says : record_of (line_at file start) ≡ Some said
    pub lines : lines_of (drop start file) ≡ line_at file start ∷ lines_of (drop next file)
    pub net : net_from file start ≡ line_before (Some said) (net_from file next)
    pub after : next ≡ place_from LF file start + 1
    pub on : start < next
    pub within : next ≤ length file

abbrev found : (file : List ℕ) (start : ℕ) → Bool
found file start = ltb (place_from LF file start) (length file)

-- a line that says something has its LF
told_by : (b : Bool) (line : Option Record) (next : ℕ) (turn : Turn) → cond b (turned line next) None ≡ Some turn → (b ≡ true) × (line ≡ Some turn.said) × (turn.next ≡ next)
unfolding turned
told_by true (Some said) next turn e =
    let same : ◌≡◌ {A = Turn} (record { said = said; next = next }) turn = cc in (refl, ap (λ (t : Turn). Some t.said) same, ap (λ (t : Turn). t.next) (sym same))
told_by true None next turn e = let no : ⊥ = cc in absurd no
told_by false line next turn e = let no : ⊥ = cc in absurd no

pub walked : (file : List ℕ) (start : ℕ) (turn : Turn) → turn_at file start ≡ Some turn → Walked file start turn.said turn.next
unfolding turn_at net_from net_of
walked file start turn e =
    let told = told_by (found file start) (record_of (line_at file start)) (place_from LF file start + 1) turn e in
    let l = ltb-true (place_from LF file start) (length file) told.0 in
    let lines = lines_whole file start l ∙ ap (λ (p : ℕ). line_at file start ∷ lines_of (drop p file)) (sym told.2) in
    record {
      says = told.1;
      lines = lines;
      net = ap net_of lines ∙ ap (λ (s : Option Record). line_before s (net_of (lines_of (drop turn.next file)))) told.1;
      after = told.2;
      on = omega (arith, told.2, place_after LF file start);
      within = omega (arith, told.2, l);
    }

-- the same, of what has been read there
pub walked_as : {file : List ℕ} {start next : ℕ} {read : Option Turn} {turn : Turn} {said : Record} → read ≡ turn_at file start → read ≡ Some turn → turn.said ≡ said → next ≡ turn.next
    → Walked file start said next
walked_as {file} {start} {next} {read} {turn} {said} e s q n =
    let same : ◌≡◌ {A = Turn} turn (record { said = said; next = next }) = λ i. record { said = q i; next = sym n i } in
    walked file start (record { said = said; next = next }) (sym e ∙ s ∙ ap (λ (t : Turn). Some t) same)

-- ---- C lines and terms
body_line : (said : Option Record) (net : Net) (P : Type 0) → ByKind said ⊥ P P → P × ((line_before said net).directions ≡ net.directions) × ((line_before said net).q ≡ net.q)
unfolding line_before
body_line (Some (Direction number direction q)) net P h = absurd h
body_line (Some (Angles target)) net P h = (h, refl, refl)
body_line (Some Sides) net P h = (h, refl, refl)
body_line (Some (Term letter value d i k)) net P h = (h, refl, refl)
body_line None net P h = absurd h

pub body_net : (lines : List (List ℕ)) → Body lines → ((net_of lines).directions ≡ []) × ((net_of lines).q ≡ [])
unfolding Body net_of
body_net [] h = (refl, refl)
body_net (line ∷ lines) h =
    let b = body_line (record_of line) (net_of lines) (Body lines) h in let rest = body_net lines b.0 in (b.1 ∙ rest.0, b.2 ∙ rest.1)

-- a body that begins with a C line
open_line : (said : Option Record) (P : Type 0) → ByKind said ⊥ P ⊥ → ByKind said ⊥ P P
open_line (Some (Direction number direction q)) P h = h
open_line (Some (Angles target)) P h = h
open_line (Some Sides) P h = h
open_line (Some (Term letter value d i k)) P h = absurd h
open_line None P h = h

pub opened_body : (lines : List (List ℕ)) → Opened lines → Body lines
unfolding Opened Body
opened_body [] h = tt
opened_body (line ∷ lines) h = open_line (record_of line) (Body lines) h

open_pending : (said : Option Record) (net : Net) (P : Type 0) → ByKind said ⊥ P ⊥ → (line_before said net).pending ≡ no_terms
unfolding line_before
open_pending (Some (Direction number direction q)) net P h = refl
open_pending (Some (Angles target)) net P h = refl
open_pending (Some Sides) net P h = refl
open_pending (Some (Term letter value d i k)) net P h = absurd h
open_pending None net P h = refl

pub opened_pending : (lines : List (List ℕ)) → Opened lines → (net_of lines).pending ≡ no_terms
unfolding Opened net_of
opened_pending [] h = refl
opened_pending (line ∷ lines) h = open_pending (record_of line) (net_of lines) (Body lines) h

-- ---- where a walk stops
no_direction : (said : Option Record) (P Q : Type 0) → ((x y z : ℤ) → said ≡ Some (Direction x y z) → ⊥) → ByKind said P Q ⊥ → ByKind said ⊥ Q ⊥
no_direction (Some (Direction number direction q)) P Q o h = absurd (o number direction q refl)
no_direction (Some (Angles target)) P Q o h = h
no_direction (Some Sides) P Q o h = h
no_direction (Some (Term letter value d i k)) P Q o h = h
no_direction None P Q o h = h

no_term : (said : Option Record) (Q : Type 0) → ((x : ℕ) (v y z w : ℤ) → said ≡ Some (Term x v y z w) → ⊥) → ByKind said ⊥ Q Q → ByKind said ⊥ Q ⊥
no_term (Some (Direction number direction q)) Q o h = h
no_term (Some (Angles target)) Q o h = h
no_term (Some Sides) Q o h = h
no_term (Some (Term letter value d i k)) Q o h = absurd (o letter value d i k refl)
no_term None Q o h = h

-- an opened body whose first line is no C line has no line
unheaded : (said : Option Record) (next : ℕ) (Q : Type 0) → heading_in (turned said next) ≡ None → ByKind said ⊥ Q ⊥ → ⊥
unfolding turned heading_in begins
unheaded (Some (Direction number direction q)) next Q e h = h
unheaded (Some (Angles target)) next Q e h = cc
unheaded (Some Sides) next Q e h = cc
unheaded (Some (Term letter value d i k)) next Q e h = h
unheaded None next Q e h = h

-- a C line says something, and its body follows
some_same : {A : Type 0} {x y : A} → Some x ≡ Some y → x ≡ y
some_same e = cc

module _ (heading : Heading) where
  behind_heading : (said : Record) (next : ℕ) → begins said next ≡ Some heading → next ≡ heading.next
  unfolding begins
  behind_heading (Direction number direction q) next e = cc
  behind_heading (Angles target) next e = ap (λ (h : Heading). h.next) (some_same e)
  behind_heading Sides next e = ap (λ (h : Heading). h.next) (some_same e)
  behind_heading (Term letter value d i k) next e = cc

  pub headed_line : {file : List ℕ} {start : ℕ} (turn : Option Turn) → turn ≡ turn_at file start → heading_in turn ≡ Some heading
      → (said : Record) × (begins said heading.next ≡ Some heading) × Walked file start said heading.next
  unfolding heading_in
  headed_line {file} {start} (Some turn) e h =
      let same = behind_heading turn.said turn.next h in
      (turn.said, subst (λ (n : ℕ). begins turn.said n ≡ Some heading) same h, subst (Walked file start turn.said) same (walked file start turn (sym e)))
  headed_line None e h = let no : ⊥ = cc in absurd no

  open_rest : (said : Record) (Q : Type 0) → begins said heading.next ≡ Some heading → ByKind (Some said) ⊥ Q ⊥ → Q
  open_rest (Direction number direction q) Q e h = absurd h
  open_rest (Angles target) Q e h = h
  open_rest Sides Q e h = h
  open_rest (Term letter value d i k) Q e h = absurd h

  pub opened_rest : {file : List ℕ} {start : ℕ} {said : Record} → Walked file start said heading.next → begins said heading.next ≡ Some heading
      → Opened (lines_of (drop start file)) → Body (lines_of (drop heading.next file))
  unfolding Opened
  opened_rest {file} {start} {said} w e h =
      let rest = Body (lines_of (drop heading.next file)) in
      open_rest said rest e (subst (λ (r : Option Record). ByKind r ⊥ rest ⊥) w.says (subst Opened w.lines h))

module _ (file : List ℕ) (start : ℕ) where
  abbrev here : List (List ℕ)
  here = lines_of (drop start file)

  abbrev behind : ℕ
  behind = place_from LF file start + 1

  -- by whether an LF follows: a line, or no line
  by_line : (b : Bool) → found file start ≡ b → (P : List (List ℕ) → Type 0) → P []
      → ((line : List ℕ) (lines : List (List ℕ)) → turn_at file start ≡ turned (record_of line) behind → P (line ∷ lines)) → P here
  unfolding turn_at
  by_line true t P none some =
      let l = ltb-true (place_from LF file start) (length file) t in
      subst P (sym (lines_whole file start l)) (some (line_at file start) _ (ap (λ (b : Bool). cond b (turned (record_of (line_at file start)) behind) None) t))
  by_line false t P none some = subst P (sym (lines_rest file start (ltb-false (place_from LF file start) (length file) t))) none

  pub directions_stop : ((x y z : ℤ) (next : ℕ) → turn_at file start ≡ Some (record { said = Direction x y z; next = next }) → ⊥) → Led here → Opened here
  unfolding Led Opened turned
  directions_stop o h =
      by_line (found file start) refl (λ lines. Led lines → Opened lines) (λ _. tt)
      (λ line lines e led. no_direction (record_of line) (Led lines) (Body lines) (λ x y z s. o x y z behind (e ∙ ap (λ (r : Option Record). turned r behind) s)) led)
      h

  pub terms_stop : ((x : ℕ) (v y z w : ℤ) (next : ℕ) → turn_at file start ≡ Some (record { said = Term x v y z w; next = next }) → ⊥) → Body here → Opened here
  unfolding Body Opened turned
  terms_stop o h =
      by_line (found file start) refl (λ lines. Body lines → Opened lines) (λ _. tt)
      (λ line lines e body. no_term (record_of line) (Body lines) (λ x v y z w s. o x v y z w behind (e ∙ ap (λ (r : Option Record). turned r behind) s)) body)
      h

  pub no_heading : heading_in (turn_at file start) ≡ None → Opened here → (net_from file start).conditions ≡ []
  unfolding Opened net_of net_from
  no_heading n h =
      by_line (found file start) refl (λ lines. Opened lines → (net_of lines).conditions ≡ []) (λ _. refl)
      (λ line lines e opened. absurd (unheaded (record_of line) behind (Body lines) (ap heading_in (sym e) ∙ n) opened))
      h

-- ---- a list filled in turn: the first n of xs, and what is left, are all
module _ {A : Type 0} where
  pub taken_more : (xs rest all : List A) (n : ℕ) (x : A) → n < length xs → take n xs ++ (x ∷ rest) ≡ all → take (n + 1) (set xs n x) ++ rest ≡ all
  taken_more xs rest all n x l e = rw (add-one n, take-suc-set xs n x l) (append_snoc (take n xs) x rest ∙ e)

  pub taken_all : (xs all : List A) (n : ℕ) → take n xs ++ [] ≡ all → take n xs ≡ all
  taken_all xs all n e = sym (append-nil (take n xs)) ∙ e

  pub taken_long : (xs rest all : List A) (n : ℕ) → n ≤ length xs → take n xs ++ rest ≡ all → n + length rest ≡ length all
  taken_long xs rest all n l e = omega (arith, ap length e, length-append (take n xs) rest, length-take-le n xs l)
