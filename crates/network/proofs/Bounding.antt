-- A file whose scan is accepted has no more directions, conditions and terms than the rules allow. Assumes nothing.
--   unless_none, whole, some_part  all parts but the last; a file has one part at least
--   whole_lines                    the lines with their LF are all parts but the last
--   Room, line_room                what is still to come after a line, and before it
--   scan_room                      what is still to come, wherever the scan stands
--   scan_bounds                    of the whole file
use mathlib.Core.Path.{◌≡◌, refl, ◌∙◌, ap, subst}
use mathlib.Core.Bool.{Bool, true, false, cond, not}
use mathlib.Core.List.{List, [], ◌∷◌}
use Prim.Native.Nat.{ℕ, suc, ◌+◌, ◌<◌, ◌≤◌}
use native.Mathlib.Omega.{arith}
use borrow.Author.Tests.{leb-false}
use lib.Dec.{eqb, ltb, leb}
use lib.IntN.{pos}
use lib.ListN.{length}
use Rattle.std.proofs.lemmas.Bool.{or_parts}
use Rattle.reply.specs.declared.Refusal.{Refusal}
use Rattle.reply.specs.declared.Refusal.TheVariants.{Malformed, Count, OutOfRange}
use Rattle.reply.specs.Reply.{Reply}
use Rattle.reply.specs.Checks.{refuse_if, ◌and_then◌}
use Rattle.reply.proofs.Checking.{never, both_accepted, if_accepted}
use Rattle.exact.specs.Outside.{outside}
use Rattle.direction.specs.Ranges.{out_of_range}
use Rattle.condition.specs.Terms.{term_fault}
use Rattle.text.specs.Parts.{on_first, parted}
use Rattle.text.specs.Lines.{LF, lines_of}
use Rattle.network.specs.Records.{record_of}
use Rattle.network.specs.Scan.{none, belongs, out_of_turn, one_too_many, direction_reply, angles_reply, sides_reply, term_reply, line_reply, counted, if_last, scanned, scan_reply}
use Rattle.network.specs.Net.{Net, line_before, net_of, net_from}
use Rattle.network.specs.Gathered.{Fit}
use Rattle.network.specs.declared.record.Record.{Record}
use Rattle.network.specs.declared.record.Record.TheVariants.{Direction, Angles, Sides, Term}
use Rattle.network.specs.declared.scan.Counts.{Counts}
use Rattle.std.specs.Prelude.{Ok, Option, Some, None}

-- ---- all parts but the last
abbrev pub unless_none : List (List ℕ) → List (List ℕ) → List (List ℕ)
unless_none [] lines = []
unless_none (part ∷ parts) lines = lines

unfoldable pub whole : List (List ℕ) → List (List ℕ)
whole [] = []
whole (part ∷ parts) = unless_none parts (part ∷ whole parts)

some_first : (x : ℕ) (parts lines : List (List ℕ)) → unless_none (on_first x parts) lines ≡ unless_none parts lines
unfolding on_first
some_first x [] lines = refl
some_first x (p ∷ parts) lines = refl

some_step : (x : ℕ) (parts lines : List (List ℕ)) (b : Bool) → unless_none parts lines ≡ lines → unless_none (cond b ([] ∷ parts) (on_first x parts)) lines ≡ lines
some_step x parts lines true h = refl
some_step x parts lines false h = some_first x parts lines ∙ h

pub some_part : (s : List ℕ) (lines : List (List ℕ)) → unless_none (parted LF ([] ∷ []) s) lines ≡ lines
unfolding parted
some_part [] lines = refl
some_part (x ∷ s) lines = some_step x (parted LF ([] ∷ []) s) lines (eqb x LF) (some_part s lines)

whole_first : (x : ℕ) (parts : List (List ℕ)) → whole (on_first x parts) ≡ on_first x (whole parts)
unfolding on_first whole
whole_first x [] = refl
whole_first x (p ∷ parts) = by parts
  where
    by : (parts : List (List ℕ)) → unless_none parts ((x ∷ p) ∷ whole parts) ≡ on_first x (unless_none parts (p ∷ whole parts))
    by [] = refl
    by (q ∷ qs) = refl

lines_step : (x : ℕ) (s : List ℕ) (b : Bool) → whole (parted LF ([] ∷ []) s) ≡ parted LF [] s
    → whole (cond b ([] ∷ parted LF ([] ∷ []) s) (on_first x (parted LF ([] ∷ []) s))) ≡ cond b ([] ∷ parted LF [] s) (on_first x (parted LF [] s))
unfolding whole
lines_step x s true h = some_part s ([] ∷ whole (parted LF ([] ∷ []) s)) ∙ ap (λ (lines : List (List ℕ)). [] ∷ lines) h
lines_step x s false h = whole_first x (parted LF ([] ∷ []) s) ∙ ap (on_first x) h

pub whole_lines : (s : List ℕ) → whole (parted LF ([] ∷ []) s) ≡ parted LF [] s
unfolding parted whole
whole_lines [] = refl
whole_lines (x ∷ s) = lines_step x s (eqb x LF) (whole_lines s)

-- ---- what is still to come
pub record Room (c : Counts) (net : Net) : Type 0 where
  pub m : c.m + length net.directions ≤ 64
  pub n : c.n + length net.conditions ≤ 24
  pub terms : c.terms + length net.pending.kinds ≤ 12
  pub fit : Fit net.conditions

-- what was counted before a line is within the bounds if what is counted after it is
record Low (c : Counts) : Type 0 where
  pub m : c.m ≤ 64
  pub n : c.n ≤ 24
  pub terms : c.terms ≤ 12

-- where three checks accept one after the other, the second found no fault
second_accepted : (a b : Bool) (x y : Refusal) (r : Reply) → refuse_if a x and_then (refuse_if b y and_then r) ≡ Ok tt → b ≡ false
second_accepted a b x y r e = if_accepted b y (both_accepted (refuse_if b y) r (both_accepted (refuse_if a x) (refuse_if b y and_then r) e).1).0

module _ (place : ℕ) (c : Counts) (net : Net) (low : Low c) where
  -- a C line, which is not one too many
  heading_room : one_too_many c.n c.terms ≡ false → c.n < 24
  unfolding one_too_many
  heading_room e = leb-false 24 c.n (or_parts (leb 24 c.n) _ e).0

  line_room : (said : Option Record) → line_reply place c said ≡ Ok tt → (Low (counted c said) → Room (counted c said) net) → Room c (line_before said net)
  unfolding line_reply direction_reply angles_reply sides_reply term_reply counted line_before out_of_turn Fit
  line_room (Some (Direction number direction q)) e after =
      let turn = second_accepted (ltb 0 c.n) (out_of_turn c.m number) (Malformed place) (Count place) (refuse_if (out_of_range direction q) (OutOfRange place)) e in
      let h = leb-false 64 c.m (or_parts (leb 64 c.m) (outside (pos (c.m + 1)) (pos (c.m + 1)) number) turn).0 in
      let r = after (record { m = omega (arith, h); n = low.n; terms = low.terms }) in
      record { m = omega (arith, r.m); n = r.n; terms = omega (arith, low.terms); fit = r.fit }
  line_room (Some (Angles target)) e after =
      let h = heading_room (if_accepted _ _ (both_accepted _ _ e).0) in
      let r = after (record { m = low.m; n = omega (arith, h); terms = omega arith }) in
      record { m = r.m; n = omega (arith, r.n); terms = omega (arith, low.terms); fit = (omega (arith, r.terms), r.fit) }
  line_room (Some Sides) e after =
      let h = heading_room (if_accepted _ _ e) in
      let r = after (record { m = low.m; n = omega (arith, h); terms = omega arith }) in
      record { m = r.m; n = omega (arith, r.n); terms = omega (arith, low.terms); fit = (omega (arith, r.terms), r.fit) }
  line_room (Some (Term letter value d i k)) e after =
      let few =
      second_accepted (not (belongs c.heading letter)) (leb 12 c.terms) (Malformed place) (Count place)
      (refuse_if (term_fault (pos c.m) letter value d i k) (OutOfRange place)) e in
      let h = leb-false 12 c.terms few in
      let r = after (record { m = low.m; n = low.n; terms = omega (arith, h) }) in
      record { m = r.m; n = r.n; terms = omega (arith, r.terms); fit = r.fit }
  line_room None e after = never _ e

-- ---- wherever the scan stands
scan_step : (place : ℕ) (c : Counts) (part : List ℕ) (parts : List (List ℕ)) → Low c → (end more : Reply)
    → (more ≡ Ok tt → Room c (line_before (record_of part) (net_of (whole parts)))) → if_last parts end more ≡ Ok tt → Room c (net_of (unless_none parts (part ∷ whole parts)))
unfolding net_of Fit
scan_step place c part [] low end more next e = record { m = omega (arith, low.m); n = omega (arith, low.n); terms = omega (arith, low.terms); fit = tt }
scan_step place c part (p ∷ parts) low end more next e = next e

scan_room : (place : ℕ) (c : Counts) (parts : List (List ℕ)) → Low c → scanned place c parts ≡ Ok tt → Room c (net_of (whole parts))
unfolding scanned whole net_of Fit
scan_room place c [] low e = record { m = omega (arith, low.m); n = omega (arith, low.n); terms = omega (arith, low.terms); fit = tt }
scan_room place c (part ∷ parts) low e =
    scan_step place c part parts low _ _
    (λ h. let b = both_accepted (line_reply place c (record_of part)) (scanned (suc place) (counted c (record_of part)) parts) h in
    line_room place c (net_of (whole parts)) low (record_of part) b.0 (λ l. scan_room (suc place) (counted c (record_of part)) parts l b.1))
    e

pub scan_bounds : (file : List ℕ) → scan_reply file ≡ Ok tt → Room none (net_from file 0)
unfolding scan_reply net_from lines_of
scan_bounds file e =
    subst (λ (lines : List (List ℕ)). Room none (net_of lines)) (whole_lines file)
    (scan_room 1 none (parted LF ([] ∷ []) file) (record { m = omega arith; n = omega arith; terms = omega arith }) (both_accepted (refuse_if (ltb 65535 (length file)) (Count 0)) (scanned 1 none (parted LF ([] ∷ []) file)) e).1)
