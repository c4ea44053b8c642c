-- The order of the lines of a file whose scan is accepted: D lines, then C lines with their terms. Assumes nothing.
--   scan_body       behind a C line there are only C lines and terms
--   scan_led        wherever the scan stands
--   file_led        of the whole file
use mathlib.Core.Path.{◌≡◌, refl, subst}
use mathlib.Core.Bool.{true, not}
use mathlib.Core.List.{List, [], ◌∷◌}
use Prim.Native.Nat.{ℕ, suc, ◌<◌, ◌≤◌}
use native.Mathlib.Omega.{arith}
use borrow.Author.Tests.{ltb-false, not-false}
use lib.Dec.{ltb, leb}
use lib.IntN.{ℤ, pos}
use lib.ListN.{length}
use Rattle.reply.specs.declared.Refusal.TheVariants.{Malformed, Count, OutOfRange}
use Rattle.reply.specs.Checks.{refuse_if, ◌and_then◌}
use Rattle.reply.proofs.Checking.{both_accepted, if_accepted}
use Rattle.text.specs.Parts.{parted}
use Rattle.text.specs.Lines.{LF, lines_of}
use Rattle.direction.specs.Ranges.{out_of_range}
use Rattle.condition.specs.Terms.{term_fault}
use Rattle.network.specs.Records.{record_of}
use Rattle.network.specs.Scan.{none, belongs, out_of_turn, direction_reply, term_reply, line_reply, counted, scanned, scan_reply}
use Rattle.network.specs.Gathered.{ByKind, Body, Led}
use Rattle.network.specs.declared.record.Record.{Record}
use Rattle.network.specs.declared.record.Record.TheVariants.{Direction, Angles, Sides, Term}
use Rattle.network.specs.declared.scan.Counts.{Counts}
use Rattle.network.proofs.Bounding.{whole, whole_lines}
use Rattle.network.proofs.Scanning.{never_said}
use Rattle.condition.specs.declared.Kind.{Kind}
use Rattle.std.specs.Prelude.{Ok, Option, Some, None}

module _ (place : ℕ) (c : Counts) where
  -- a D line is accepted before any C line only
  before_conditions : (number direction q : ℤ) → line_reply place c (Some (Direction number direction q)) ≡ Ok tt → c.n ≤ 0
  unfolding line_reply direction_reply
  before_conditions number direction q e =
      ltb-false 0 c.n (if_accepted (ltb 0 c.n) (Malformed place) (both_accepted (refuse_if (ltb 0 c.n) (Malformed place)) (refuse_if (out_of_turn c.m number) (Count place) and_then refuse_if (out_of_range direction q) (OutOfRange place)) e).0)

  -- a term under a heading only
  under_heading : (letter : ℕ) (value d i k : ℤ) → line_reply place c (Some (Term letter value d i k)) ≡ Ok tt → belongs c.heading letter ≡ true
  unfolding line_reply term_reply
  under_heading letter value d i k e =
      not-false (belongs c.heading letter)
      (if_accepted (not (belongs c.heading letter)) (Malformed place)
      (both_accepted (refuse_if (not (belongs c.heading letter)) (Malformed place)) (refuse_if (leb 12 c.terms) (Count place) and_then refuse_if (term_fault (pos c.m) letter value d i k) (OutOfRange place)) e).0)

  body_line : (said : Option Record) (P : Type 0) → 0 < c.n → line_reply place c said ≡ Ok tt → (0 < (counted c said).n → P) → ByKind said ⊥ P P
  unfolding counted
  body_line (Some (Direction number direction q)) P h e after = absurd (omega (arith, h, before_conditions number direction q e))
  body_line (Some (Angles target)) P h e after = after (omega arith)
  body_line (Some Sides) P h e after = after (omega arith)
  body_line (Some (Term letter value d i k)) P h e after = after h
  body_line None P h e after = never_said place c e

  led_line : (said : Option Record) (L B : Type 0) → c.n ≡ 0 → c.heading ≡ None → line_reply place c said ≡ Ok tt
      → ((counted c said).n ≡ 0 → (counted c said).heading ≡ None → L) → (0 < (counted c said).n → B) → ByKind said L B ⊥
  unfolding counted belongs
  led_line (Some (Direction number direction q)) L B h k e led body = led h k
  led_line (Some (Angles target)) L B h k e led body = body (omega arith)
  led_line (Some Sides) L B h k e led body = body (omega arith)
  led_line (Some (Term letter value d i k)) L B h z e led body =
      let b : belongs None letter ≡ true = subst (λ (x : Option Kind). belongs x letter ≡ true) z (under_heading letter value d i k e) in cc
  led_line None L B h k e led body = never_said place c e

-- ---- wherever the scan stands
scan_body : (place : ℕ) (c : Counts) (part : List ℕ) (parts : List (List ℕ)) → 0 < c.n → scanned place c (part ∷ parts) ≡ Ok tt → Body (whole (part ∷ parts))
unfolding scanned whole Body
scan_body place c part [] h e = tt
scan_body place c part (p ∷ parts) h e =
    let said = record_of part in let b = both_accepted (line_reply place c said) (scanned (suc place) (counted c said) (p ∷ parts)) e in
    body_line place c said (Body (whole (p ∷ parts))) h b.0 (λ after. scan_body (suc place) (counted c said) p parts after b.1)

scan_led : (place : ℕ) (c : Counts) (part : List ℕ) (parts : List (List ℕ)) → c.n ≡ 0 → c.heading ≡ None → scanned place c (part ∷ parts) ≡ Ok tt → Led (whole (part ∷ parts))
unfolding scanned whole Led
scan_led place c part [] h k e = tt
scan_led place c part (p ∷ parts) h k e =
    let said = record_of part in let b = both_accepted (line_reply place c said) (scanned (suc place) (counted c said) (p ∷ parts)) e in
    led_line place c said (Led (whole (p ∷ parts))) (Body (whole (p ∷ parts))) h k b.0
    (λ n heading. scan_led (suc place) (counted c said) p parts n heading b.1)
    (λ after. scan_body (suc place) (counted c said) p parts after b.1)

all_led : (parts : List (List ℕ)) → scanned 1 none parts ≡ Ok tt → Led (whole parts)
unfolding whole Led
all_led [] e = tt
all_led (part ∷ parts) e = scan_led 1 none part parts refl refl e

pub file_led : (file : List ℕ) → scan_reply file ≡ Ok tt → Led (lines_of file)
unfolding scan_reply lines_of
file_led file e =
    subst Led (whole_lines file)
    (all_led (parted LF ([] ∷ []) file) (both_accepted (refuse_if (ltb 65535 (length file)) (Count 0)) (scanned 1 none (parted LF ([] ∷ []) file)) e).1)
