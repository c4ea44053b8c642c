-- Laws of the scan over a file's lines. Assumes nothing.
--   Passed, passed_more, passed_low      the counters never pass the count of lines
--   scan_refused, scan_accepted                       from a whole line on: its own refusal, or the reply of what follows it
--   scan_missing, scan_none                           from a last line without LF, and from the end
--   never_said, said_nothing, said_refused, said_accepted         the same by what the line at a start says; one that is accepted says something
--   ScannedTo; scan_begins, low, scan_fails, scan_stops, scan_goes, scan_ends, scan_answers     the same along the walk over the file's lines
use mathlib.Core.Path.{◌≡◌, refl, sym, ◌∙◌, ap}
use mathlib.Core.Bool.{Bool, true, false, cond}
use mathlib.Core.List.{List, [], ◌∷◌}
use Prim.Native.Nat.{ℕ, suc, ◌+◌, ◌<◌, ◌≤◌}
use native.Mathlib.Numerals.{add-one}
use native.Mathlib.Omega.{arith}
use borrow.Author.Tests.{lt-ltb, le-ltb, ltb-true, ltb-false}
use lib.Dec.{eqb, ltb}
use lib.ListN.{length, drop, drop_of_length-le, length-drop}
use Rattle.reply.specs.declared.Refusal.{Refusal}
use Rattle.reply.specs.declared.Refusal.TheVariants.{Malformed}
use Rattle.reply.specs.Reply.{Reply}
use Rattle.reply.specs.Checks.{◌and_then◌}
use Rattle.text.specs.Parts.{place_from, on_first, parted}
use Rattle.text.specs.Lines.{LF, line_at}
use Rattle.network.specs.Records.{record_of}
use Rattle.network.specs.Scan.{Low, none, line_reply, counted, end_reply, if_last, scanned, scan_reply}
use Rattle.reply.proofs.Checking.{never}
use Rattle.network.specs.Turns.{turned, turn_at}
use Rattle.network.specs.declared.record.Record.{Record}
use Rattle.network.specs.declared.record.Turn.{Turn}
use Rattle.network.specs.declared.record.Record.TheVariants.{Direction, Angles, Sides, Term}
use Rattle.network.specs.declared.scan.Counts.{Counts}
use Rattle.text.proofs.Parting.{parts_more, parts_last}
use Rattle.network.proofs.Walking.{Walked, walked}
use Rattle.std.specs.Prelude.{Ok, Err, Option, Some, None}

-- ---- the counters
pub record Passed (lines : ℕ) (c : Counts) : Type 0 where
  pub m : c.m ≤ lines
  pub n : c.n ≤ lines
  pub terms : c.terms ≤ lines

pub passed_more : (lines : ℕ) (c : Counts) (said : Option Record) → Passed lines c → Passed (lines + 1) (counted c said)
unfolding counted
passed_more lines c (Some (Direction number direction q)) h = record { m = omega (arith, h.m); n = omega (arith, h.n); terms = omega (arith, h.terms) }
passed_more lines c (Some (Angles target)) h = record { m = omega (arith, h.m); n = omega (arith, h.n); terms = omega arith }
passed_more lines c (Some Sides) h = record { m = omega (arith, h.m); n = omega (arith, h.n); terms = omega arith }
passed_more lines c (Some (Term letter value d i k)) h = record { m = omega (arith, h.m); n = omega (arith, h.n); terms = omega (arith, h.terms) }
passed_more lines c None h = record { m = omega (arith, h.m); n = omega (arith, h.n); terms = omega (arith, h.terms) }

pub passed_low : (lines : ℕ) (c : Counts) → lines ≤ 65536 → Passed lines c → Low c
passed_low lines c l h = record { m = omega (arith, h.m); n = omega (arith, h.n); terms = omega (arith, h.terms) }

-- ---- what is left of the file, from a start
abbrev pub left : List ℕ → ℕ → List (List ℕ)
left file start = parted LF ([] ∷ []) (drop start file)

-- what comes after an LF is a part, if only an empty one
first_more : (x : ℕ) (parts : List (List ℕ)) (end more : Reply) → if_last (on_first x parts) end more ≡ if_last parts end more
unfolding on_first
first_more x [] end more = refl
first_more x (p ∷ parts) end more = refl

some_step : (x : ℕ) (parts : List (List ℕ)) (end more : Reply) (b : Bool) → if_last parts end more ≡ more
    → if_last (cond b ([] ∷ parts) (on_first x parts)) end more ≡ more
some_step x parts end more true h = refl
some_step x parts end more false h = first_more x parts end more ∙ h

some_part : (s : List ℕ) (end more : Reply) → if_last (parted LF ([] ∷ []) s) end more ≡ more
unfolding parted
some_part [] end more = refl
some_part (x ∷ s) end more = some_step x (parted LF ([] ∷ []) s) end more (eqb x LF) (some_part s end more)

module _ (file : List ℕ) (start place : ℕ) (c : Counts) where
  scan_line : place_from LF file start < length file → let said = record_of (line_at file start) in
      scanned place c (left file start) ≡ (line_reply place c said and_then scanned (suc place) (counted c said) (left file (place_from LF file start + 1)))
  unfolding scanned line_at
  scan_line l =
      rw (parts_more LF ([] ∷ []) file start l, lt-ltb (place_from LF file start) (length file) l)
      (some_part (drop (place_from LF file start + 1) file) _ _)

  module _ (l : place_from LF file start < length file) where
    pub scan_refused : (why : Refusal) → line_reply place c (record_of (line_at file start)) ≡ Err why → scanned place c (left file start) ≡ Err why
    scan_refused why e = scan_line l ∙ rw e

    pub scan_accepted : {said : Option Record} → record_of (line_at file start) ≡ said → line_reply place c said ≡ Ok tt
        → scanned (place + 1) (counted c said) (left file (place_from LF file start + 1)) ≡ scanned place c (left file start)
    scan_accepted s e = rw (sym s, add-one place) (sym (scan_line l ∙ rw (ap (line_reply place c) s ∙ e)))

  pub scan_missing : start < length file → length file ≤ place_from LF file start → scanned place c (left file start) ≡ Err (Malformed place)
  unfolding scanned place_from
  scan_missing h l =
      rw (parts_last LF (drop start file) (omega (arith, length-drop start file)), lt-ltb 0 (length (drop start file)) (omega (arith, length-drop start file)))

  pub scan_none : length file ≤ start → scanned place c (left file start) ≡ end_reply c
  unfolding scanned parted
  scan_none l = rw (drop_of_length-le file l)

-- ---- by what the line at a start says
pub never_said : {A : Type 0} (place : ℕ) (c : Counts) → line_reply place c None ≡ Ok tt → A
unfolding line_reply
never_said place c e = never (Malformed place) e

module _ (file : List ℕ) (start place : ℕ) (c : Counts) where
  abbrev found : Bool
  found = ltb (place_from LF file start) (length file)

  -- nothing: no LF follows, or what stands before it is none of the records
  unsaid : (line : Option Record) (next : ℕ) → turned line next ≡ None → line ≡ None
  unfolding turned
  unsaid (Some said) next e = cc
  unsaid None next e = refl

  nothing_by : (b : Bool) → found ≡ b → start < length file → turn_at file start ≡ None → scanned place c (left file start) ≡ Err (Malformed place)
  unfolding turn_at line_reply
  nothing_by true t h e =
      scan_refused file start place c (ltb-true (place_from LF file start) (length file) t) (Malformed place)
      (ap (line_reply place c)
      (unsaid (record_of (line_at file start)) (place_from LF file start + 1)
      (sym (ap (λ (b : Bool). cond b (turned (record_of (line_at file start)) (place_from LF file start + 1)) None) t) ∙ e)))
  nothing_by false t h e = scan_missing file start place c h (ltb-false (place_from LF file start) (length file) t)

  pub said_nothing : start < length file → turn_at file start ≡ None → scanned place c (left file start) ≡ Err (Malformed place)
  said_nothing h e = nothing_by found refl h e

  module _ {turn : Turn} (e : turn_at file start ≡ Some turn) where
    line : Walked file start turn.said turn.next
    line = walked file start turn e

    pub said_refused : {why : Refusal} → line_reply place c (Some turn.said) ≡ Err why → scanned place c (left file start) ≡ Err why
    said_refused {why} r = scan_refused file start place c (omega (arith, line.after, line.within)) why (ap (line_reply place c) line.says ∙ r)

    pub said_accepted : line_reply place c (Some turn.said) ≡ Ok tt → scanned (place + 1) (counted c (Some turn.said)) (left file turn.next) ≡ scanned place c (left file start)
    said_accepted r =
        ap (λ (p : ℕ). scanned (place + 1) (counted c (Some turn.said)) (left file p)) line.after
        ∙ scan_accepted file start place c (omega (arith, line.after, line.within)) line.says r

-- ---- the walk: what is left of the file from a start on has the reply of the whole
pub record ScannedTo (file : List ℕ) (start place : ℕ) (c : Counts) : Type 0 where
  pub within : start ≤ length file
  pub lines : place ≤ start + 1
  pub passed : Passed place c
  pub rest : scanned place c (left file start) ≡ scanned 1 none (left file 0)

module _ (file : List ℕ) (short : length file ≤ 65535) where
  pub scan_begins : ScannedTo file 0 1 none
  scan_begins = record { within = omega arith; lines = omega arith; passed = record { m = omega arith; n = omega arith; terms = omega arith }; rest = refl }

  whole_reply : scanned 1 none (left file 0) ≡ scan_reply file
  unfolding scan_reply
  whole_reply = rw (le-ltb 65535 (length file) short)

  module _ {start place : ℕ} {c : Counts} (s : ScannedTo file start place c) where
    pub low : Low c
    low = passed_low place c (omega (arith, s.lines, s.within, short)) s.passed

    pub scan_fails : start < length file → turn_at file start ≡ None → scan_reply file ≡ Err (Malformed place)
    scan_fails l e = sym whole_reply ∙ sym s.rest ∙ said_nothing file start place c l e

    module _ {turn : Turn} (e : turn_at file start ≡ Some turn) where
      pub scan_stops : {why : Refusal} → line_reply place c (Some turn.said) ≡ Err why → scan_reply file ≡ Err why
      scan_stops r = sym whole_reply ∙ sym s.rest ∙ said_refused file start place c e r

      pub scan_goes : {counts : Counts} → line_reply place c (Some turn.said) ≡ Ok tt → counts ≡ counted c (Some turn.said)
          → ScannedTo file turn.next (place + 1) counts × (start < turn.next)
      scan_goes {counts} r q =
          let w = walked file start turn e in (
            record {
              within = w.within;
              lines = omega (arith, s.lines, w.on);
              passed = rw q (passed_more place c (Some turn.said) s.passed);
              rest = rw q (said_accepted file start place c e r ∙ s.rest);
            },
            w.on,
          )

    pub scan_ends : length file ≤ start → end_reply c ≡ scan_reply file
    scan_ends l = sym (scan_none file start place c l) ∙ s.rest ∙ whole_reply

-- a scan that ends, early or at the end of the file
pub ruleset scan_answers = (scan_fails, scan_stops, scan_ends)
