-- Laws of the line reader: what the end of the search for an LF says, and how the list of all lines goes with the reader. Assumes nothing.
--   line_none                                      no line, by the search's end
--   whole_within, missing_past, none_past          the search's end, by the status
--   line_next                                      the LF stands right after the line, so the next line starts one further
--   lines_whole, lines_rest, lines_end             the list of lines from a start: the line there and those after its LF, or no line
--   walk_on, walk_missing, walk_ended              the same by the status: going from line to line gives the file's lines
--   bytes_most                                     a file's lines with their LF have no more bytes than the file
use mathlib.Core.Path.{◌≡◌, refl, sym, ◌∙◌, ap}
use mathlib.Core.Bool.{Bool, true, false, cond}
use mathlib.Core.List.{List, [], ◌∷◌}
use Prim.Native.Nat.{ℕ, suc, ◌+◌, ◌<◌, ◌≤◌}
use native.Mathlib.Omega.{arith}
use borrow.Author.Tests.{lt-ltb, le-ltb, ltb-true, ltb-false}
use lib.Dec.{ltb, eqb}
use lib.ListN.{length, drop, drop_of_length-le, length-drop}
use lib.Seq.{length-take-le}
use Rattle.text.specs.Parts.{bytes_before, place_from, on_first, parted}
use Rattle.text.specs.Lines.{LF, line_at, status_at, lines_of, bytes_of}
use Rattle.text.specs.declared.line.LineStatus.TheVariants.{Whole, NoneLeft, LfMissing}
use Rattle.text.proofs.Parting.{parts_more, parts_dropped}

-- ---- where the search from `i` ends past the text there is no line
pub line_none : (s : List ℕ) (i e : ℕ) → e ≡ place_from LF s i → length s ≤ e → [] ≡ line_at s i
unfolding line_at
line_none s i e q l = rw (← q, le-ltb e (length s) l)

-- ---- what a status says
-- a: the start is within the file; b: the search ends within it
by_whole : (a b : Bool) → cond a (cond b Whole LfMissing) NoneLeft ≡ Whole → b ≡ true
by_whole true true e = refl
by_whole true false e = cc
by_whole false b e = cc

by_missing : (a b : Bool) → cond a (cond b Whole LfMissing) NoneLeft ≡ LfMissing → b ≡ false
by_missing true true e = cc
by_missing true false e = refl
by_missing false b e = cc

by_none : (a b : Bool) → cond a (cond b Whole LfMissing) NoneLeft ≡ NoneLeft → a ≡ false
by_none true true e = cc
by_none true false e = cc
by_none false b e = refl

module _ (s : List ℕ) (i : ℕ) where
  abbrev within : Bool
  within = ltb i (length s)

  abbrev ended : Bool
  ended = ltb (place_from LF s i) (length s)

  pub whole_within : status_at s i ≡ Whole → place_from LF s i < length s
  unfolding status_at
  whole_within e = ltb-true (place_from LF s i) (length s) (by_whole within ended e)

  pub missing_past : status_at s i ≡ LfMissing → length s ≤ place_from LF s i
  unfolding status_at
  missing_past e = ltb-false (place_from LF s i) (length s) (by_missing within ended e)

  pub none_past : status_at s i ≡ NoneLeft → length s ≤ i
  unfolding status_at
  none_past e = ltb-false i (length s) (by_none within ended e)

  pub line_next : place_from LF s i < length s → i + length (line_at s i) ≡ place_from LF s i
  unfolding line_at place_from
  line_next l =
      rw (lt-ltb (i + bytes_before LF (drop i s)) (length s) l, length-take-le (bytes_before LF (drop i s)) (drop i s) (omega (arith, length-drop i s)))

-- ---- the list of all lines
pub lines_whole : (s : List ℕ) (i : ℕ) → place_from LF s i < length s → lines_of (drop i s) ≡ line_at s i ∷ lines_of (drop (place_from LF s i + 1) s)
unfolding line_at lines_of
lines_whole s i l = rw (lt-ltb (place_from LF s i) (length s) l) (parts_more LF [] s i l)

pub lines_rest : (s : List ℕ) (i : ℕ) → length s ≤ place_from LF s i → lines_of (drop i s) ≡ []
unfolding place_from lines_of
lines_rest s i l = parts_dropped LF (drop i s) (omega (arith, length-drop i s))

pub lines_end : (s : List ℕ) (i : ℕ) → length s ≤ i → lines_of (drop i s) ≡ []
unfolding lines_of parted
lines_end s i l = rw (drop_of_length-le s l)

-- ---- a walk from line to line, by the status
module _ (s : List ℕ) (i : ℕ) where
  pub walk_on : status_at s i ≡ Whole → lines_of (drop i s) ≡ line_at s i ∷ lines_of (drop (i + length (line_at s i) + 1) s)
  walk_on e =
      let l = whole_within s i e in
      lines_whole s i l ∙ ap (λ (p : ℕ). line_at s i ∷ lines_of (drop (p + 1) s)) (sym (line_next s i l))

  pub walk_missing : status_at s i ≡ LfMissing → lines_of (drop i s) ≡ []
  walk_missing e = lines_rest s i (missing_past s i e)

  pub walk_ended : status_at s i ≡ NoneLeft → lines_of (drop i s) ≡ []
  walk_ended e = lines_end s i (none_past s i e)

-- ---- how many bytes they have
bytes_first : (x : ℕ) (lines : List (List ℕ)) → bytes_of (on_first x lines) ≤ suc (bytes_of lines)
unfolding bytes_of on_first
bytes_first x [] = omega arith
bytes_first x (line ∷ lines) = omega arith

bytes_step : (x n : ℕ) (lines : List (List ℕ)) (b : Bool) → bytes_of lines ≤ n → bytes_of (cond b ([] ∷ lines) (on_first x lines)) ≤ suc n
unfolding bytes_of
bytes_step x n lines true h = omega arith
bytes_step x n lines false h = omega (arith, bytes_first x lines)

pub bytes_most : (s : List ℕ) → bytes_of (lines_of s) ≤ length s
unfolding lines_of parted bytes_of
bytes_most [] = omega arith
bytes_most (x ∷ s) = bytes_step x (length s) (lines_of s) (eqb x LF) (bytes_most s)
