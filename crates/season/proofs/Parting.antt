-- Laws of the parts of an archive, as a walk from line to line finds them. Assumes nothing.
--   onto_onto, onto_length                   bytes in front of the first part
--   more_than_last                           a line that others follow is not the last
--   parts_some                               an archive has a part: its nets, and what is left, be it nothing
--   parts_left                               bytes without an LF are left
--   parts_line                               bytes up to an LF: a full stop line closes a part, any other line belongs to the first part
--   stop_line, other_line                    the same, by what the line is
use mathlib.Core.Path.{◌≡◌, refl, sym, ◌∙◌, ap}
use mathlib.Core.Bool.{Bool, true, false, cond}
use mathlib.Core.List.{List, [], ◌∷◌, ◌++◌, append_assoc}
use Prim.Native.Nat.{ℕ, ◌+◌, ◌≤◌, ◌<◌}
use native.Mathlib.Nat.{zero-add}
use native.Mathlib.Omega.{arith}
use lib.Dec.{eqb}
use lib.ListN.{length, take, drop}
use Rattle.text.specs.Lines.{LF}
use Rattle.text.specs.Parts.{bytes_before, place_from, on_first, onto, parted}
use Rattle.text.proofs.Parting.{parts_more, parts_last}
use Rattle.season.specs.Archive.{stops, if_last, parts_in, parts_of}

-- ---- bytes in front
pub onto_onto : (a b : List ℕ) (parts : List (List ℕ)) → onto a (onto b parts) ≡ onto (a ++ b) parts
unfolding onto
onto_onto a b [] = refl
onto_onto a b (part ∷ parts) = ap (λ (x : List ℕ). x ∷ parts) (sym (append_assoc a b part))

pub onto_length : (a : List ℕ) (parts : List (List ℕ)) → length (onto a parts) ≡ length parts
unfolding onto
onto_length a [] = refl
onto_length a (part ∷ parts) = refl

-- ---- some part
first_length : (b : ℕ) (lines : List (List ℕ)) → length (on_first b lines) ≡ length lines
unfolding on_first
first_length b [] = refl
first_length b (line ∷ lines) = refl

some_step : (x : ℕ) (lines : List (List ℕ)) (b : Bool) → 0 < length lines → 0 < length (cond b ([] ∷ lines) (on_first x lines))
some_step x lines true l = omega arith
some_step x lines false l = omega (arith, first_length x lines)

lines_some : (text : List ℕ) → 0 < length (parted LF ([] ∷ []) text)
unfolding parted
lines_some [] = omega arith
lines_some (x ∷ text) = some_step x (parted LF ([] ∷ []) text) (eqb x LF) (lines_some text)

pub more_than_last : {A : Type 0} (lines : List (List ℕ)) (last more : A) → 0 < length lines → if_last lines last more ≡ more
more_than_last [] last more l = absurd (omega arith)
more_than_last (line ∷ lines) last more l = refl

in_step : (line : List ℕ) (parts : List (List ℕ)) (b : Bool) → 0 < length parts → 0 < length (cond b ([] ∷ parts) (onto (line ++ (LF ∷ [])) parts))
in_step line parts true l = omega arith
in_step line parts false l = omega (arith, onto_length (line ++ (LF ∷ [])) parts)

in_some : (lines : List (List ℕ)) → 0 < length lines → 0 < length (parts_in lines)
unfolding parts_in
in_some [] l = l
in_some (line ∷ []) l = omega arith
in_some (line ∷ (next ∷ lines)) l = in_step line (parts_in (next ∷ lines)) (stops line) (in_some (next ∷ lines) (omega arith))

pub parts_some : (archive : List ℕ) → 0 < length (parts_of archive)
unfolding parts_of
parts_some archive = in_some (parted LF ([] ∷ []) archive) (lines_some archive)

-- ---- by lines
pub parts_left : (bytes : List ℕ) → length bytes ≤ bytes_before LF bytes → parts_of bytes ≡ bytes ∷ []
unfolding parts_of parts_in
parts_left bytes l = rw (parts_last LF bytes l)

module _ (bytes : List ℕ) (l : bytes_before LF bytes < length bytes) where
  abbrev pub line_of : List ℕ
  line_of = take (bytes_before LF bytes) bytes

  abbrev pub behind : List ℕ
  behind = drop (bytes_before LF bytes + 1) bytes

  lines_are : parted LF ([] ∷ []) bytes ≡ line_of ∷ parted LF ([] ∷ []) behind
  unfolding place_from
  lines_are = rw zero-add at (parts_more LF ([] ∷ []) bytes 0 (omega arith))

  pub parts_line : parts_of bytes ≡ cond (stops line_of) ([] ∷ parts_of behind) (onto (line_of ++ (LF ∷ [])) (parts_of behind))
  unfolding parts_of parts_in
  parts_line = rw (lines_are, more_than_last (parted LF ([] ∷ []) behind) (line_of ∷ []) (cond (stops line_of) ([] ∷ parts_of behind) (onto (line_of ++ (LF ∷ [])) (parts_of behind))) (lines_some behind))

  pub stop_line : stops line_of ≡ true → parts_of bytes ≡ [] ∷ parts_of behind
  stop_line e = parts_line ∙ rw e

  pub other_line : stops line_of ≡ false → parts_of bytes ≡ onto (line_of ++ (LF ∷ [])) (parts_of behind)
  other_line e = parts_line ∙ rw e
