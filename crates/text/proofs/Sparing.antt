-- Laws of texts without a byte, and of the line that such a text is where an LF stands behind it. Assumes nothing.
--   Free, free_cons, free_both              a text without a byte: its first byte and the others; two such texts
--   free_high                               a text of bytes from 45 on has no lower one
--   before_free, part_first                 a search goes on behind such a text; it is the first part of a text
--   before_cut, free_cut, line_free         the search in the first bytes of a text; what stands before a byte is without it, so a line without an LF
--   found_place, found_within, found_line   a text without an LF, and an LF: where the LF is, that it is within the file, the line
--   row_written                             the numbers of that line
use mathlib.Core.Path.{◌≡◌, refl, sym, ◌∙◌, ap}
use mathlib.Core.Bool.{Bool, true, false, cond}
use mathlib.Core.List.{List, [], ◌∷◌, ◌++◌, append-nil}
use Prim.Native.Nat.{ℕ, zero, suc, ◌+◌, ◌<◌, ◌≤◌, min}
use native.Mathlib.Nat.{add-zero, le_refl}
use native.Mathlib.Omega.{arith}
use borrow.Author.Tests.{eq-eqb, lt-ltb}
use lib.Dec.{eqb, ltb}
use lib.ListN.{length, take, drop, length-append, length-drop, length-take}
use lib.Seq.{take-append_seam}
use Rattle.text.specs.Parts.{bytes_before, place_from, on_first, parted}
use Rattle.text.specs.Lines.{LF, line_at}
use Rattle.text.specs.Fields.{fields_of}
use Rattle.text.specs.Rows.{numbers_within, row_within}
use Rattle.text.proofs.Parting.{before_le}
use Rattle.text.proofs.Spanning.{High, before_high}

-- ---- a text without a byte
abbrev pub Free : (byte : ℕ) (text : List ℕ) → Type 0
Free byte text = bytes_before byte text ≡ length text

pub free_cons : (byte b : ℕ) (text : List ℕ) → Free byte (b ∷ text) → (eqb b byte ≡ false) × Free byte text
unfolding bytes_before
free_cons byte b text e = by_first (eqb b byte) refl e
  where
    by_first : (x : Bool) → eqb b byte ≡ x → cond x 0 (suc (bytes_before byte text)) ≡ suc (length text) → (eqb b byte ≡ false) × Free byte text
    by_first true t f = absurd (omega arith)
    by_first false t f = (t, omega arith)

pub before_free : (byte : ℕ) (text rest : List ℕ) → Free byte text → bytes_before byte (text ++ rest) ≡ length text + bytes_before byte rest
unfolding bytes_before
before_free byte [] rest e = omega arith
before_free byte (b ∷ text) rest e = let f = free_cons byte b text e in rw (f.0, before_free byte text rest f.1) (omega arith)

pub free_both : (byte : ℕ) (text rest : List ℕ) → Free byte text → Free byte rest → Free byte (text ++ rest)
free_both byte text rest e f = before_free byte text rest e ∙ ap (λ (n : ℕ). length text + n) f ∙ sym (length-append text rest)

pub free_high : (byte : ℕ) (text : List ℕ) → byte < 45 → High text → Free byte text
unfolding bytes_before
free_high byte text l h = ap (bytes_before byte) (sym (append-nil text)) ∙ before_high byte text [] l h ∙ add-zero (length text)

-- ---- the first part of a text
pub part_first : (byte : ℕ) (end : List (List ℕ)) (line rest : List ℕ) → Free byte line → parted byte end (line ++ (byte ∷ rest)) ≡ line ∷ parted byte end rest
unfolding parted on_first
part_first byte end [] rest e = rw (eq-eqb byte byte refl)
part_first byte end (b ∷ line) rest e = let f = free_cons byte b line e in rw (f.0, part_first byte end line rest f.1)

-- ---- the first bytes of a text
cut_step : (b : Bool) (n m k : ℕ) → k ≡ min n m → cond b 0 (suc k) ≡ min (suc n) (cond b 0 (suc m))
cut_step true n m k e = omega arith
cut_step false n m k e = omega arith

pub before_cut : (byte n : ℕ) (text : List ℕ) → bytes_before byte (take n text) ≡ min n (bytes_before byte text)
unfolding bytes_before
before_cut byte zero text = omega arith
before_cut byte (suc n) [] = omega arith
before_cut byte (suc n) (b ∷ text) = cut_step (eqb b byte) n (bytes_before byte text) (bytes_before byte (take n text)) (before_cut byte n text)

pub free_cut : (byte n : ℕ) (text : List ℕ) → n ≤ bytes_before byte text → Free byte (take n text)
free_cut byte n text l = omega (arith, before_cut byte n text, length-take n text, before_le byte text)

line_by : (s : List ℕ) (b : Bool) → Free LF (cond b (take (bytes_before LF s) s) [])
unfolding bytes_before
line_by s true = free_cut LF (bytes_before LF s) s (le_refl (bytes_before LF s))
line_by s false = refl

pub line_free : (file : List ℕ) (start : ℕ) → Free LF (line_at file start)
unfolding line_at
line_free file start = line_by (drop start file) (ltb (place_from LF file start) (length file))

-- ---- a text without an LF stands in a file, and an LF behind it
module _ (file : List ℕ) (at : ℕ) (line rest : List ℕ) (d : drop at file ≡ line ++ (LF ∷ rest)) (e : Free LF line) where
  before_end : bytes_before LF (line ++ (LF ∷ rest)) ≡ length line
  unfolding bytes_before
  before_end = before_free LF line (LF ∷ rest) e ∙ add-zero (length line)

  pub found_place : place_from LF file at ≡ at + length line
  unfolding place_from
  found_place = rw (d, before_end)

  pub found_within : place_from LF file at < length file
  found_within = omega (arith, found_place, sym (length-drop at file) ∙ ap length d ∙ length-append line (LF ∷ rest))

  pub found_line : line_at file at ≡ line
  unfolding line_at
  found_line = rw (lt-ltb (place_from LF file at) (length file) found_within, d, before_end, take-append_seam line (LF ∷ rest))

  pub row_written : (most count : ℕ) → row_within most file at count ≡ numbers_within most count (fields_of line)
  unfolding row_within
  row_written most count = rw (lt-ltb (place_from LF file at) (length file) found_within, found_line)
