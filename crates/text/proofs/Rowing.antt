-- Laws of a row of numbers, read field by field from where the last one ended. Assumes nothing.
--   split_at_byte                       a text is what stands before a byte, the byte, and the rest
--   fields_tab, fields_plain            the fields of a line that begins with a number and a tab, and of one that is a number
--   fields_more, fields_last, some_field   the fields of any line, by the first tab; no line has none
--   tab_number, tab_place, tab_none     a number up to a tab: the row goes on behind it; where there is none, there is no row of two or more
--   last_number, last_none              a number up to the LF ends the row; where there is none, there is no row of one
--   prepend, prepend_nothing, prepend_more   the numbers read so far, and those of what is left
--   Sofar, sofar_none, sofar_more       how far the reading has come: nothing yet, and one number more
--   lost_field, lost_last, row_done, next_line   no such row, by a field or by the last; the row, and where the next line starts
--   row_answer, no_row_answer           the answer, by the row
--   told_some, told_none, row_told, no_row_told   the row, by the answer
--   not_missing                         a row that is not missing has its numbers
use mathlib.Core.Path.{◌≡◌, refl, sym, ◌∙◌, ap}
use mathlib.Core.Bool.{Bool, true, false, cond}
use mathlib.Core.List.{List, [], ◌∷◌, ◌++◌}
use Rattle.std.specs.Prelude.{Option, None, Some}
use Prim.Native.Nat.{ℕ, suc, ◌+◌, ◌-◌, ◌<◌, ◌≤◌}
use native.Mathlib.Numerals.{add-one}
use native.Mathlib.Omega.{arith}
use borrow.Author.Tests.{lt-ltb, ltb-true, ltb-false, eqb-true, ne_eqb}
use lib.Dec.{ltb, eqb}
use lib.IntN.{ℤ}
use lib.ListN.{length, take, drop, set, length-drop, take-append-drop}
use lib.Seq.{take-append-add, take-append-le, append_snoc, length-take-le, take-suc-set, drop-drop}
use Rattle.text.specs.Parts.{bytes_before, place_from, on_first, parted}
use Rattle.text.specs.Lines.{LF, line_at}
use Rattle.text.specs.Fields.{TAB, fields_of}
use Rattle.text.specs.Numbers.{numeral_within, up_to, number_to, Reads}
use Rattle.text.specs.declared.number.Read.{Read}
use Rattle.text.specs.Rows.{before, numbers_within, row_within, end_of, row_end, row_values, missing}
use Rattle.text.proofs.Parting.{before_le, parts_more, parts_last}
use Rattle.text.proofs.Spanning.{High, before_high, numeral_high}

-- ---- a text, by the first place of a byte
split_step : (byte x : ℕ) (xs : List ℕ) (b : Bool) → eqb x byte ≡ b
    → (bytes_before byte xs < length xs → xs ≡ take (bytes_before byte xs) xs ++ (byte ∷ drop (suc (bytes_before byte xs)) xs))
    → let n = cond b 0 (suc (bytes_before byte xs)) in n < suc (length xs) → x ∷ xs ≡ take n (x ∷ xs) ++ (byte ∷ drop (suc n) (x ∷ xs))
split_step byte x xs true e rec l = ap (λ (y : ℕ). y ∷ xs) (eqb-true x byte e)
split_step byte x xs false e rec l = ap (λ (ys : List ℕ). x ∷ ys) (rec (omega arith))

pub split_at_byte : (byte : ℕ) (s : List ℕ) → bytes_before byte s < length s → s ≡ take (bytes_before byte s) s ++ (byte ∷ drop (suc (bytes_before byte s)) s)
unfolding bytes_before
split_at_byte byte [] l = absurd (omega arith)
split_at_byte byte (x ∷ xs) l = split_step byte x xs (eqb x byte) refl (split_at_byte byte xs) l

-- the byte stands in the first of two parts
before_step : (byte x : ℕ) (xs rest : List ℕ) (b : Bool) → (bytes_before byte xs < length xs → bytes_before byte (xs ++ rest) ≡ bytes_before byte xs)
    → cond b 0 (suc (bytes_before byte xs)) < suc (length xs) → cond b 0 (suc (bytes_before byte (xs ++ rest))) ≡ cond b 0 (suc (bytes_before byte xs))
before_step byte x xs rest true rec l = refl
before_step byte x xs rest false rec l = ap suc (rec (omega arith))

before_append : (byte : ℕ) (s rest : List ℕ) → bytes_before byte s < length s → bytes_before byte (s ++ rest) ≡ bytes_before byte s
unfolding bytes_before
before_append byte [] rest l = absurd (omega arith)
before_append byte (x ∷ xs) rest l = before_step byte x xs rest (eqb x byte) (before_append byte xs rest) l

-- ---- the fields of a line that begins with a number
pub fields_tab : (field line : List ℕ) → High field → fields_of (field ++ (TAB ∷ line)) ≡ field ∷ fields_of line
unfolding High fields_of parted on_first
fields_tab [] line h = refl
fields_tab (b ∷ bs) line h = rw (ne_eqb b TAB (λ e. omega (arith, e, h.0)), fields_tab bs line h.1)

pub fields_plain : (field : List ℕ) → High field → fields_of field ≡ field ∷ []
unfolding High fields_of parted on_first
fields_plain [] h = refl
fields_plain (b ∷ bs) h = rw (ne_eqb b TAB (λ e. omega (arith, e, h.0)), fields_plain bs h.1)

-- ---- numbers before others
before_none : (x : Option ℤ) → before x None ≡ None
unfolding before
before_none (Some z) = refl
before_none None = refl

-- one field, by the search for a tab, or a field and others
module _ (line : List ℕ) where
  abbrev tab : ℕ
  tab = bytes_before TAB line

  pub fields_more : tab < length line → fields_of line ≡ take tab line ∷ fields_of (drop (tab + 1) line)
  unfolding fields_of place_from
  fields_more l = let same : 0 + bytes_before TAB line ≡ bytes_before TAB line = omega arith in parts_more TAB ([] ∷ []) line 0 (omega arith) ∙ rw same

  pub fields_last : length line ≤ tab → fields_of line ≡ line ∷ []
  unfolding fields_of
  fields_last l = parts_last TAB line l

  pub some_field : (most : ℕ) (b : Bool) → ltb tab (length line) ≡ b → numbers_within most 0 (fields_of line) ≡ None
  unfolding numbers_within
  some_field most true t = rw (fields_more (ltb-true tab (length line) t))
  some_field most false t = rw (fields_last (ltb-false tab (length line) t))

-- ---- a row, by the number at its start
found_by : (b : Bool) (x : Option ℤ) (z : ℤ) → cond b x None ≡ Some z → (b ≡ true) × (x ≡ Some z)
found_by true x z e = (refl, e)
found_by false x z e = cc

module _ (most : ℕ) (file : List ℕ) (at : ℕ) where
  abbrev left : List ℕ
  left = drop at file

  abbrev row : ℕ → Bool → Option (List ℤ)
  row k b = cond b (numbers_within most k (fields_of (cond b (up_to LF file at) []))) None

  module _ (z : ℤ) (e : number_to most TAB file at ≡ Some z) where
    abbrev tab_at : ℕ
    tab_at = place_from TAB file at

    told : (ltb tab_at (length file) ≡ true) × (numeral_within most (up_to TAB file at) ≡ Some z)
    unfolding number_to
    told = found_by (ltb tab_at (length file)) (numeral_within most (up_to TAB file at)) z e

    high : High (up_to TAB file at)
    high = numeral_high most (up_to TAB file at) z told.1

    pub tab_within : tab_at < length file
    tab_within = ltb-true tab_at (length file) told.0

    split : left ≡ up_to TAB file at ++ (TAB ∷ drop (tab_at + 1) file)
    unfolding place_from
    split =
        let l : bytes_before TAB left < length left = omega (arith, tab_within, length-drop at file) in
        let same : at + suc (bytes_before TAB left) ≡ at + bytes_before TAB left + 1 = omega arith in
        split_at_byte TAB left l
        ∙ ap (λ (rest : List ℕ). up_to TAB file at ++ (TAB ∷ rest)) (drop-drop (suc (bytes_before TAB left)) at file ∙ ap (λ (n : ℕ). drop n file) same)

    long : length (up_to TAB file at) ≡ bytes_before TAB left
    long = length-take-le (bytes_before TAB left) left (before_le TAB left)

    lf_on : bytes_before LF left ≡ length (up_to TAB file at) + suc (bytes_before LF (drop (tab_at + 1) file))
    unfolding bytes_before
    lf_on = ap (bytes_before LF) split ∙ before_high LF (up_to TAB file at) (TAB ∷ drop (tab_at + 1) file) (omega arith) high

    pub tab_place : place_from LF file at ≡ place_from LF file (tab_at + 1)
    unfolding place_from
    tab_place = omega (arith, lf_on, long)

    line_on : up_to LF file at ≡ up_to TAB file at ++ (TAB ∷ up_to LF file (tab_at + 1))
    line_on =
        ap (λ (n : ℕ). take n left) lf_on
        ∙ ap (λ (l : List ℕ). take (length (up_to TAB file at) + suc (bytes_before LF (drop (tab_at + 1) file))) l) split
        ∙ take-append-add (up_to TAB file at) (TAB ∷ drop (tab_at + 1) file) (suc (bytes_before LF (drop (tab_at + 1) file)))

    row_on : (k : ℕ) (b : Bool) → row (suc k) b ≡ before (Some z) (cond b (numbers_within most k (fields_of (cond b (up_to LF file (tab_at + 1)) []))) None)
    unfolding numbers_within before
    row_on k true = rw (line_on, fields_tab (up_to TAB file at) (up_to LF file (tab_at + 1)) high, told.1)
    row_on k false = refl

    pub tab_number : (k : ℕ) → row_within most file at (suc k) ≡ before (Some z) (row_within most file (tab_at + 1) k)
    unfolding row_within line_at
    tab_number k = rw (← tab_place) (row_on k (ltb (place_from LF file at) (length file)))

  -- what a malformed number is: the line's first field, or a line with no tab
  module _ (e : number_to most TAB file at ≡ None) where
    abbrev line : List ℕ
    line = up_to LF file at

    module _ (found : place_from LF file at < length file) where
      line_split : left ≡ line ++ drop (bytes_before LF left) left
      line_split = sym (take-append-drop (bytes_before LF left) left)

      first_field : bytes_before TAB line < length line → numeral_within most (take (bytes_before TAB line) line) ≡ None
      unfolding number_to place_from
      first_field l =
          let same : bytes_before TAB left ≡ bytes_before TAB line =
          ap (bytes_before TAB) line_split ∙ before_append TAB line (drop (bytes_before LF left) left) l in
          let text : up_to TAB file at ≡ take (bytes_before TAB line) line =
          ap (λ (n : ℕ). take n left) same
          ∙ ap (λ (s : List ℕ). take (bytes_before TAB line) s) line_split
          ∙ take-append-le (bytes_before TAB line) line (drop (bytes_before LF left) left) (omega (arith, l)) in
          let within : at + bytes_before TAB left < length file =
          omega (arith, same, l, found, before_le LF left, length-take-le (bytes_before LF left) left (before_le LF left)) in
          ap (numeral_within most) (sym text)
          ∙ sym (ap (λ (b : Bool). cond b (numeral_within most (up_to TAB file at)) None) (lt-ltb (at + bytes_before TAB left) (length file) within))
          ∙ e

      none_by : (k : ℕ) (b : Bool) → ltb (bytes_before TAB line) (length line) ≡ b → numbers_within most (suc (suc k)) (fields_of line) ≡ None
      unfolding numbers_within before
      none_by k true t = let l = ltb-true (bytes_before TAB line) (length line) t in rw (fields_more line l, first_field l)
      none_by k false t = rw (fields_last line (ltb-false (bytes_before TAB line) (length line) t)) (before_none (numeral_within most line))

    tab_none_by : (k : ℕ) (b : Bool) → ltb (place_from LF file at) (length file) ≡ b → row (suc (suc k)) b ≡ None
    tab_none_by k true t = none_by (ltb-true (place_from LF file at) (length file) t) k (ltb (bytes_before TAB line) (length line)) refl
    tab_none_by k false t = refl

    pub tab_none : (k : ℕ) → row_within most file at (suc (suc k)) ≡ None
    unfolding row_within line_at
    tab_none k = tab_none_by k (ltb (place_from LF file at) (length file)) refl

  pub last_number : (z : ℤ) → number_to most LF file at ≡ Some z → row_within most file at 1 ≡ Some (z ∷ [])
  unfolding number_to row_within line_at numbers_within before
  last_number z e =
      let t = found_by (ltb (place_from LF file at) (length file)) (numeral_within most (up_to LF file at)) z e in
      rw (t.0, fields_plain (up_to LF file at) (numeral_high most (up_to LF file at) z t.1), t.1)

  one_by : (b : Bool) → ltb (bytes_before TAB (up_to LF file at)) (length (up_to LF file at)) ≡ b → numeral_within most (up_to LF file at) ≡ None
      → numbers_within most 1 (fields_of (up_to LF file at)) ≡ None
  unfolding numbers_within before
  one_by true t m =
      let line = up_to LF file at in let rest = drop (bytes_before TAB line + 1) line in
      rw (fields_more line (ltb-true (bytes_before TAB line) (length line) t), some_field rest most (ltb (bytes_before TAB rest) (length rest)) refl)
      (before_none (numeral_within most (take (bytes_before TAB line) line)))
  one_by false t m = let line = up_to LF file at in rw (fields_last line (ltb-false (bytes_before TAB line) (length line) t), m)

  last_by : (b : Bool) → cond b (numeral_within most (up_to LF file at)) None ≡ None → row 1 b ≡ None
  last_by true e = one_by (ltb (bytes_before TAB (up_to LF file at)) (length (up_to LF file at))) refl e
  last_by false e = refl

  pub last_none : number_to most LF file at ≡ None → row_within most file at 1 ≡ None
  unfolding number_to row_within line_at
  last_none e = last_by (ltb (place_from LF file at) (length file)) e

-- ---- the numbers read so far, and those of what is left
unfoldable pub prepend : List ℤ → Option (List ℤ) → Option (List ℤ)
prepend xs (Some zs) = Some (xs ++ zs)
prepend xs None = None

pub prepend_nothing : (o : Option (List ℤ)) → o ≡ prepend [] o
unfolding prepend
prepend_nothing (Some zs) = refl
prepend_nothing None = refl

pub prepend_more : (xs : List ℤ) (z : ℤ) (o : Option (List ℤ)) → prepend xs (before (Some z) o) ≡ prepend (xs ++ (z ∷ [])) o
unfolding prepend before
prepend_more xs z (Some zs) = ap Some (sym (append_snoc xs z zs))
prepend_more xs z None = refl

-- so far i numbers of x have been read, and what is left stands at `at`
pub record Sofar (most : ℕ) (file : List ℕ) (start count at i : ℕ) (x : List ℤ) : Type 0 where
  pub within : at ≤ length file
  pub row : row_within most file start count ≡ prepend (take i x) (row_within most file at (count - i))
  pub line : place_from LF file at ≡ place_from LF file start

pub sofar_none : (most : ℕ) (file : List ℕ) (start count : ℕ) (x : List ℤ) → start ≤ length file → Sofar most file start count start 0 x
sofar_none most file start count x l =
    let all : count - 0 ≡ count = omega arith in record { within = l; row = rw all (prepend_nothing (row_within most file start count)); line = refl }

module _ (most : ℕ) (file : List ℕ) (start count at i : ℕ) (x : List ℤ) (so : Sofar most file start count at i x) where
  -- one number more
  pub sofar_more : i < count → i < length x → {r : Read} → Reads most TAB file at r → (y : ℤ) → y ≡ r.value
      → Sofar most file start count r.next (i + 1) (set x i y)
  sofar_more l long {r} h y same =
      let one : count - i ≡ suc (count - (i + 1)) = omega (arith, l) in
      record {
        within = omega (arith, h.next, tab_within most file at r.value h.number);
        row = so.row
            ∙ ap (prepend (take i x)) (ap (row_within most file at) one ∙ tab_number most file at r.value h.number (count - (i + 1)))
            ∙ prepend_more (take i x) r.value (row_within most file (place_from TAB file at + 1) (count - (i + 1)))
            ∙ rw (same, h.next, add-one i, take-suc-set x i r.value long);
        line = ap (place_from LF file) h.next ∙ sym (tab_place most file at r.value h.number) ∙ so.line;
      }

  -- what is left is no row, so there is none
  no_row : row_within most file at (count - i) ≡ None → row_within most file start count ≡ None
  unfolding prepend
  no_row e = so.row ∙ ap (prepend (take i x)) e

  pub lost_field : i + 1 < count → number_to most TAB file at ≡ None → row_within most file start count ≡ None
  lost_field l e = let two : count - i ≡ suc (suc (count - i - 2)) = omega (arith, l) in no_row (rw two (tab_none most file at e _))

  -- the last number
  module _ (last : count ≡ i + 1) where
    one : count - i ≡ 1
    one = omega (arith, last)

    pub lost_last : number_to most LF file at ≡ None → row_within most file start count ≡ None
    lost_last e = no_row (rw one (last_none most file at e))

    pub row_done : i < length x → {r : Read} → Reads most LF file at r → (y : ℤ) → y ≡ r.value
        → row_within most file start count ≡ Some (take count (set x i y))
    unfolding prepend
    row_done long {r} h y same =
        so.row
        ∙ ap (prepend (take i x)) (ap (row_within most file at) one ∙ last_number most file at r.value h.number)
        ∙ rw (same, last, add-one i, take-suc-set x i r.value long)

    pub next_line : {r : Read} → Reads most LF file at r → r.next ≡ place_from LF file start + 1
    next_line h = h.next ∙ ap (λ (n : ℕ). n + 1) so.line

-- ---- the answer
module _ (most : ℕ) (file : List ℕ) (start count : ℕ) where
  pub row_answer : {zs : List ℤ} {next : ℕ} → row_within most file start count ≡ Some zs → next ≡ place_from LF file start + 1
      → (Some next ≡ row_end most file start count) × (zs ≡ row_values (row_within most file start count) zs)
  unfolding row_end end_of row_values
  row_answer e n = (rw (e, n), rw e)

  pub no_row_answer : row_within most file start count ≡ None → (xs : List ℤ)
      → (None ≡ row_end most file start count) × (xs ≡ row_values (row_within most file start count) xs)
  unfolding row_end end_of row_values
  no_row_answer e xs = (rw e, rw e)

-- what an answer says of the row
pub told_some : (o : Option (List ℤ)) (n next : ℕ) (xs : List ℤ) → end_of o n ≡ Some next → xs ≡ row_values o xs → (o ≡ Some xs) × (next ≡ n)
unfolding end_of row_values
told_some (Some zs) n next xs e v = (cc, cc)
told_some None n next xs e v = cc

pub told_none : (o : Option (List ℤ)) (n : ℕ) → end_of o n ≡ None → o ≡ None
unfolding end_of
told_none (Some zs) n e = cc
told_none None n e = refl

module _ (most : ℕ) (file : List ℕ) (start count : ℕ) where
  pub row_told : (next : ℕ) (xs : List ℤ) → row_end most file start count ≡ Some next → xs ≡ row_values (row_within most file start count) xs
      → (row_within most file start count ≡ Some xs) × (next ≡ place_from LF file start + 1)
  unfolding row_end
  row_told next xs e v = told_some (row_within most file start count) (place_from LF file start + 1) next xs e v

  pub no_row_told : row_end most file start count ≡ None → row_within most file start count ≡ None
  unfolding row_end
  no_row_told e = told_none (row_within most file start count) (place_from LF file start + 1) e

pub not_missing : (o : Option (List ℤ)) → missing o ≡ false → o ≡ Some (row_values o [])
unfolding row_values
not_missing (Some zs) e = refl
not_missing None e = cc
