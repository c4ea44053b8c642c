-- Lines of numbers: what is read as numbers is their text, and their text is read as them. Assumes nothing.
--   signed_fields, signed_row                   the text of numbers
--   two_of, three_of, four_of                 numbers of which there are two, three or four
--   Sized                                     numbers of at most so many digits each
--   Row, numbers_told                         a line that is read as numbers: it is their text, and no longer than so many digits ask for
--   Lettered, letter_told                     the same of numbers behind a letter
--   row_within_lem, row_line                      the same of a row that stands in a file, and that it has its LF
--   behind_within_lem                             and a row behind a letter has its LF
--   written_high                              a written number has no byte below 45
--   fields_free, row_free, letter_free        the texts have no LF
--   numbers_read, letter_read                 they are read as the numbers
--   row_read                                  and where they stand in a file, with an LF behind them
use mathlib.Core.Path.{◌≡◌, refl, sym, ◌∙◌, ap}
use mathlib.Core.Bool.{Bool, true, false, cond}
use mathlib.Core.List.{List, [], ◌∷◌, ◌++◌, append-nil}
use Rattle.std.specs.Prelude.{Option, None, Some}
use Prim.Native.Nat.{ℕ, zero, suc, ◌+◌, ◌*◌, ◌<◌, ◌≤◌, ◌^◌}
use native.Mathlib.Numerals.{add-one}
use native.Mathlib.Nat.{suc-mul}
use native.Mathlib.Omega.{arith}
use borrow.Author.Tests.{eq-eqb, ne_eqb, eqb-true, ltb-true, ltb-false}
use lib.Dec.{eqb, ltb}
use lib.IntN.{ℤ, pos, nat_abs}
use lib.ListN.{length, get_or, take, drop, length-append}
use Rattle.text.specs.Parts.{bytes_before, place_from, on_first, parted}
use Rattle.text.specs.Lines.{LF, line_at}
use Rattle.text.specs.Fields.{TAB, fields_of, field_at, letter_of}
use Rattle.text.specs.Numbers.{numeral_within}
use Rattle.text.specs.Rows.{before, numbers_within, behind_within, row_within, lettered_within}
use Rattle.text.specs.Decimal.{written}
use Rattle.text.specs.Written.{signed_field}
use Rattle.text.proofs.Spanning.{High, numeral_high}
use Rattle.text.proofs.Sparing.{Free, free_both, free_high, row_written}
use Rattle.text.proofs.Rowing.{split_at_byte, fields_tab, fields_plain, fields_more, fields_last, some_field}
use Rattle.text.proofs.Lettering.{long_field}
use Rattle.text.proofs.ReadingBack.{reads_back}
use Rattle.text.proofs.WritingBack.{writes_back, numeral_small, numeral_short}

-- fields one after another; without the tab in front they are a row of numbers
unfoldable pub signed_fields : List ℤ → List ℕ
signed_fields [] = []
signed_fields (z ∷ zs) = signed_field z ++ signed_fields zs

abbrev pub signed_row : List ℤ → List ℕ
signed_row zs = drop 1 (signed_fields zs)

-- numbers of which there are so many
pub two_of : (zs : List ℤ) → length zs ≡ 2 → zs ≡ get_or zs 0 (pos 0) ∷ get_or zs 1 (pos 0) ∷ []
two_of (a ∷ b ∷ []) e = refl
two_of [] e = absurd (omega (arith, e))
two_of (a ∷ []) e = absurd (omega (arith, e))
two_of (a ∷ b ∷ c ∷ zs) e = absurd (omega (arith, e))

pub three_of : (zs : List ℤ) → length zs ≡ 3 → zs ≡ get_or zs 0 (pos 0) ∷ get_or zs 1 (pos 0) ∷ get_or zs 2 (pos 0) ∷ []
three_of (a ∷ zs) e = ap (λ (rest : List ℤ). a ∷ rest) (two_of zs (omega (arith, e)))
three_of [] e = absurd (omega (arith, e))

pub four_of : (zs : List ℤ) → length zs ≡ 4 → zs ≡ get_or zs 0 (pos 0) ∷ get_or zs 1 (pos 0) ∷ get_or zs 2 (pos 0) ∷ get_or zs 3 (pos 0) ∷ []
four_of (a ∷ zs) e = ap (λ (rest : List ℤ). a ∷ rest) (three_of zs (omega (arith, e)))
four_of [] e = absurd (omega (arith, e))

unfoldable pub Sized : (most : ℕ) → List ℤ → Type 0
Sized most [] = Unit {0}
Sized most (z ∷ zs) = (nat_abs z < 10 ^ most) × Sized most zs

-- ---- a line that is read as numbers
pub record Row (most count : ℕ) (line : List ℕ) (zs : List ℤ) : Type 0 where
  pub behind : TAB ∷ line ≡ signed_fields zs
  pub text : line ≡ signed_row zs
  pub many : length zs ≡ count
  pub sized : Sized most zs
  pub short : length line < count * (most + 2)

found_by : (b : Bool) (o : Option (List ℤ)) (zs : List ℤ) → cond b o None ≡ Some zs → (b ≡ true) × (o ≡ Some zs)
found_by true o zs e = (refl, e)
found_by false o zs e = cc

before_by : {P : Type 0} (x : Option ℤ) (o : Option (List ℤ)) (zs : List ℤ) → before x o ≡ Some zs
    → ((z : ℤ) (ys : List ℤ) → x ≡ Some z → o ≡ Some ys → zs ≡ z ∷ ys → P) → P
unfolding before
before_by (Some z) (Some ys) zs e k = k z ys refl refl (cc)
before_by (Some z) None zs e k = cc
before_by None o zs e k = cc

no_more : (most k : ℕ) (ys : List ℤ) → numbers_within most k [] ≡ Some ys → (k ≡ 0) × (ys ≡ [])
unfolding numbers_within
no_more most zero ys e = (refl, cc)
no_more most (suc k) ys e = cc

module _ (most : ℕ) (few : most ≤ 20) where
  -- the last number
  row_one : (line : List ℕ) (z : ℤ) → numeral_within most line ≡ Some z → Row most 1 line (z ∷ [])
  unfolding Sized signed_fields
  row_one line z e =
      let text : line ≡ written z ++ [] = sym (append-nil (written z) ∙ writes_back most line z e few) in
      record {
        behind = ap (λ (l : List ℕ). TAB ∷ l) text;
        text = text;
        many = refl;
        sized = (numeral_small most line z e, tt);
        short = omega (arith, numeral_short most line z e);
      }

  -- a number, a tab, and others
  row_on : (k : ℕ) (line : List ℕ) (z : ℤ) (ys : List ℤ) → bytes_before TAB line < length line
      → numeral_within most (take (bytes_before TAB line) line) ≡ Some z
      → Row most k (drop (bytes_before TAB line + 1) line) ys → Row most (suc k) line (z ∷ ys)
  unfolding Sized signed_fields
  row_on k line z ys l e r =
      let tab = bytes_before TAB line in let field = take tab line in let rest = drop (tab + 1) line in
      let split : line ≡ field ++ (TAB ∷ rest) = split_at_byte TAB line l ∙ ap (λ (m : ℕ). field ++ (TAB ∷ drop m line)) (sym (add-one tab)) in
      let text : line ≡ written z ++ signed_fields ys =
      split ∙ ap (λ (s : List ℕ). field ++ s) r.behind ∙ ap (λ (s : List ℕ). s ++ signed_fields ys) (sym (writes_back most field z e few)) in
      record {
        behind = ap (λ (s : List ℕ). TAB ∷ s) text;
        text = text;
        many = ap suc r.many;
        sized = (numeral_small most field z e, r.sized);
        short = omega (arith, ap length split, length-append field (TAB ∷ rest), numeral_short most field z e, r.short, suc-mul k (most + 2));
      }

  told_step : (k : ℕ) (line : List ℕ) (zs : List ℤ)
      → ((rest : List ℕ) (ys : List ℤ) → numbers_within most k (fields_of rest) ≡ Some ys → Row most k rest ys)
      → (b : Bool) → ltb (bytes_before TAB line) (length line) ≡ b → numbers_within most (suc k) (fields_of line) ≡ Some zs → Row most (suc k) line zs
  unfolding numbers_within
  told_step k line zs rec true t e =
      let tab = bytes_before TAB line in let l = ltb-true tab (length line) t in let rest = drop (tab + 1) line in
      before_by (numeral_within most (take tab line)) (numbers_within most k (fields_of rest)) zs
      (sym (ap (numbers_within most (suc k)) (fields_more line l)) ∙ e)
      (λ z ys p q s. rw s (row_on k line z ys l p (rec rest ys q)))
  told_step k line zs rec false t e =
      before_by (numeral_within most line) (numbers_within most k []) zs
      (sym (ap (numbers_within most (suc k)) (fields_last line (ltb-false (bytes_before TAB line) (length line) t))) ∙ e)
      (λ z ys p q s. let m = no_more most k ys q in rw (s, m.1, m.0) (row_one line z p))

  pub numbers_told : (count : ℕ) (line : List ℕ) (zs : List ℤ) → numbers_within most count (fields_of line) ≡ Some zs → Row most count line zs
  numbers_told zero line zs e =
      let n : None ≡ Some zs = sym (some_field line most (ltb (bytes_before TAB line) (length line)) refl) ∙ e in
      cc
  numbers_told (suc k) line zs e = told_step k line zs (numbers_told k) (ltb (bytes_before TAB line) (length line)) refl e

-- ---- a line that is read as a letter and numbers
pub record Lettered (most letter count : ℕ) (line : List ℕ) (zs : List ℤ) : Type 0 where
  pub text : line ≡ letter ∷ signed_fields zs
  pub many : length zs ≡ count
  pub sized : Sized most zs
  pub short : length line ≤ count * (most + 2) + 1

module _ (most letter count : ℕ) (few : most ≤ 20) (any : 0 < letter) (zs : List ℤ) where
  unlettered : {P : Type 0} (line : List ℕ) → letter_of (field_at line 0) ≡ 0 → behind_within most letter count line ≡ Some zs → P
  unfolding behind_within
  unlettered line n e =
      let x = letter_of (field_at line 0) in
      let t = found_by (eqb x letter) (numbers_within most count (drop 1 (fields_of line))) zs e in
      absurd (omega (arith, eqb-true x letter t.0, n, any))

  told_by : (b : ℕ) (fields : List (List ℕ)) (line : List ℕ) → fields_of line ≡ (b ∷ []) ∷ fields → behind_within most letter count line ≡ Some zs
      → (b ≡ letter) × (numbers_within most count fields ≡ Some zs)
  unfolding behind_within field_at letter_of
  told_by b fields line f e =
      let q : cond (eqb b letter) (numbers_within most count fields) None ≡ Some zs = rw f at e in
      let t = found_by (eqb b letter) (numbers_within most count fields) zs q in (eqb-true b letter t.0, t.1)

  one_byte : (b : ℕ) → eqb b TAB ≡ false → behind_within most letter count (b ∷ []) ≡ Some zs → Lettered most letter count (b ∷ []) zs
  unfolding fields_of parted on_first Sized signed_fields
  one_byte b t e =
      let q = told_by b [] (b ∷ []) (rw t) e in let m = no_more most count zs q.1 in
      rw (q.0, m.0, m.1) (record { text = refl; many = refl; sized = tt; short = omega arith })

  two_bytes : (b c : ℕ) (r : List ℕ) → eqb b TAB ≡ false → (x : Bool) → eqb c TAB ≡ x → behind_within most letter count (b ∷ c ∷ r) ≡ Some zs
      → Lettered most letter count (b ∷ c ∷ r) zs
  unfolding fields_of field_at parted on_first
  two_bytes b c r t true u e =
      let q = told_by b (fields_of r) (b ∷ c ∷ r) (rw (t, u)) e in let n = numbers_told most few count r zs q.1 in
      record {
        text = rw (q.0, eqb-true c TAB u) (ap (λ (s : List ℕ). letter ∷ s) n.behind);
        many = n.many;
        sized = n.sized;
        short = omega (arith, n.short);
      }
  two_bytes b c r t false u e = unlettered (b ∷ c ∷ r) (rw (t, u) (long_field b c (parted TAB ([] ∷ []) r))) e

  by_tab : (b : ℕ) (r : List ℕ) (x : Bool) → eqb b TAB ≡ x → behind_within most letter count (b ∷ r) ≡ Some zs → Lettered most letter count (b ∷ r) zs
  unfolding fields_of field_at parted letter_of
  by_tab b r true t e = unlettered (b ∷ r) (rw t) e
  by_tab b [] false t e = one_byte b t e
  by_tab b (c ∷ r) false t e = two_bytes b c r t (eqb c TAB) refl e

  pub letter_told : (line : List ℕ) → behind_within most letter count line ≡ Some zs → Lettered most letter count line zs
  unfolding fields_of field_at parted letter_of
  letter_told [] e = unlettered [] refl e
  letter_told (b ∷ r) e = by_tab b r (eqb b TAB) refl e

-- ---- in a file
module _ (most : ℕ) (few : most ≤ 20) (file : List ℕ) (at count : ℕ) (zs : List ℤ) where
  abbrev end : ℕ
  end = place_from LF file at

  module _ (e : row_within most file at count ≡ Some zs) where
    row_found : (ltb end (length file) ≡ true) × (numbers_within most count (fields_of (line_at file at)) ≡ Some zs)
    unfolding row_within
    row_found = found_by (ltb end (length file)) (numbers_within most count (fields_of (line_at file at))) zs e

    pub row_within_lem : end < length file
    row_within_lem = ltb-true end (length file) row_found.0

    pub row_line : Row most count (line_at file at) zs
    row_line = numbers_told most few count (line_at file at) zs row_found.1

  module _ (letter : ℕ) (any : 0 < letter) (e : lettered_within most file at letter count ≡ Some zs) where
    behind_found : (ltb end (length file) ≡ true) × (behind_within most letter count (line_at file at) ≡ Some zs)
    unfolding lettered_within
    behind_found = found_by (ltb end (length file)) (behind_within most letter count (line_at file at)) zs e

    pub behind_within_lem : end < length file
    behind_within_lem = ltb-true end (length file) behind_found.0

-- ---- the text of numbers
module _ (k : ℕ) (l : k < 20) where
  pub written_high : (z : ℤ) → nat_abs z < 10 ^ suc k → High (written z)
  written_high z h = numeral_high (suc k) (written z) z (reads_back k l z h)

  pub fields_free : (zs : List ℤ) → Sized (suc k) zs → Free LF (signed_fields zs)
  unfolding Sized signed_fields bytes_before
  fields_free [] s = refl
  fields_free (z ∷ zs) s =
      ap suc (free_both LF (written z) (signed_fields zs) (free_high LF (written z) (omega arith) (written_high z s.0)) (fields_free zs s.1))

  pub row_free : (zs : List ℤ) → Sized (suc k) zs → Free LF (signed_row zs)
  unfolding Sized signed_fields bytes_before
  row_free [] s = refl
  row_free (z ∷ zs) s = free_both LF (written z) (signed_fields zs) (free_high LF (written z) (omega arith) (written_high z s.0)) (fields_free zs s.1)

  pub letter_free : (letter : ℕ) → (letter ≡ LF → ⊥) → (zs : List ℤ) → Sized (suc k) zs → Free LF (letter ∷ signed_fields zs)
  unfolding bytes_before
  letter_free letter n zs s = rw (ne_eqb letter LF n) (ap suc (fields_free zs s))

  pub numbers_read : (z : ℤ) (zs : List ℤ) → Sized (suc k) (z ∷ zs) → numbers_within (suc k) (suc (length zs)) (fields_of (signed_row (z ∷ zs))) ≡ Some (z ∷ zs)
  unfolding Sized signed_fields numbers_within before
  numbers_read z [] s = rw (append-nil (written z), fields_plain (written z) (written_high z s.0), reads_back k l z s.0)
  numbers_read z (y ∷ ys) s =
      rw (fields_tab (written z) (written y ++ signed_fields ys) (written_high z s.0), reads_back k l z s.0, numbers_read y ys s.1)

  pub letter_read : (letter : ℕ) → (letter ≡ TAB → ⊥) → (zs : List ℤ) → Sized (suc k) zs
      → behind_within (suc k) letter (length zs) (letter ∷ signed_fields zs) ≡ Some zs
  unfolding behind_within field_at letter_of fields_of parted on_first signed_fields numbers_within
  letter_read letter n [] s = rw (ne_eqb letter TAB n, eq-eqb letter letter refl)
  letter_read letter n (z ∷ zs) s = rw (ne_eqb letter TAB n, eq-eqb letter letter refl) (numbers_read z zs s)

  module _ (file : List ℕ) (at : ℕ) (rest : List ℕ) where
    pub row_read : (z : ℤ) (zs : List ℤ) → Sized (suc k) (z ∷ zs) → drop at file ≡ signed_row (z ∷ zs) ++ (LF ∷ rest)
        → row_within (suc k) file at (suc (length zs)) ≡ Some (z ∷ zs)
    row_read z zs s d = row_written file at (signed_row (z ∷ zs)) rest d (row_free (z ∷ zs) s) (suc k) (suc (length zs)) ∙ numbers_read z zs s
