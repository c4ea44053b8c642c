-- Laws of the letter in a line's first field and the tab behind it. Assumes nothing.
--   first_letter, line_in                         the letter of a line, and the line that a text begins with
--   long_field                                  a first field of two bytes or more has no letter
--   one_tab, one_end, lone_field                a byte and a tab, a byte and the LF
--   at_lf, at_tab, no_first                     lines without a letter: an LF or a tab at the start, two bytes of which the second is no tab
--   other_letter                                a line that begins with another byte has another letter or none
--   two_bytes, two_on, short_line               in a file: two bytes and the rest, the LF behind them, fewer than two
--   behind_short, behind_other, behind_no_tab   no numbers behind the letter, by the first two bytes
--   behind_place, behind_row, behind_end_lem        the letter and a tab: a row stands behind them
--   no_answer, behind_told, no_behind_told      the answer where there are no such numbers; the numbers, by the answer
use mathlib.Core.Path.{◌≡◌, refl, ◌∙◌, ap}
use mathlib.Core.Bool.{Bool, true, false, cond}
use mathlib.Core.List.{List, [], ◌∷◌}
use Rattle.std.specs.Prelude.{None, Some}
use Prim.Native.Nat.{ℕ, zero, suc, ◌+◌, ◌-◌, ◌<◌, ◌≤◌}
use native.Mathlib.Omega.{arith}
use borrow.Author.Tests.{ltb-true, eq-eqb, ne_eqb, eqb-true}
use lib.Dec.{eqb, ltb}
use lib.IntN.{ℤ}
use lib.ListN.{length, get_or, take, drop, length-drop}
use lib.Seq.{drop-cons}
use Rattle.text.specs.Parts.{bytes_before, place_from, on_first, parted}
use Rattle.text.specs.Lines.{LF, line_at}
use Rattle.text.specs.Fields.{TAB, fields_of, field_at, letter_of}
use Rattle.text.specs.Numbers.{up_to}
use Rattle.text.specs.Rows.{numbers_within, behind_within, row_within, lettered_within, end_of, row_end, behind_end, row_values}
use Rattle.text.proofs.Parting.{place_next}
use Rattle.text.proofs.Rowing.{told_some, told_none}

abbrev pub first_letter : List ℕ → ℕ
first_letter line = letter_of (get_or (fields_of line) 0 [])

-- ---- the first field of a line, by its first two bytes
abbrev pub line_in : List ℕ → List ℕ
line_in s = take (bytes_before LF s) s

-- a byte before a field that is there
pub long_field : (b c : ℕ) (fields : List (List ℕ)) → letter_of (get_or (on_first b (on_first c fields)) 0 []) ≡ 0
unfolding on_first letter_of
long_field b c [] = refl
long_field b c (field ∷ fields) = rw (ne_eqb (suc (suc (length field))) 1 (λ e. omega (arith, e)))

module _ (b : ℕ) (lf : eqb b LF ≡ false) (tab : eqb b TAB ≡ false) where
  -- a tab after it
  pub one_tab : (r : List ℕ) → fields_of (line_in (b ∷ TAB ∷ r)) ≡ (b ∷ []) ∷ fields_of (line_in r)
  unfolding bytes_before fields_of parted on_first
  one_tab r = rw (lf, tab)

  -- the LF
  pub one_end : (r : List ℕ) → line_in (b ∷ LF ∷ r) ≡ b ∷ []
  unfolding bytes_before
  one_end r = rw lf

  pub lone_field : fields_of (b ∷ []) ≡ (b ∷ []) ∷ []
  unfolding fields_of parted on_first
  lone_field = rw tab

  -- another byte
  longer : (c : ℕ) (r : List ℕ) → eqb c LF ≡ false → eqb c TAB ≡ false → first_letter (line_in (b ∷ c ∷ r)) ≡ 0
  unfolding bytes_before fields_of parted
  longer c r l t = rw (lf, l, tab, t) (long_field b c (parted TAB ([] ∷ []) (take (bytes_before LF r) r)))

-- an LF or a tab at the start
pub at_lf : (b : ℕ) (r : List ℕ) → eqb b LF ≡ true → first_letter (line_in (b ∷ r)) ≡ 0
unfolding bytes_before fields_of parted letter_of
at_lf b r l = rw l

pub at_tab : (b : ℕ) (r : List ℕ) → eqb b LF ≡ false → eqb b TAB ≡ true → first_letter (line_in (b ∷ r)) ≡ 0
unfolding bytes_before fields_of parted letter_of
at_tab b r l t = rw (l, t)

-- two bytes of which the second is neither a tab nor the LF
pub no_first : (b c : ℕ) (r : List ℕ) → eqb c LF ≡ false → eqb c TAB ≡ false → first_letter (line_in (b ∷ c ∷ r)) ≡ 0
no_first b c r l t = by_start (eqb b LF) (eqb b TAB) refl refl
  where
    by_start : (x y : Bool) → eqb b LF ≡ x → eqb b TAB ≡ y → first_letter (line_in (b ∷ c ∷ r)) ≡ 0
    by_start true y lf tab = at_lf b (c ∷ r) lf
    by_start false true lf tab = at_tab b (c ∷ r) lf tab
    by_start false false lf tab = longer b lf tab c r l t

-- the letter of a line is its first byte or none, but not another
one_letter : (k x : ℕ) (fields : List (List ℕ)) → eqb k x ≡ false → eqb 0 x ≡ false → eqb (letter_of (get_or (on_first k fields) 0 [])) x ≡ false
unfolding on_first letter_of
one_letter k x [] e o = o
one_letter k x (field ∷ fields) e o = by_length (eqb (suc (length field)) 1)
  where
    by_length : (b : Bool) → eqb (cond b k 0) x ≡ false
    by_length true = e
    by_length false = o

plain_letter : (k x : ℕ) (r : List ℕ) → eqb k x ≡ false → eqb 0 x ≡ false → eqb k LF ≡ false → eqb k TAB ≡ false
    → eqb (first_letter (line_in (k ∷ r))) x ≡ false
unfolding bytes_before fields_of parted
plain_letter k x r e o lf tab = rw (lf, tab) (one_letter k x (parted TAB ([] ∷ []) (take (bytes_before LF r) r)) e o)

pub other_letter : (k x : ℕ) (r : List ℕ) → eqb k x ≡ false → eqb 0 x ≡ false → eqb (first_letter (line_in (k ∷ r))) x ≡ false
other_letter k x r e o = by_start (eqb k LF) (eqb k TAB) refl refl
  where
    by_start : (a b : Bool) → eqb k LF ≡ a → eqb k TAB ≡ b → eqb (first_letter (line_in (k ∷ r))) x ≡ false
    by_start true b lf tab = ap (λ (n : ℕ). eqb n x) (at_lf k r lf) ∙ o
    by_start false true lf tab = ap (λ (n : ℕ). eqb n x) (at_tab k r lf tab) ∙ o
    by_start false false lf tab = plain_letter k x r e o lf tab

-- ---- in a file
-- two bytes and the rest
pub two_bytes : (file : List ℕ) (start : ℕ) → start + 2 ≤ length file
    → drop start file ≡ get_or file start 0 ∷ get_or file (start + 1) 0 ∷ drop (start + 2) file
two_bytes file start l =
    let one : suc start ≡ start + 1 = omega arith in let two : suc (start + 1) ≡ start + 2 = omega arith in
    drop-cons file start 0 (omega (arith, l))
    ∙ ap (λ (n : ℕ). get_or file start 0 ∷ drop n file) one
    ∙ ap (λ (rest : List ℕ). get_or file start 0 ∷ rest)
    (drop-cons file (start + 1) 0 (omega (arith, l)) ∙ ap (λ (n : ℕ). get_or file (start + 1) 0 ∷ drop n file) two)

pub two_on : (file : List ℕ) (start : ℕ) → start + 2 ≤ length file → (get_or file start 0 ≡ LF → ⊥) → (get_or file (start + 1) 0 ≡ LF → ⊥)
    → place_from LF file start ≡ place_from LF file (start + 2)
two_on file start l a b =
    let two : start + 1 + 1 ≡ start + 2 = omega arith in
    place_next LF file start (omega (arith, l)) a ∙ place_next LF file (start + 1) (omega (arith, l)) b ∙ ap (place_from LF file) two

-- fewer than two bytes: no line, or an empty one
pub short_line : (s : List ℕ) → length s < 2 → bytes_before LF s < length s → bytes_before LF s ≡ 0
short_line s l h = omega (arith, l, h)

-- ---- the numbers behind the letter
no_numbers : (most count : ℕ) → 1 ≤ count → numbers_within most count [] ≡ None
unfolding numbers_within
no_numbers most zero l = absurd (omega arith)
no_numbers most (suc k) l = refl

module _ (most letter count : ℕ) (plain : 10 < letter) where
  no_zero : eqb 0 letter ≡ false
  no_zero = ne_eqb 0 letter (λ e. omega (arith, e, plain))

  unlettered : (line : List ℕ) → eqb (first_letter line) letter ≡ false → behind_within most letter count line ≡ None
  unfolding behind_within field_at
  unlettered line e = rw e

  lettered : (r : List ℕ) → behind_within most letter count (line_in (letter ∷ TAB ∷ r)) ≡ numbers_within most count (fields_of (line_in r))
  unfolding behind_within field_at letter_of
  lettered r =
      rw (one_tab letter (ne_eqb letter LF (λ e. omega (arith, e, plain))) (ne_eqb letter TAB (λ e. omega (arith, e, plain))) r, eq-eqb letter letter refl)

  module _ (any : 1 ≤ count) where
    alone : (r : List ℕ) → behind_within most letter count (line_in (letter ∷ LF ∷ r)) ≡ None
    unfolding behind_within field_at letter_of
    alone r =
        let lf = ne_eqb letter LF (λ e. omega (arith, e, plain)) in let tab = ne_eqb letter TAB (λ e. omega (arith, e, plain)) in
        rw (one_end letter lf tab r, lone_field letter lf tab, eq-eqb letter letter refl) (no_numbers most count any)

    untabbed : (c : ℕ) (r : List ℕ) → eqb c TAB ≡ false → behind_within most letter count (line_in (letter ∷ c ∷ r)) ≡ None
    untabbed c r t = by_end (eqb c LF) refl
      where
        by_end : (b : Bool) → eqb c LF ≡ b → behind_within most letter count (line_in (letter ∷ c ∷ r)) ≡ None
        by_end true l = rw (eqb-true c LF l) (alone r)
        by_end false l = unlettered (line_in (letter ∷ c ∷ r)) (ap (λ (n : ℕ). eqb n letter) (no_first letter c r l t) ∙ no_zero)

-- ---- in a file
module _ (most : ℕ) (file : List ℕ) (start letter count : ℕ) (plain : 10 < letter) where
  abbrev found : Bool
  found = ltb (place_from LF file start) (length file)

  none_by : (b : Bool) → found ≡ b → (place_from LF file start < length file → behind_within most letter count (up_to LF file start) ≡ None)
      → lettered_within most file start letter count ≡ None
  unfolding lettered_within line_at
  none_by true t h = rw t (h (ltb-true (place_from LF file start) (length file) t))
  none_by false t h = rw t

  pub behind_short : length file - start < 2 → lettered_within most file start letter count ≡ None
  unfolding place_from fields_of parted letter_of
  behind_short l =
      none_by found refl
      (λ h. let none : bytes_before LF (drop start file) ≡ 0 =
      short_line (drop start file) (omega (arith, l, length-drop start file)) (omega (arith, h, length-drop start file)) in
      rw none (unlettered most letter count plain [] (no_zero most letter count plain)))

  module _ (l : start + 2 ≤ length file) where
    abbrev b : ℕ
    b = get_or file start 0

    abbrev c : ℕ
    c = get_or file (start + 1) 0

    line_is : up_to LF file start ≡ line_in (b ∷ c ∷ drop (start + 2) file)
    line_is = ap line_in (two_bytes file start l)

    pub behind_other : (b ≡ letter → ⊥) → lettered_within most file start letter count ≡ None
    behind_other n =
        none_by found refl
        (λ h. ap (behind_within most letter count) line_is
        ∙ unlettered most letter count plain _ (other_letter b letter (c ∷ drop (start + 2) file) (ne_eqb b letter n) (no_zero most letter count plain)))

    module _ (same : b ≡ letter) where
      letter_is : up_to LF file start ≡ line_in (letter ∷ c ∷ drop (start + 2) file)
      letter_is = line_is ∙ ap (λ (x : ℕ). line_in (x ∷ c ∷ drop (start + 2) file)) same

      pub behind_no_tab : 1 ≤ count → (c ≡ TAB → ⊥) → lettered_within most file start letter count ≡ None
      behind_no_tab any t =
          none_by found refl (λ h. ap (behind_within most letter count) letter_is
          ∙ untabbed most letter count plain any c (drop (start + 2) file) (ne_eqb c TAB t))

      module _ (t : c ≡ TAB) where
        pub behind_place : place_from LF file start ≡ place_from LF file (start + 2)
        behind_place = two_on file start l (λ z. omega (arith, z, same, plain)) (λ z. omega (arith, z, t))

        row_by : (x : Bool)
            → cond x (behind_within most letter count (cond x (up_to LF file start) [])) None
            ≡ cond x (numbers_within most count (fields_of (cond x (up_to LF file (start + 2)) []))) None
        row_by true = ap (behind_within most letter count) (letter_is ∙ ap (λ (x : ℕ). line_in (letter ∷ x ∷ drop (start + 2) file)) t)
            ∙ lettered most letter count plain (drop (start + 2) file)
        row_by false = refl

        pub behind_row : lettered_within most file start letter count ≡ row_within most file (start + 2) count
        unfolding lettered_within row_within line_at
        behind_row = rw (← behind_place) (row_by found)

        pub behind_end_lem : row_end most file (start + 2) count ≡ behind_end most file start letter count
        unfolding row_end behind_end
        behind_end_lem = rw (behind_row, behind_place)

-- ---- the answer
module _ (most : ℕ) (file : List ℕ) (start letter count : ℕ) where
  pub no_answer : lettered_within most file start letter count ≡ None → (xs : List ℤ)
      → (None ≡ behind_end most file start letter count) × (xs ≡ row_values (lettered_within most file start letter count) xs)
  unfolding behind_end end_of row_values
  no_answer e xs = (rw e, rw e)

  pub behind_told : (next : ℕ) (xs : List ℤ) → behind_end most file start letter count ≡ Some next
      → xs ≡ row_values (lettered_within most file start letter count) xs
      → (lettered_within most file start letter count ≡ Some xs) × (next ≡ place_from LF file start + 1)
  unfolding behind_end
  behind_told next xs e v = told_some (lettered_within most file start letter count) (place_from LF file start + 1) next xs e v

  pub no_behind_told : behind_end most file start letter count ≡ None → lettered_within most file start letter count ≡ None
  unfolding behind_end
  no_behind_told e = told_none (lettered_within most file start letter count) (place_from LF file start + 1) e
