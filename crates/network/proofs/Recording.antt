-- Laws of the record that a line is, read from its letter to its LF. Assumes nothing.
--   chain_row                          the rules' record of k numbers, field by field, is that of the row of k numbers
--   numbered_in, numbers_line, angles_line_lem   a line of numbers, by its letter and the fields behind it; C A
--   no_letter, lone, no_tab            lines that say nothing: no letter, one field alone, no tab behind the first byte
--   behind_letter                      a letter and a tab, but no C
--   c_empty, c_other, c_sides, c_sides_more, c_angles, c_angles_more   a C line, by what stands behind its tab
--   short_said, no_tab_said, numbers_said                              what the line at a start says, by its first two bytes
--   c_short, sides_said, sides_more_said, angles_said, angles_more_said, other_said   the same of a C line, by the next two; c_lines, all these
--   numbers_few, numbered_zero, numbered_none, numbered_some           the record, by the numbers that have been read
use mathlib.Core.Path.{◌≡◌, refl, sym, ◌∙◌, ap}
use mathlib.Core.Bool.{Bool, true, false, cond}
use mathlib.Core.List.{List, [], ◌∷◌}
use Prim.Native.Nat.{ℕ, zero, suc, ◌+◌, ◌-◌, ◌<◌, ◌≤◌}
use native.Mathlib.Omega.{arith}
use borrow.Author.Tests.{lt-ltb, ltb-true, eq-eqb, ne_eqb, eqb-true, eqb-false}
use lib.Dec.{eqb, ltb}
use lib.IntN.{ℤ, pos}
use lib.ListN.{length, get_or, take, drop, length-drop}
use lib.Seq.{get_or-take}
use Rattle.text.specs.Parts.{bytes_before, place_from, on_first, parted}
use Rattle.text.specs.Lines.{LF, line_at}
use Rattle.text.specs.Fields.{TAB, fields_of, field_at, letter_of}
use Rattle.text.specs.Numbers.{numeral, up_to}
use Rattle.text.specs.Rows.{before, numbers_within, numbers_in, row_within, row_at}
use Rattle.text.proofs.Parting.{place_here, place_next}
use Rattle.text.proofs.Lettering.{first_letter, line_in, one_tab, one_end, lone_field, at_lf, at_tab, no_first, other_letter, two_bytes, two_on, short_line}
use Rattle.network.specs.Records.{letter_A, letter_C, letter_D, letter_F, letter_L, letter_P, letter_R, letter_S, with, direction_line, angles_line, sides_line, condition_line, angle_line, fixed_line, side_line, line_of, record_of}
use Rattle.network.specs.Turns.{turned, turn_at, numbers_of, record_with, record_in, numbered_with, numbered_at}
use Rattle.network.specs.declared.record.Record.{Record}
use Rattle.network.specs.declared.record.Record.TheVariants.{Direction, Angles, Sides, Term}
use Rattle.std.specs.Prelude.{Option, Some, None}

-- ---- a record of so many numbers, from those of a row
-- the numbers of fields i, i + 1 and on, k of them
unfoldable chain : ℕ → ℕ → List (List ℕ) → (List ℤ → Option Record) → Option Record
chain zero i fields make = make []
chain (suc k) i fields make = with (numeral (get_or fields i [])) (λ z. chain k (suc i) fields (λ zs. make (z ∷ zs)))

unfoldable by_row : Option (List ℤ) → (List ℤ → Option Record) → Option Record
by_row (Some zs) make = make zs
by_row None make = None

with_same : (x : Option ℤ) (f g : ℤ → Option Record) → ((z : ℤ) → f z ≡ g z) → with x f ≡ with x g
unfolding with
with_same (Some z) f g e = e z
with_same None f g e = refl

shift : (k i : ℕ) (field : List ℕ) (fields : List (List ℕ)) (make : List ℤ → Option Record) → chain k (suc i) (field ∷ fields) make ≡ chain k i fields make
unfolding chain
shift zero i field fields make = refl
shift (suc k) i field fields make =
    with_same (numeral (get_or fields i [])) (λ z. chain k (suc (suc i)) (field ∷ fields) (λ zs. make (z ∷ zs))) (λ z. chain k (suc i) fields (λ zs. make (z ∷ zs)))
    (λ z. shift k (suc i) field fields (λ zs. make (z ∷ zs)))

either : {A : Type 0} (b : Bool) → ◌≡◌ {A = Option A} (cond b None None) None
either true = refl
either false = refl

by_before : (z : ℤ) (o : Option (List ℤ)) (make : List ℤ → Option Record) → by_row (before (Some z) o) make ≡ by_row o (λ zs. make (z ∷ zs))
unfolding by_row before
by_before z (Some zs) make = refl
by_before z None make = refl

next_count : (a b : ℕ) → eqb (suc a) (suc b) ≡ eqb a b
next_count a b = by_equal (eqb a b) refl
  where
    by_equal : (x : Bool) → eqb a b ≡ x → eqb (suc a) (suc b) ≡ x
    by_equal true e = eq-eqb (suc a) (suc b) (ap suc (eqb-true a b e))
    by_equal false e = ne_eqb (suc a) (suc b) (λ h. eqb-false a b e (omega arith))

chain_step : (k : ℕ) (fields : List (List ℕ)) (make : List ℤ → Option Record) (x : Option ℤ)
    → ((z : ℤ) → cond (eqb (length fields) k) (chain k 0 fields (λ zs. make (z ∷ zs))) None ≡ by_row (numbers_in k fields) (λ zs. make (z ∷ zs)))
    → cond (eqb (length fields) k) (with x (λ z. chain k 0 fields (λ zs. make (z ∷ zs)))) None ≡ by_row (before x (numbers_in k fields)) make
unfolding with before by_row
chain_step k fields make (Some z) rec = rec z ∙ sym (by_before z (numbers_in k fields) make)
chain_step k fields make None rec = either (eqb (length fields) k)

chain_row : (k : ℕ) (fields : List (List ℕ)) (make : List ℤ → Option Record) → cond (eqb (length fields) k) (chain k 0 fields make) None ≡ by_row (numbers_in k fields) make
unfolding chain by_row numbers_within
chain_row zero [] make = refl
chain_row zero (field ∷ fields) make = rw (ne_eqb (suc (length fields)) 0 (λ e. omega (arith, e)))
chain_row (suc k) [] make = rw (ne_eqb 0 (suc k) (λ e. omega (arith, e)))
chain_row (suc k) (field ∷ fields) make =
    rw (next_count (length fields) k)
    (ap (λ (r : Option Record). cond (eqb (length fields) k) r None)
    (with_same (numeral field) (λ z. chain k 1 (field ∷ fields) (λ zs. make (z ∷ zs))) (λ z. chain k 0 fields (λ zs. make (z ∷ zs))) (λ z. shift k 0 field fields (λ zs. make (z ∷ zs))))
    ∙ chain_step k fields make (numeral field) (λ z. chain_row k fields (λ zs. make (z ∷ zs))))

-- ---- a line of numbers behind its letter
unfoldable pub in_fields : (letter : ℕ) → List (List ℕ) → Option ℕ → Option Record
in_fields letter fields (Some count) = record_in letter (numbers_in count fields)
in_fields letter fields None = None

unfoldable pub numbered_in : (letter : ℕ) → List (List ℕ) → Option Record
numbered_in letter fields = in_fields letter fields (numbers_of letter)

by_same : (letter : ℕ) (o : Option (List ℤ)) (make : List ℤ → Option Record) → ((zs : List ℤ) → Some (record_with letter zs) ≡ make zs) → by_row o make ≡ record_in letter o
unfolding by_row record_in
by_same letter (Some zs) make e = sym (e zs)
by_same letter None make e = refl

numbered_by : (letter k : ℕ) (fields : List (List ℕ)) (make : List ℤ → Option Record) → numbers_of letter ≡ Some k → ((zs : List ℤ) → Some (record_with letter zs) ≡ make zs)
    → by_row (numbers_in k fields) make ≡ numbered_in letter fields
unfolding numbered_in in_fields
numbered_by letter k fields make n e = rw n (by_same letter (numbers_in k fields) make e)

module _ (line : List ℕ) (letter : ℕ) (fields : List (List ℕ)) (e : fields_of line ≡ (letter ∷ []) ∷ fields) where
  -- a line of k + 1 numbers
  of_numbers : (k : ℕ) (make : List ℤ → Option Record) → numbers_of letter ≡ Some (suc k) → ((zs : List ℤ) → Some (record_with letter zs) ≡ make zs)
      → cond (eqb (length (fields_of line)) (suc (suc k))) (chain (suc k) 0 fields make) None ≡ numbered_in letter fields
  of_numbers k make n h = rw (e, next_count (length fields) (suc k)) (chain_row (suc k) fields make ∙ numbered_by letter (suc k) fields make n h)

  abbrev Rule : Type 0
  Rule = line_of line letter ≡ numbered_in letter fields

  at_D : eqb letter letter_D ≡ true → Rule
  unfolding line_of direction_line field_at chain numbers_of record_with
  at_D d =
      rw (d, ap (λ (fs : List (List ℕ)). get_or fs 1 []) e, ap (λ (fs : List (List ℕ)). get_or fs 2 []) e, ap (λ (fs : List (List ℕ)). get_or fs 3 []) e)
      (of_numbers 2 (λ zs. Some (Direction (get_or zs 0 (pos 0)) (get_or zs 1 (pos 0)) (get_or zs 2 (pos 0)))) (rw d) (λ zs. rw d))

  module _ (d : eqb letter letter_D ≡ false) (c : eqb letter letter_C ≡ false) where
    at_P : eqb letter letter_P ≡ true → Rule
    unfolding line_of angle_line field_at chain numbers_of record_with
    at_P p =
        rw (d, c, p, ap (λ (fs : List (List ℕ)). get_or fs 1 []) e, ap (λ (fs : List (List ℕ)). get_or fs 2 []) e)
        (of_numbers 1 (λ zs. Some (Term letter_P (pos 0) (pos 0) (get_or zs 0 (pos 0)) (get_or zs 1 (pos 0)))) (rw (d, c, p))
        (λ zs. rw (d, c, p) (ap (λ (n : ℕ). Some (Term n (pos 0) (pos 0) (get_or zs 0 (pos 0)) (get_or zs 1 (pos 0)))) (eqb-true letter letter_P p))))

    module _ (p : eqb letter letter_P ≡ false) where
      at_F : eqb letter letter_F ≡ true → Rule
      unfolding line_of fixed_line field_at chain numbers_of record_with
      at_F f =
          rw (d, c, p, f, ap (λ (fs : List (List ℕ)). get_or fs 1 []) e)
          (of_numbers 0 (λ zs. Some (Term letter_F (get_or zs 0 (pos 0)) (pos 0) (pos 0) (pos 0))) (rw (d, c, p, f))
          (λ zs. rw (d, c, p, f) (ap (λ (n : ℕ). Some (Term n (get_or zs 0 (pos 0)) (pos 0) (pos 0) (pos 0))) (eqb-true letter letter_F f))))

      module _ (f : eqb letter letter_F ≡ false) where
        -- L and R alike
        side : (other : ℕ) → letter ≡ other → numbers_of letter ≡ Some 4 → side_line line other ≡ numbered_in letter fields
        unfolding side_line field_at chain record_with
        side other same n =
            rw (
              ap (λ (fs : List (List ℕ)). get_or fs 1 []) e,
              ap (λ (fs : List (List ℕ)). get_or fs 2 []) e,
              ap (λ (fs : List (List ℕ)). get_or fs 3 []) e,
              ap (λ (fs : List (List ℕ)). get_or fs 4 []) e,
            )
            (of_numbers 3 (λ zs. Some (Term other (get_or zs 0 (pos 0)) (get_or zs 1 (pos 0)) (get_or zs 2 (pos 0)) (get_or zs 3 (pos 0)))) n
            (λ zs. rw (d, c, p, f) (ap (λ (x : ℕ). Some (Term x (get_or zs 0 (pos 0)) (get_or zs 1 (pos 0)) (get_or zs 2 (pos 0)) (get_or zs 3 (pos 0)))) same)))

        at_L : eqb letter letter_L ≡ true → Rule
        unfolding line_of numbers_of
        at_L l = rw (d, c, p, f, l) (side letter_L (eqb-true letter letter_L l) (rw (d, c, p, f, l)))

        at_R : eqb letter letter_L ≡ false → eqb letter letter_R ≡ true → Rule
        unfolding line_of numbers_of
        at_R l r = rw (d, c, p, f, l, r) (side letter_R (eqb-true letter letter_R r) (rw (d, c, p, f, l, r)))

        at_none : eqb letter letter_L ≡ false → eqb letter letter_R ≡ false → Rule
        unfolding line_of numbers_of numbered_in in_fields
        at_none l r = rw (d, c, p, f, l, r)

        at_right : (x : Bool) → eqb letter letter_R ≡ x → eqb letter letter_L ≡ false → Rule
        at_right true r l = at_R l r
        at_right false r l = at_none l r

        at_sides : (x : Bool) → eqb letter letter_L ≡ x → Rule
        at_sides true l = at_L l
        at_sides false l = at_right (eqb letter letter_R) refl l

      at_fixed : (x : Bool) → eqb letter letter_F ≡ x → Rule
      at_fixed true f = at_F f
      at_fixed false f = at_sides f (eqb letter letter_L) refl

    at_terms : (x : Bool) → eqb letter letter_P ≡ x → Rule
    at_terms true p = at_P p
    at_terms false p = at_fixed p (eqb letter letter_F) refl

  by_letter : (x : Bool) → eqb letter letter_D ≡ x → eqb letter letter_C ≡ false → Rule
  by_letter true d c = at_D d
  by_letter false d c = at_terms d c (eqb letter letter_P) refl

  -- a line of numbers, of any letter but C
  numbers_line : eqb letter letter_C ≡ false → record_of line ≡ numbered_in letter fields
  unfolding record_of field_at letter_of
  numbers_line c = rw e (by_letter (eqb letter letter_D) refl c)

-- C A
angles_line_lem : (line : List ℕ) (fields : List (List ℕ)) → fields_of line ≡ (letter_C ∷ []) ∷ (letter_A ∷ []) ∷ fields → record_of line ≡ numbered_in letter_C fields
unfolding record_of line_of condition_line angles_line field_at letter_of chain numbers_of record_with
angles_line_lem line fields e =
    rw (e, next_count (suc (length fields)) 2, next_count (length fields) 1)
    (chain_row 1 fields (λ zs. Some (Angles (get_or zs 0 (pos 0)))) ∙ numbered_by letter_C 1 fields (λ zs. Some (Angles (get_or zs 0 (pos 0)))) refl (λ zs. refl))

-- ---- lines that say nothing
no_letter : (line : List ℕ) → first_letter line ≡ 0 → record_of line ≡ None
unfolding record_of line_of field_at
no_letter line e = rw e

-- one field alone
lone : (line : List ℕ) (letter : ℕ) → fields_of line ≡ (letter ∷ []) ∷ [] → record_of line ≡ None
unfolding record_of line_of direction_line condition_line angle_line fixed_line side_line field_at letter_of
lone line letter e =
    rw (
      e,
      either (eqb letter letter_R),
      either (eqb letter letter_L),
      either (eqb letter letter_F),
      either (eqb letter letter_P),
      either (eqb letter letter_C),
      either (eqb letter letter_D),
    )

-- no tab behind the letter
pub no_tab : (b c : ℕ) (r : List ℕ) → eqb c TAB ≡ false → record_of (line_in (b ∷ c ∷ r)) ≡ None
no_tab b c r t = by_end (eqb c LF) refl
  where
    by_start : (x y : Bool) → eqb b LF ≡ x → eqb b TAB ≡ y → c ≡ LF → record_of (line_in (b ∷ c ∷ r)) ≡ None
    by_start true y lf tab e = no_letter (line_in (b ∷ c ∷ r)) (at_lf b (c ∷ r) lf)
    by_start false true lf tab e = no_letter (line_in (b ∷ c ∷ r)) (at_tab b (c ∷ r) lf tab)
    by_start false false lf tab e = rw (e, one_end b lf tab r) (lone (b ∷ []) b (lone_field b lf tab))

    by_end : (x : Bool) → eqb c LF ≡ x → record_of (line_in (b ∷ c ∷ r)) ≡ None
    by_end true l = by_start (eqb b LF) (eqb b TAB) refl refl (eqb-true c LF l)
    by_end false l = no_letter (line_in (b ∷ c ∷ r)) (no_first b c r l t)

-- a letter and a tab, but no C
pub behind_letter : (b : ℕ) (r : List ℕ) → eqb b letter_C ≡ false → record_of (line_in (b ∷ TAB ∷ r)) ≡ numbered_in b (fields_of (line_in r))
unfolding numbered_in in_fields numbers_of
behind_letter b r c = by_start (eqb b LF) (eqb b TAB) refl refl
  where
    by_start : (x y : Bool) → eqb b LF ≡ x → eqb b TAB ≡ y → record_of (line_in (b ∷ TAB ∷ r)) ≡ numbered_in b (fields_of (line_in r))
    by_start true y lf tab = no_letter (line_in (b ∷ TAB ∷ r)) (at_lf b (TAB ∷ r) lf) ∙ ap (λ (n : ℕ). numbered_in n (fields_of (line_in r))) (sym (eqb-true b LF lf))
    by_start false true lf tab = no_letter (line_in (b ∷ TAB ∷ r)) (at_tab b (TAB ∷ r) lf tab) ∙ ap (λ (n : ℕ). numbered_in n (fields_of (line_in r))) (sym (eqb-true b TAB tab))
    by_start false false lf tab = numbers_line (line_in (b ∷ TAB ∷ r)) b (fields_of (line_in r)) (one_tab b lf tab r) c

-- ---- a C line, by what stands behind its tab
-- neither A nor S
no_kind : (line : List ℕ) (fields : List (List ℕ)) → fields_of line ≡ (letter_C ∷ []) ∷ fields
    → eqb (letter_of (get_or fields 0 [])) letter_A ≡ false → eqb (letter_of (get_or fields 0 [])) letter_S ≡ false → record_of line ≡ None
unfolding record_of line_of condition_line field_at letter_of
no_kind line fields e a s = rw (e, a, s)

some_step : (x : ℕ) (b : Bool) (fields : List (List ℕ)) → 1 ≤ length fields → 1 ≤ length (cond b ([] ∷ fields) (on_first x fields))
unfolding on_first
some_step x true fields h = omega arith
some_step x false [] h = h
some_step x false (field ∷ fields) h = omega arith

some_fields : (s : List ℕ) → 1 ≤ length (fields_of s)
unfolding fields_of parted
some_fields [] = omega arith
some_fields (x ∷ s) = some_step x (eqb x TAB) (parted TAB ([] ∷ []) s) (some_fields s)

-- S and a tab
sides_more : (line : List ℕ) (fields : List (List ℕ)) → fields_of line ≡ (letter_C ∷ []) ∷ (letter_S ∷ []) ∷ fields → 1 ≤ length fields → record_of line ≡ None
unfolding record_of line_of condition_line sides_line field_at letter_of
sides_more line fields e l = rw (e, ne_eqb (suc (suc (length fields))) 2 (λ z. omega (arith, z, l)))

module _ (s : List ℕ) where
  abbrev behind : List ℕ
  behind = line_in (letter_C ∷ TAB ∷ s)

  c_fields : fields_of behind ≡ (letter_C ∷ []) ∷ fields_of (line_in s)
  c_fields = one_tab letter_C refl refl s

  pub c_empty : bytes_before LF s ≡ 0 → record_of behind ≡ None
  unfolding fields_of parted letter_of
  c_empty e = no_kind behind (fields_of (line_in s)) c_fields (rw e) (rw e)

module _ (k n : ℕ) (r : List ℕ) where
  -- neither a tab nor the LF behind the kind
  c_long : eqb n LF ≡ false → eqb n TAB ≡ false → record_of (behind (k ∷ n ∷ r)) ≡ None
  c_long l t =
      let no = no_first k n r l t in
      no_kind (behind (k ∷ n ∷ r)) (fields_of (line_in (k ∷ n ∷ r))) (c_fields (k ∷ n ∷ r)) (ap (λ (x : ℕ). eqb x letter_A) no) (ap (λ (x : ℕ). eqb x letter_S) no)

  pub c_other : eqb k letter_A ≡ false → eqb k letter_S ≡ false → record_of (behind (k ∷ n ∷ r)) ≡ None
  c_other a s =
      no_kind (behind (k ∷ n ∷ r)) (fields_of (line_in (k ∷ n ∷ r))) (c_fields (k ∷ n ∷ r)) (other_letter k letter_A (n ∷ r) a refl) (other_letter k letter_S (n ∷ r) s refl)

module _ (n : ℕ) (r : List ℕ) where
  pub c_sides : n ≡ LF → record_of (behind (letter_S ∷ n ∷ r)) ≡ Some Sides
  unfolding record_of line_of condition_line sides_line field_at letter_of fields_of parted on_first bytes_before
  c_sides e = rw e

  pub c_sides_more : eqb n LF ≡ false → record_of (behind (letter_S ∷ n ∷ r)) ≡ None
  c_sides_more l = by_tab (eqb n TAB) refl
    where
      by_tab : (b : Bool) → eqb n TAB ≡ b → record_of (behind (letter_S ∷ n ∷ r)) ≡ None
      by_tab true t =
          sides_more (behind (letter_S ∷ n ∷ r)) (fields_of (line_in r))
          (c_fields (letter_S ∷ n ∷ r) ∙ ap (λ (fs : List (List ℕ)). (letter_C ∷ []) ∷ fs) (rw (eqb-true n TAB t) (one_tab letter_S refl refl r)))
          (some_fields (line_in r))
      by_tab false t = c_long letter_S n r l t

  pub c_angles : n ≡ TAB → record_of (behind (letter_A ∷ n ∷ r)) ≡ numbered_in letter_C (fields_of (line_in r))
  c_angles e =
      angles_line_lem (behind (letter_A ∷ n ∷ r)) (fields_of (line_in r))
      (c_fields (letter_A ∷ n ∷ r) ∙ ap (λ (fs : List (List ℕ)). (letter_C ∷ []) ∷ fs) (rw e (one_tab letter_A refl refl r)))

  angles_alone : n ≡ LF → record_of (behind (letter_A ∷ n ∷ r)) ≡ None
  unfolding record_of line_of condition_line angles_line field_at letter_of fields_of parted on_first bytes_before
  angles_alone e = rw e

  pub c_angles_more : eqb n TAB ≡ false → record_of (behind (letter_A ∷ n ∷ r)) ≡ None
  c_angles_more t = by_end (eqb n LF) refl
    where
      by_end : (b : Bool) → eqb n LF ≡ b → record_of (behind (letter_A ∷ n ∷ r)) ≡ None
      by_end true l = angles_alone (eqb-true n LF l)
      by_end false l = c_long letter_A n r l t

-- ---- in a file
module _ (file : List ℕ) (start : ℕ) where
  abbrev found : Bool
  found = ltb (place_from LF file start) (length file)

  abbrev behind_it : ℕ
  behind_it = place_from LF file start + 1

  said_by : (b : Bool) (said : Option Record) → record_of (up_to LF file start) ≡ said
      → cond b (turned said behind_it) None ≡ cond b (turned (record_of (cond b (up_to LF file start) [])) behind_it) None
  said_by true said e = rw e
  said_by false said e = refl

  -- what a line says, if its LF follows
  pub said_is : (said : Option Record) → record_of (up_to LF file start) ≡ said → cond found (turned said behind_it) None ≡ turn_at file start
  unfolding turn_at line_at
  said_is said e = said_by found said e

  pub said_nothing : record_of (up_to LF file start) ≡ None → None ≡ turn_at file start
  unfolding turned
  said_nothing e = sym (either found) ∙ said_is None e

  -- where no LF follows, or the line is one that says nothing
  nothing_by : (b : Bool) → found ≡ b → (place_from LF file start < length file → record_of (up_to LF file start) ≡ None) → None ≡ turn_at file start
  unfolding turn_at
  nothing_by true t h = said_nothing (h (ltb-true (place_from LF file start) (length file) t))
  nothing_by false t h = rw t

  pub nothing_if : (place_from LF file start < length file → record_of (up_to LF file start) ≡ None) → None ≡ turn_at file start
  nothing_if h = nothing_by found refl h

  -- a line of numbers
  unfoldable numbered_as : Bool → (letter : ℕ) → Option ℕ → Option Record
  numbered_as b letter (Some count) = record_in letter (cond b (numbers_in count (fields_of (cond b (up_to LF file start) []))) None)
  numbered_as b letter None = None

  as_read : (letter : ℕ) (count : Option ℕ) → numbered_with file start letter count ≡ numbered_as found letter count
  unfolding numbered_with numbered_as row_within line_at
  as_read letter (Some count) = refl
  as_read letter None = refl

  row_by : (b : Bool) (letter : ℕ) (count : Option ℕ)
      → turned (numbered_as b letter count) behind_it ≡ cond b (turned (in_fields letter (fields_of (up_to LF file start)) count) behind_it) None
  unfolding numbered_as in_fields record_in turned
  row_by true letter (Some count) = refl
  row_by false letter (Some count) = refl
  row_by b letter None = sym (either b)

  pub numbered_is : (letter : ℕ) → numbered_at file start letter ≡ cond found (turned (numbered_in letter (fields_of (up_to LF file start))) behind_it) None
  unfolding numbered_at numbered_in
  numbered_is letter = ap (λ (o : Option Record). turned o behind_it) (as_read letter (numbers_of letter)) ∙ row_by found letter (numbers_of letter)

module _ (file : List ℕ) (start : ℕ) where
  pub short_said : length file - start < 2 → None ≡ turn_at file start
  unfolding place_from record_of line_of field_at letter_of fields_of parted
  short_said l =
      nothing_if file start
      (λ h. let no : bytes_before LF (drop start file) ≡ 0 = short_line (drop start file) (omega (arith, l, length-drop start file)) (omega (arith, h, length-drop start file)) in rw no)

  module _ (l : start + 2 ≤ length file) where
    abbrev b : ℕ
    b = get_or file start 0

    abbrev c : ℕ
    c = get_or file (start + 1) 0

    line_is : up_to LF file start ≡ line_in (b ∷ c ∷ drop (start + 2) file)
    line_is = ap line_in (two_bytes file start l)

    pub no_tab_said : (c ≡ TAB → ⊥) → None ≡ turn_at file start
    no_tab_said t = said_nothing file start (ap record_of line_is ∙ no_tab b c (drop (start + 2) file) (ne_eqb c TAB t))

    -- the letter is no C
    module _ (t : c ≡ TAB) (n : b ≡ letter_C → ⊥) where
      says : record_of (up_to LF file start) ≡ numbered_in b (fields_of (up_to LF file (start + 2)))
      says = ap record_of (line_is ∙ ap (λ (x : ℕ). line_in (b ∷ x ∷ drop (start + 2) file)) t) ∙ behind_letter b (drop (start + 2) file) (ne_eqb b letter_C n)

      none_said : b ≡ LF → numbered_at file (start + 2) b ≡ None
      unfolding numbered_at numbered_with numbers_of turned
      none_said e = rw e

      said_place : (x : Bool) → eqb b LF ≡ x → numbered_at file (start + 2) b ≡ turn_at file start
      unfolding numbered_in in_fields numbers_of
      said_place true e = none_said (eqb-true b LF e) ∙ said_nothing file start (says ∙ rw (eqb-true b LF e))
      said_place false e =
          let on = two_on file start l (eqb-false b LF e) (λ z. omega (arith, z, t)) in
          numbered_is file (start + 2) b
          ∙ ap (λ (p : ℕ). cond (ltb p (length file)) (turned (numbered_in b (fields_of (up_to LF file (start + 2)))) (p + 1)) None) (sym on)
          ∙ said_is file start (numbered_in b (fields_of (up_to LF file (start + 2)))) says

      pub numbers_said : numbered_at file (start + 2) b ≡ turn_at file start
      numbers_said = said_place (eqb b LF) refl

    -- a C line
    module _ (t : c ≡ TAB) (n : b ≡ letter_C) where
      abbrev at : ℕ
      at = start + 2

      c_line : up_to LF file start ≡ behind (drop at file)
      c_line = line_is ∙ ap (λ (x : ℕ). line_in (b ∷ x ∷ drop at file)) t ∙ ap (λ (x : ℕ). line_in (x ∷ TAB ∷ drop at file)) n

      c_on : place_from LF file start ≡ place_from LF file at
      c_on = two_on file start l (λ z. omega (arith, z, n)) (λ z. omega (arith, z, t))

      pub c_short : length file - at < 2 → None ≡ turn_at file start
      unfolding place_from
      c_short s =
          nothing_if file start
          (λ h. ap record_of c_line ∙ c_empty (drop at file) (short_line (drop at file) (omega (arith, s, length-drop at file)) (omega (arith, h, c_on, l, length-drop at file))))

      module _ (m : at + 2 ≤ length file) where
        abbrev kind : ℕ
        kind = get_or file at 0

        abbrev end : ℕ
        end = get_or file (at + 1) 0

        c_two : record_of (up_to LF file start) ≡ record_of (behind (kind ∷ end ∷ drop (at + 2) file))
        c_two = ap record_of (c_line ∙ ap behind (two_bytes file at m))

        of_kind : (x : ℕ) → kind ≡ x → record_of (up_to LF file start) ≡ record_of (behind (x ∷ end ∷ drop (at + 2) file))
        of_kind x e = c_two ∙ ap (λ (k : ℕ). record_of (behind (k ∷ end ∷ drop (at + 2) file))) e

        pub sides_more_said : kind ≡ letter_S → (end ≡ LF → ⊥) → None ≡ turn_at file start
        sides_more_said k e = said_nothing file start (of_kind letter_S k ∙ c_sides_more end (drop (at + 2) file) (ne_eqb end LF e))

        pub angles_more_said : kind ≡ letter_A → (end ≡ TAB → ⊥) → None ≡ turn_at file start
        angles_more_said k e = said_nothing file start (of_kind letter_A k ∙ c_angles_more end (drop (at + 2) file) (ne_eqb end TAB e))

        pub other_said : (kind ≡ letter_A → ⊥) → (kind ≡ letter_S → ⊥) → None ≡ turn_at file start
        other_said a s = said_nothing file start (c_two ∙ c_other kind end (drop (at + 2) file) (ne_eqb kind letter_A a) (ne_eqb kind letter_S s))

        module _ (k : kind ≡ letter_S) (e : end ≡ LF) where
          sides_place : place_from LF file start ≡ at + 1
          sides_place =
              c_on ∙ place_next LF file at (omega (arith, m)) (λ z. omega (arith, z, k)) ∙ place_here LF file (at + 1) (omega (arith, m)) e

          pub sides_said : Some (record { said = Sides; next = at + 2 }) ≡ turn_at file start
          unfolding turned
          sides_said =
              ap (λ (p : ℕ). Some (record { said = Sides; next = p })) (omega (arith, sides_place))
              ∙ sym (ap (λ (x : Bool). cond x (turned (Some Sides) (place_from LF file start + 1)) None) (lt-ltb (place_from LF file start) (length file) (omega (arith, sides_place, m))))
              ∙ said_is file start (Some Sides) (of_kind letter_S k ∙ c_sides end (drop (at + 2) file) e)

        module _ (k : kind ≡ letter_A) (e : end ≡ TAB) where
          angles_place : place_from LF file (at + 2) ≡ place_from LF file start
          angles_place = sym (c_on ∙ two_on file at m (λ z. omega (arith, z, k)) (λ z. omega (arith, z, e)))

          pub angles_said : numbered_at file (at + 2) letter_C ≡ turn_at file start
          angles_said =
              numbered_is file (at + 2) letter_C
              ∙ ap (λ (p : ℕ). cond (ltb p (length file)) (turned (numbered_in letter_C (fields_of (up_to LF file (at + 2)))) (p + 1)) None) angles_place
              ∙ said_is file start _ (of_kind letter_A k ∙ c_angles end (drop (at + 2) file) e)

-- a C line, by its first four bytes
pub ruleset c_lines = (c_short, sides_said, angles_said, sides_more_said, angles_more_said, other_said)

-- ---- the numbers that have been read
one_of : {n : ℕ} (x : ℕ) → Some x ≡ Some n → 1 ≤ x → x ≤ 4 → (1 ≤ n) × (n ≤ 4)
one_of {n} x e h k = let same : x ≡ n = cc in (omega arith, omega arith)

some_of : {n : ℕ} (b : Bool) (x : ℕ) (rest : Option ℕ) → cond b (Some x) rest ≡ Some n → 1 ≤ x → x ≤ 4 → (rest ≡ Some n → (1 ≤ n) × (n ≤ 4)) → (1 ≤ n) × (n ≤ 4)
some_of true x rest e h k on = one_of x e h k
some_of false x rest e h k on = on e

pub numbers_few : {n : ℕ} (letter : ℕ) → numbers_of letter ≡ Some n → (1 ≤ n) × (n ≤ 4)
unfolding numbers_of
numbers_few letter e =
    some_of (eqb letter letter_D) 3 _ e (omega arith) (omega arith)
    (λ e. some_of (eqb letter letter_C) 1 _ e (omega arith) (omega arith)
    (λ e. some_of (eqb letter letter_P) 2 _ e (omega arith) (omega arith)
    (λ e. some_of (eqb letter letter_F) 1 _ e (omega arith) (omega arith)
    (λ e. some_of (eqb letter letter_L) 4 _ e (omega arith) (omega arith)
    (λ e. some_of (eqb letter letter_R) 4 _ e (omega arith) (omega arith) (λ e. cc))))))

-- a record has no number behind those of its letter
module _ (letter : ℕ) (x : List ℤ) (n : ℕ) where
  abbrev Same : Type 0
  Same = record_with letter (take n x) ≡ record_with letter x

  same_by : (d a p f l r : Bool) → eqb letter letter_D ≡ d → eqb letter letter_C ≡ a → eqb letter letter_P ≡ p → eqb letter letter_F ≡ f
      → cond d (Some 3) (cond a (Some 1) (cond p (Some 2) (cond f (Some 1) (cond l (Some 4) (cond r (Some 4) None))))) ≡ Some n → Same
  unfolding record_with
  same_by true a p f l r ed ec ep ef e =
      let same : 3 ≡ n = cc in
      rw (ed, sym same, get_or-take 3 x 0 (pos 0) (omega arith), get_or-take 3 x 1 (pos 0) (omega arith), get_or-take 3 x 2 (pos 0) (omega arith))
  same_by false true p f l r ed ec ep ef e = let same : 1 ≡ n = cc in rw (ed, ec, sym same, get_or-take 1 x 0 (pos 0) (omega arith))
  same_by false false true f l r ed ec ep ef e =
      let same : 2 ≡ n = cc in rw (ed, ec, ep, sym same, get_or-take 2 x 0 (pos 0) (omega arith), get_or-take 2 x 1 (pos 0) (omega arith))
  same_by false false false true l r ed ec ep ef e = let same : 1 ≡ n = cc in rw (ed, ec, ep, ef, sym same, get_or-take 1 x 0 (pos 0) (omega arith))
  same_by false false false false l r ed ec ep ef e = let same : 4 ≡ n = four l r e in rw (
    ed,
    ec,
    ep,
    ef,
    sym same,
    get_or-take 4 x 0 (pos 0) (omega arith),
    get_or-take 4 x 1 (pos 0) (omega arith),
    get_or-take 4 x 2 (pos 0) (omega arith),
    get_or-take 4 x 3 (pos 0) (omega arith),
  )
    where
      four : (l r : Bool) → cond l (Some 4) (cond r (Some 4) None) ≡ Some n → 4 ≡ n
      four true r e = cc
      four false true e = cc
      four false false e = cc

  same : numbers_of letter ≡ Some n → Same
  unfolding numbers_of
  same e =
      same_by (eqb letter letter_D) (eqb letter letter_C) (eqb letter letter_P) (eqb letter letter_F) (eqb letter letter_L) (eqb letter letter_R) refl refl refl refl e

module _ (file : List ℕ) (at letter : ℕ) where
  pub numbered_zero : numbers_of letter ≡ None → None ≡ numbered_at file at letter
  unfolding numbered_at numbered_with turned
  numbered_zero e = rw e

  module _ {n : ℕ} (e : numbers_of letter ≡ Some n) where
    pub numbered_none : row_at file at n ≡ None → None ≡ numbered_at file at letter
    unfolding numbered_at numbered_with record_in turned
    numbered_none r = rw (e, r)

    pub numbered_some : (x : List ℤ) {next : ℕ} → row_at file at n ≡ Some (take n x) → next ≡ place_from LF file at + 1
        → Some (record { said = record_with letter x; next = next }) ≡ numbered_at file at letter
    unfolding numbered_at numbered_with record_in turned
    numbered_some x r q = rw (e, r, q, same letter x n e)
