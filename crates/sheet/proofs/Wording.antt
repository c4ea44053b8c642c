-- A listing is well formed exactly where it is its own numbers, written as the adjusting program writes them. Assumes nothing.
--   entries, v_entries, k_entries             the numbers of the line at every place, and those of V and K lines
--   wording, text_is                          the text of every line; the lines in their order are a listing
--   counts_row, heading_line                  an ADJ line that is read as its counts is their text
--   lettered, row_numbered, row_there         a line that is the one due is the text of its numbers, the first of them the one due; the listing has it
--   Counted, counted                          what is known of a listing whose ADJ line is well formed
--   Formed, formed_as, row_found              and of one that is well formed; a line that is not malformed has its numbers
--   own_text                                  it is its own numbers, as they are written
--   Short, Worded, text_worded                numbers of at most 18 digits, as they are written, are a listing that is well formed, and they are its own
use mathlib.Core.Path.{◌≡◌, refl, sym, ◌∙◌, ap, ap₂, subst}
use mathlib.Core.Bool.{Bool, true, false, cond}
use mathlib.Core.List.{List, [], ◌∷◌, ◌++◌, append_assoc, append-nil}
use Rattle.std.specs.Prelude.{Option, None, Some, Ok}
use Prim.Native.Nat.{ℕ, zero, suc, ◌+◌, ◌-◌, ◌<◌, ◌≤◌, ◌^◌}
use native.Mathlib.Numerals.{add-one}
use native.Mathlib.Decide.{dec_lt}
use native.Mathlib.Omega.{arith}
use borrow.Author.Tests.{lt-ltb, le-ltb, ltb-false}
use lib.Dec.{ltb}
use lib.IntN.{ℤ, pos, nat_abs}
use lib.ListN.{length, get_or, take, drop}
use lib.Seq.{take_all}
use Rattle.exact.specs.Same.{same}
use Rattle.exact.specs.Outside.{outside}
use Rattle.exact.specs.Tabulate.{tabulate}
use Rattle.exact.proofs.Filling.{tabulate_at}
use Rattle.exact.proofs.Sameness.{same_true, same_yes}
use Rattle.exact.proofs.Searching.{Failed, not_both}
use Rattle.std.proofs.lemmas.Bool.{or_parts}
use Rattle.reply.specs.declared.Refusal.TheVariants.{Sheet}
use Rattle.reply.specs.Checks.{refuse_if, refuse_first, ◌and_then◌}
use Rattle.reply.proofs.Checking.{both_accepted, if_accepted, none_refused, refuse_none}
use Rattle.doolittle.specs.Table.{at}
use Rattle.text.specs.Decimal.{digits_of, written}
use Rattle.text.specs.Parts.{bytes_before, place_from, begins}
use Rattle.text.specs.Lines.{LF, line_at, lines_of, lines_in, line_no, bytes_of}
use Rattle.text.specs.Written.{line_end, in_order}
use Rattle.text.specs.Rows.{behind_within, row_values, missing}
use Rattle.text.proofs.Parting.{begins_split}
use Rattle.text.proofs.Sparing.{Free, free_both, line_free}
use Rattle.text.proofs.Stepping.{no_line, line_split, reached_at}
use Rattle.text.proofs.Stacking.{stacked, order_ext, order_both, lines_first, stacked_count, stacked_no, stacked_bytes}
use Rattle.text.proofs.Rowing.{not_missing}
use Rattle.text.proofs.Lining.{signed_fields, signed_row, two_of, three_of, four_of, Sized, Row, row_line, Lettered, letter_told, row_free, letter_free, letter_read, row_read}
use Rattle.listing.specs.Listing.{adj_line, v_line, k_line, v_line_of, k_line_of, accepted_listing}
use Rattle.sheet.specs.Form.{adj_head, heading_of, heading_amiss, count_no, directions_in, conditions_in, letter_due, fields_due, number_due, numbered, due_at, row_no, malformed, goes_on, form_reply, field_no, own_u, own_adjusted, own_k, own_r, own_q}
use Rattle.sheet.proofs.Forming.{heading_told, heading_within, letter_some, none_due, numbered_some, in_range}

-- ---- two, three and four fields, and the end of the line
two_fields : (a b : List ℕ) → (a ++ (9 ∷ (b ++ []))) ++ line_end ≡ a ++ (9 ∷ (b ++ line_end))
two_fields a b = append_assoc a (9 ∷ (b ++ [])) line_end ∙ ap (λ (s : List ℕ). a ++ (9 ∷ (s ++ line_end))) (append-nil b)

three_fields : (a b c rest : List ℕ) → a ++ (9 ∷ (b ++ (9 ∷ (c ++ rest)))) ≡ (a ++ (9 ∷ (b ++ (9 ∷ c)))) ++ rest
three_fields a b c rest = ap (λ (s : List ℕ). a ++ (9 ∷ s)) (sym (append_assoc b (9 ∷ c) rest)) ∙ sym (append_assoc a (9 ∷ (b ++ (9 ∷ c))) rest)

four_fields : (a b c d : List ℕ) → (a ++ (9 ∷ (b ++ (9 ∷ (c ++ (9 ∷ (d ++ []))))))) ++ line_end ≡ (a ++ (9 ∷ (b ++ (9 ∷ c)))) ++ (9 ∷ (d ++ line_end))
four_fields a b c d =
    ap (λ (s : List ℕ). s ++ line_end) (three_fields a b c (9 ∷ (d ++ []))) ∙ two_fields (a ++ (9 ∷ (b ++ (9 ∷ c)))) d

-- ---- the lines of a listing with these counts and these numbers
module _ (m n : ℕ) (u adjusted k r q : ℕ → ℤ) where
  -- the numbers of the line at place i behind the ADJ line
  unfoldable pub entries : ℕ → List ℤ
  entries i = pos (number_due m i) ∷ cond (ltb i m) (u i ∷ adjusted i ∷ []) (k (i - m) ∷ r (i - m) ∷ q (i - m) ∷ [])

  -- line h, without its LF
  unfoldable pub wording : ℕ → List ℕ
  wording zero = adj_head ++ signed_row (pos m ∷ pos n ∷ [])
  wording (suc i) = letter_due m i ∷ signed_fields (entries i)

  pub v_entries : (i : ℕ) → i < m → entries i ≡ pos (i + 1) ∷ u i ∷ adjusted i ∷ []
  unfolding entries number_due
  v_entries i l = rw (lt-ltb i m l)

  pub k_entries : (j : ℕ) → entries (m + j) ≡ pos (j + 1) ∷ k j ∷ r j ∷ q j ∷ []
  unfolding entries number_due
  k_entries j = let back : m + j - m ≡ j = omega arith in rw (le-ltb (m + j) m (omega arith), back)

  adj_line_lem : wording 0 ++ line_end ≡ adj_line m n
  unfolding wording signed_fields written
  adj_line_lem = ap (λ (s : List ℕ). adj_head ++ s) (two_fields (digits_of m) (digits_of n))

  v_line_lem : (i : ℕ) → i < m → wording (suc i) ++ line_end ≡ v_line (i + 1) (u i) (adjusted i)
  unfolding wording letter_due signed_fields written
  v_line_lem i l =
      rw (v_entries i l, lt-ltb i m l)
      (ap (λ (s : List ℕ). 86 ∷ 9 ∷ ((digits_of (i + 1) ++ (9 ∷ (written (u i) ++ (9 ∷ s)))) ++ line_end)) (append-nil (written (adjusted i))))

  k_line_lem : (j : ℕ) → wording (suc (m + j)) ++ line_end ≡ k_line (j + 1) (k j) (r j) (q j)
  unfolding wording letter_due signed_fields written
  k_line_lem j =
      rw (k_entries j, le-ltb (m + j) m (omega arith))
      (ap (λ (s : List ℕ). 75 ∷ 9 ∷ s) (four_fields (digits_of (j + 1)) (written (k j)) (written (r j)) (written (q j))))

  module _ (us ds ks rs qs : List ℤ)
      (u_is : (i : ℕ) → i < m → u i ≡ at us i) (adjusted-is : (i : ℕ) → i < m → adjusted i ≡ at ds i)
      (k_is : (j : ℕ) → j < n → k j ≡ at ks j) (r-is : (j : ℕ) → j < n → r j ≡ at rs j) (q_is : (j : ℕ) → j < n → q j ≡ at qs j) where
    pub text_is : stacked (m + n + 1) wording ≡ accepted_listing m n us ds ks rs qs
    unfolding in_order
    text_is =
        let line : ℕ → List ℕ = λ h. wording h ++ line_end in
        let first : m + n + 1 ≡ 1 + (m + n) = omega arith in
        ap (λ (h : ℕ). in_order h line) first
        ∙ order_both 1 (m + n) line
        ∙ ap (λ (s : List ℕ). s ++ in_order (m + n) (λ i. line (1 + i))) adj_line_lem
        ∙ ap (λ (s : List ℕ). adj_line m n ++ s) (order_both m n (λ i. line (1 + i)))
        ∙ ap (λ (s : List ℕ). adj_line m n ++ (s ++ in_order n (λ j. line (1 + (m + j)))))
        (order_ext m (λ i. line (1 + i)) (v_line_of us ds) (λ i l. rw (← u_is i l, ← adjusted-is i l) (ap line (omega arith) ∙ v_line_lem i l)))
        ∙ ap (λ (s : List ℕ). adj_line m n ++ (in_order m (v_line_of us ds) ++ s))
        (order_ext n (λ j. line (1 + (m + j))) (k_line_of ks rs qs) (λ j l. rw (← k_is j l, ← r-is j l, ← q_is j l) (ap line (omega arith) ∙ k_line_lem j)))

-- ---- a line that is read as its numbers
numbered_as : (number : ℕ) (o : Option (List ℤ)) (zs : List ℤ) → numbered number o ≡ Some zs → get_or zs 0 (pos 0) ≡ pos number
unfolding numbered
numbered_as number None zs e = let z : ◌≡◌ {A = ℕ} 0 1 = cc in absurd (omega arith)
numbered_as number (Some ys) zs e = by_number (same (get_or ys 0 (pos 0)) (pos number)) refl e
  where
    by_number : (t : Bool) → same (get_or ys 0 (pos 0)) (pos number) ≡ t → cond t (Some ys) None ≡ Some zs → get_or zs 0 (pos 0) ≡ pos number
    by_number true t f = let is : ys ≡ zs = cc in rw (← is) (same_true (get_or ys 0 (pos 0)) (pos number) t)
    by_number false t f = let z : ◌≡◌ {A = ℕ} 0 1 = cc in absurd (omega arith)

module _ (listing : List ℕ) where
  module _ (zs : List ℤ) (e : heading_of listing ≡ Some zs) where
    pub counts_row : Row 18 2 (line_at listing 4) zs
    counts_row = row_line 18 (omega arith) listing 4 2 zs (heading_told listing zs e).1

    heading_split : listing ≡ ((adj_head ++ line_at listing 4) ++ line_end) ++ drop (place_from LF listing 4 + 1) listing
    heading_split =
        let rest = drop (place_from LF listing 4 + 1) listing in
        begins_split adj_head listing (heading_told listing zs e).0
        ∙ ap (λ (s : List ℕ). adj_head ++ s) (line_split listing 4 (heading_within listing zs e) ∙ sym (append_assoc (line_at listing 4) line_end rest))

    pub heading_line : line_no listing 0 ≡ adj_head ++ signed_row zs
    unfolding line_no bytes_before
    heading_line =
        ap (λ (s : List ℕ). get_or (lines_of s) 0 []) heading_split
        ∙ ap (λ (lines : List (List ℕ)). get_or lines 0 []) (lines_first (adj_head ++ line_at listing 4) (drop (place_from LF listing 4 + 1) listing) (free_both LF adj_head (line_at listing 4) refl (line_free listing 4)))
        ∙ ap (λ (s : List ℕ). adj_head ++ s) counts_row.text

  module _ (i : ℕ) (zs : List ℤ) (e : row_no listing i ≡ Some zs) where
    pub lettered : Lettered 18 (letter_due (directions_in listing) i) (fields_due (directions_in listing) i) (line_no listing (i + 1)) zs
    unfolding row_no due_at
    lettered =
        let m = directions_in listing in let line = line_no listing (i + 1) in
        letter_told 18 (letter_due m i) (fields_due m i) (omega arith) (letter_some m i) zs line
        (numbered_some (number_due m i) (behind_within 18 (letter_due m i) (fields_due m i) line) zs e)

    pub row_numbered : get_or zs 0 (pos 0) ≡ pos (number_due (directions_in listing) i)
    unfolding row_no due_at
    row_numbered =
        let m = directions_in listing in
        numbered_as (number_due m i) (behind_within 18 (letter_due m i) (fields_due m i) (line_no listing (i + 1))) zs e

    -- a line that is missing is none that is due
    pub row_there : i + 1 < lines_in listing
    unfolding row_no
    row_there = by_count (dec_lt (i + 1) (lines_in listing))
      where
        no_row : lines_in listing ≤ i + 1 → None ≡ Some zs
        no_row l = sym (ap (due_at (directions_in listing) i) (no_line listing (i + 1) l) ∙ none_due (directions_in listing) i) ∙ e

        by_count : Dec (i + 1 < lines_in listing) → i + 1 < lines_in listing
        by_count (yes l) = l
        by_count (no l) = let f = no_row (omega arith) in let z : ◌≡◌ {A = ℕ} 0 1 = cc in absurd (omega arith)

-- ---- a listing whose ADJ line is well formed
pub record Counted (listing : List ℕ) : Type 0 where
  pub heading : heading_of listing ≡ Some (pos (directions_in listing) ∷ pos (conditions_in listing) ∷ [])
  pub m_least : 1 ≤ directions_in listing
  pub m_most : directions_in listing ≤ 64
  pub n_least : 1 ≤ conditions_in listing
  pub n_most : conditions_in listing ≤ 24

count_is : (listing : List ℕ) (zs : List ℤ) → heading_of listing ≡ Some zs → (k : ℕ) → count_no k listing ≡ nat_abs (get_or zs k (pos 0))
unfolding count_no row_values
count_is listing zs h k = rw h

pub counted : (listing : List ℕ) → heading_amiss (heading_of listing) ≡ false → Counted listing
unfolding heading_amiss
counted listing e = by_heading (heading_of listing) refl e
  where
    by_heading : (o : Option (List ℤ)) → heading_of listing ≡ o → heading_amiss o ≡ false → Counted listing
    by_heading None h f = not_both f
    by_heading (Some zs) h f =
        let b = or_parts (outside (pos 1) (pos 64) (get_or zs 0 (pos 0))) (outside (pos 1) (pos 24) (get_or zs 1 (pos 0))) f in
        let m-in = in_range 64 (get_or zs 0 (pos 0)) b.0 in let n-in = in_range 24 (get_or zs 1 (pos 0)) b.1 in
        let m_is = count_is listing zs h 0 in let n_is = count_is listing zs h 1 in
        record {
          heading = h ∙ ap Some (two_of zs (counts_row listing zs h).many ∙ ap₂ (λ (x y : ℤ). x ∷ y ∷ []) (m-in.0 ∙ ap pos (sym m_is)) (n-in.0 ∙ ap pos (sym n_is)));
          m_least = omega (arith, m_is, m-in.1);
          m_most = omega (arith, m_is, m-in.2);
          n_least = omega (arith, n_is, n-in.1);
          n_most = omega (arith, n_is, n-in.2);
        }

-- ---- a listing that is well formed
pub record Formed (listing : List ℕ) : Type 0 where
  pub counts : Counted listing
  pub sound : Failed (malformed listing) (directions_in listing + conditions_in listing)
  pub whole : length listing ≤ bytes_of (take (directions_in listing + conditions_in listing + 1) (lines_of listing))

-- a line that is not malformed has its numbers
pub row_found : (listing : List ℕ) (i : ℕ) → malformed listing i ≡ false → row_no listing i ≡ Some (row_values (row_no listing i) [])
unfolding malformed
row_found listing i e = not_missing (row_no listing i) e

module _ (listing : List ℕ) (e : form_reply listing ≡ Ok tt) where
  abbrev m : ℕ
  m = directions_in listing

  abbrev n : ℕ
  n = conditions_in listing

  pub formed_as : Formed listing
  unfolding form_reply goes_on
  formed_as =
      let heading = heading_amiss (heading_of listing) in let more = goes_on listing (m + n + 1) in
      let rows = refuse_first (m + n) (malformed listing) (λ i. Sheet (i + 2)) in let end = refuse_if more (Sheet (m + n + 2)) in
      let first = both_accepted (refuse_if heading (Sheet 1)) (rows and_then end) e in let last = both_accepted rows end first.1 in
      record {
        counts = counted listing (if_accepted heading (Sheet 1) first.0);
        sound = none_refused (m + n) (malformed listing) (λ i. Sheet (i + 2)) last.0;
        whole = ltb-false (bytes_of (take (m + n + 1) (lines_of listing))) (length listing) (if_accepted more (Sheet (m + n + 2)) last.1);
      }

  own_numbers : (i : ℕ) → i < m + n → row_no listing i ≡ Some (row_values (row_no listing i) [])
  own_numbers i l = row_found listing i (formed_as.sound i l)

  -- ---- every line is its own numbers
  abbrev own : ℕ → List ℕ
  own = wording m n (own_u listing) (own_adjusted listing) (own_k listing) (own_r listing) (own_q listing)

  abbrev own_entries : ℕ → List ℤ
  own_entries = entries m n (own_u listing) (own_adjusted listing) (own_k listing) (own_r listing) (own_q listing)

  own_v : (i : ℕ) → i < m → row_values (row_no listing i) [] ≡ own_entries i
  unfolding field_no fields_due number_due
  own_v i l =
      let e = own_numbers i (omega (arith, l)) in let zs = row_values (row_no listing i) [] in
      let many : length zs ≡ 3 = (lettered listing i zs e).many ∙ rw (lt-ltb i m l) in
      let first : get_or zs 0 (pos 0) ≡ pos (i + 1) = row_numbered listing i zs e ∙ rw (lt-ltb i m l) in
      three_of zs many
      ∙ ap (λ (z : ℤ). z ∷ get_or zs 1 (pos 0) ∷ get_or zs 2 (pos 0) ∷ []) first
      ∙ sym (v_entries m n (own_u listing) (own_adjusted listing) (own_k listing) (own_r listing) (own_q listing) i l)

  own_k_lem : (j : ℕ) → j < n → row_values (row_no listing (m + j)) [] ≡ own_entries (m + j)
  unfolding field_no fields_due number_due
  own_k_lem j l =
      let e = own_numbers (m + j) (omega (arith, l)) in let zs = row_values (row_no listing (m + j)) [] in
      let many : length zs ≡ 4 = (lettered listing (m + j) zs e).many ∙ rw (le-ltb (m + j) m (omega arith)) in
      let back : m + j - m ≡ j = omega arith in
      let first : get_or zs 0 (pos 0) ≡ pos (j + 1) = row_numbered listing (m + j) zs e ∙ rw (le-ltb (m + j) m (omega arith), back) in
      four_of zs many
      ∙ ap (λ (z : ℤ). z ∷ get_or zs 1 (pos 0) ∷ get_or zs 2 (pos 0) ∷ get_or zs 3 (pos 0) ∷ []) first
      ∙ sym (k_entries m n (own_u listing) (own_adjusted listing) (own_k listing) (own_r listing) (own_q listing) j)

  own_row : (i : ℕ) → i < m + n → row_values (row_no listing i) [] ≡ own_entries i
  own_row i l = by_kind (dec_lt i m)
    where
      behind : ¬ (i < m) → m + (i - m) ≡ i
      behind h = omega arith

      by_kind : Dec (i < m) → row_values (row_no listing i) [] ≡ own_entries i
      by_kind (yes h) = own_v i h
      by_kind (no h) = subst (λ (p : ℕ). row_values (row_no listing p) [] ≡ own_entries p) (behind h) (own_k_lem (i - m) (omega arith))

  own_line : (h : ℕ) → h < m + n + 1 → line_no listing h ≡ own h
  unfolding wording
  own_line zero l = heading_line listing (pos m ∷ pos n ∷ []) formed_as.counts.heading
  own_line (suc i) l =
      ap (line_no listing) (sym (add-one i))
      ∙ (lettered listing i (row_values (row_no listing i) []) (own_numbers i (omega arith))).text
      ∙ ap (λ (zs : List ℤ). letter_due m i ∷ signed_fields zs) (own_row i (omega arith))

  last_there : m + n + 1 ≤ lines_in listing
  last_there =
      let Some = formed_as.counts.m_least in let last = m + n - 1 in
      omega (arith, Some, row_there listing last (row_values (row_no listing last) []) (own_numbers last (omega (arith, Some))))

  pub own_text : listing ≡ accepted_listing m n (tabulate m (own_u listing)) (tabulate m (own_adjusted listing)) (tabulate n (own_k listing)) (tabulate n (own_r listing)) (tabulate n (own_q listing))
  own_text =
      let f = formed_as in let lines = m + n + 1 in let b = reached_at listing lines last_there in
      sym (take_all (bytes_of (take lines (lines_of listing))) listing f.whole)
      ∙ b.text
      ∙ order_ext lines (λ h. line_no listing h ++ line_end) (λ h. own h ++ line_end) (λ h l. ap (λ (s : List ℕ). s ++ line_end) (own_line h l))
      ∙ text_is m n (own_u listing) (own_adjusted listing) (own_k listing) (own_r listing) (own_q listing)
      (tabulate m (own_u listing)) (tabulate m (own_adjusted listing)) (tabulate n (own_k listing)) (tabulate n (own_r listing)) (tabulate n (own_q listing))
      (λ i l. sym (tabulate_at m (own_u listing) i (pos 0) l))
      (λ i l. sym (tabulate_at m (own_adjusted listing) i (pos 0) l))
      (λ j l. sym (tabulate_at n (own_k listing) j (pos 0) l))
      (λ j l. sym (tabulate_at n (own_r listing) j (pos 0) l))
      (λ j l. sym (tabulate_at n (own_q listing) j (pos 0) l))

-- ---- numbers as they are written
letter_high : (m i : ℕ) → LF < letter_due m i
unfolding letter_due
letter_high m i = by_kind (ltb i m)
  where
    by_kind : (b : Bool) → LF < cond b 86 75
    by_kind true = omega arith
    by_kind false = omega arith

-- at most 18 digits
abbrev pub Short : (count : ℕ) → List ℤ → Type 0
Short count zs = (i : ℕ) → i < count → nat_abs (at zs i) < 10 ^ 18

pub record Worded (m n : ℕ) (u adjusted k r q : List ℤ) (listing : List ℕ) : Type 0 where
  pub form : form_reply listing ≡ Ok tt
  pub directions : directions_in listing ≡ m
  pub conditions : conditions_in listing ≡ n
  pub own_u_lem : (i : ℕ) → i < m → own_u listing i ≡ at u i
  pub own_adjusted_lem : (i : ℕ) → i < m → own_adjusted listing i ≡ at adjusted i
  pub own_k_lem : (j : ℕ) → j < n → own_k listing j ≡ at k j
  pub own_r_lem : (j : ℕ) → j < n → own_r listing j ≡ at r j
  pub own_q_lem : (j : ℕ) → j < n → own_q listing j ≡ at q j

within_range : (high z : ℕ) → 1 ≤ z → z ≤ high → outside (pos 1) (pos high) (pos z) ≡ false
within_range high z l m = rw (le-ltb z 1 l, le-ltb high z m)

module _ (m n : ℕ) (u adjusted k r q : List ℤ) (m_least : 1 ≤ m) (m_most : m ≤ 64) (n_least : 1 ≤ n) (n_most : n ≤ 24)
    (u-short : Short m u) (adjusted-short : Short m adjusted) (k-short : Short n k) (r-short : Short n r) (q-short : Short n q) where
  abbrev given : List ℕ
  given = accepted_listing m n u adjusted k r q

  abbrev numbers : ℕ → List ℤ
  numbers = entries m n (at u) (at adjusted) (at k) (at r) (at q)

  abbrev line : ℕ → List ℕ
  line = wording m n (at u) (at adjusted) (at k) (at r) (at q)

  given_is : stacked (m + n + 1) line ≡ given
  given_is = text_is m n (at u) (at adjusted) (at k) (at r) (at q) u adjusted k r q (λ i l. refl) (λ i l. refl) (λ j l. refl) (λ j l. refl) (λ j l. refl)

  record Known (i : ℕ) : Type 0 where
    pub many : length (numbers i) ≡ fields_due m i
    pub sized : Sized 18 (numbers i)
    pub first : get_or (numbers i) 0 (pos 0) ≡ pos (number_due m i)

  v_known : (i : ℕ) → i < m → Known i
  unfolding entries fields_due number_due Sized
  v_known i l = record { many = rw (lt-ltb i m l); sized = rw (lt-ltb i m l) (omega arith, (u-short i l, (adjusted-short i l, tt))); first = refl }

  k_known : (j : ℕ) → j < n → Known (m + j)
  unfolding entries fields_due number_due Sized
  k_known j l =
      let back : m + j - m ≡ j = omega arith in let past = le-ltb (m + j) m (omega arith) in
      record { many = rw past; sized = rw (past, back) (omega arith, (k-short j l, (r-short j l, (q-short j l, tt)))); first = refl }

  known : (i : ℕ) → i < m + n → Known i
  known i l = by_kind (dec_lt i m)
    where
      behind : ¬ (i < m) → m + (i - m) ≡ i
      behind h = omega arith

      by_kind : Dec (i < m) → Known i
      by_kind (yes h) = v_known i h
      by_kind (no h) = subst Known (behind h) (k_known (i - m) (omega arith))

  counts_sized : Sized 18 (pos m ∷ pos n ∷ [])
  unfolding Sized
  counts_sized = (omega arith, (omega arith, tt))

  line_free_of : (h : ℕ) → h < m + n + 1 → Free LF (line h)
  unfolding wording bytes_before
  line_free_of zero l = free_both LF adj_head (signed_row (pos m ∷ pos n ∷ [])) refl (row_free 17 (omega arith) (pos m ∷ pos n ∷ []) counts_sized)
  line_free_of (suc i) l =
      letter_free 17 (omega arith) (letter_due m i) (λ e. omega (arith, letter_high m i)) (numbers i) (known i (omega arith)).sized

  heading_is : heading_of given ≡ Some (pos m ∷ pos n ∷ [])
  unfolding heading_of begins signed_fields written
  heading_is =
      let rest = in_order m (v_line_of u adjusted) ++ in_order n (k_line_of k r q) in let row = digits_of m ++ (9 ∷ (digits_of n ++ [])) in
      row_read 17 (omega arith) given 4 rest (pos m) (pos n ∷ []) counts_sized
      (sym (sym (append_assoc row line_end rest) ∙ ap (λ (s : List ℕ). s ++ rest) (two_fields (digits_of m) (digits_of n))))

  m_is : directions_in given ≡ m
  m_is = count_is given (pos m ∷ pos n ∷ []) heading_is 0

  n_is : conditions_in given ≡ n
  n_is = count_is given (pos m ∷ pos n ∷ []) heading_is 1

  line_is : (h : ℕ) → h < m + n + 1 → line_no given h ≡ line h
  line_is h l = ap (λ (s : List ℕ). line_no s h) (sym given_is) ∙ stacked_no (m + n + 1) line line_free_of h l

  due : (i : ℕ) → i < m + n → due_at m i (line (suc i)) ≡ Some (numbers i)
  unfolding due_at numbered wording
  due i l =
      let x = known i l in let letter = letter_due m i in
      ap (λ (count : ℕ). numbered (number_due m i) (behind_within 18 letter count (letter ∷ signed_fields (numbers i)))) (sym x.many)
      ∙ ap (numbered (number_due m i)) (letter_read 17 (omega arith) letter (λ e. omega (arith, letter_high m i)) (numbers i) x.sized)
      ∙ rw (same_yes x.first)

  row : (i : ℕ) → i < m + n → row_no given i ≡ Some (numbers i)
  unfolding row_no
  row i l =
      ap (λ (d : ℕ). due_at d i (line_no given (i + 1))) m_is
      ∙ ap (due_at m i) (line_is (i + 1) (omega arith) ∙ ap line (add-one i))
      ∙ due i l

  all_bytes : bytes_of (take (m + n + 1) (lines_of given)) ≡ length given
  all_bytes =
      let lines = m + n + 1 in
      subst (λ (s : List ℕ). bytes_of (take lines (lines_of s)) ≡ length s) given_is
      (ap bytes_of (take_all lines (lines_of (stacked lines line)) (omega (arith, stacked_count lines line line_free_of)))
      ∙ stacked_bytes lines line line_free_of)

  form_is : form_reply given ≡ Ok tt
  unfolding form_reply malformed goes_on heading_amiss
  form_is =
      rw (
        heading_is,
        m_is,
        n_is,
        within_range 64 m m_least m_most,
        within_range 24 n n_least n_most,
        refuse_none (m + n) (malformed given) (λ i. Sheet (i + 2)) (λ i l. ap missing (row i l)),
        all_bytes,
        le-ltb (length given) (length given) (omega arith),
      )

  field : (h i : ℕ) → i < m + n → field_no h given i ≡ get_or (numbers i) h (pos 0)
  unfolding field_no row_values
  field h i l = rw (row i l)

  v_field : (h i : ℕ) → i < m → field_no h given i ≡ get_or (pos (i + 1) ∷ at u i ∷ at adjusted i ∷ []) h (pos 0)
  v_field h i l = field h i (omega arith) ∙ ap (λ (zs : List ℤ). get_or zs h (pos 0)) (v_entries m n (at u) (at adjusted) (at k) (at r) (at q) i l)

  k_field : (h j : ℕ) → j < n → field_no h given (directions_in given + j) ≡ get_or (pos (j + 1) ∷ at k j ∷ at r j ∷ at q j ∷ []) h (pos 0)
  k_field h j l =
      ap (λ (d : ℕ). field_no h given (d + j)) m_is
      ∙ field h (m + j) (omega arith)
      ∙ ap (λ (zs : List ℤ). get_or zs h (pos 0)) (k_entries m n (at u) (at adjusted) (at k) (at r) (at q) j)

  pub text_worded : Worded m n u adjusted k r q given
  text_worded = record {
    form = form_is;
    directions = m_is;
    conditions = n_is;
    own_u_lem = v_field 1;
    own_adjusted_lem = v_field 2;
    own_k_lem = k_field 1;
    own_r_lem = k_field 2;
    own_q_lem = k_field 3;
  }
