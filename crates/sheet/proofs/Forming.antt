-- Laws of a listing's lines, read one after another. Assumes nothing.
--   heading_row, no_heading                the counts of a listing that begins with the word of its ADJ line, or does not
--   in_range, heading_refused, none_refused, first_refused, second_refused, directions_number, conditions_number, headed   without counts, with counts out of range or in it
--   heading_told, heading_within           and what is known of one that has counts; word_place, heading_reached: its first line
--   line_none, line_other, line_same       the line of a letter, by what the reader of its numbers answers and by its own number
--   due_v, due_k                           which line is due at a place
--   letter_some, fields_most, none_due, numbered_some   its letter, how many numbers it has; an empty line is none; a numbered line has its numbers
--   due_here, due_within                   the line at a start is the listing's line there
--   Begun, begun_none, begun_more, begun_put   i lines behind the ADJ line have been read, each the one due, and their numbers stand in their places
--   refused_by, given_by                   a line that is asked for under a refusal: there is none, and this is the refusal, or it is given
--   broken, goes_on_lem, all_read              the next line is not the one due; bytes behind the last; nothing behind it
use mathlib.Core.Path.{◌≡◌, refl, sym, ◌∙◌, ap, subst}
use mathlib.Core.Bool.{Bool, true, false, cond}
use mathlib.Core.List.{List, [], ◌++◌}
use Rattle.std.specs.Prelude.{Option, None, Some, Ok, Err}
use Rattle.std.specs.Option.{ok_or}
use Prim.Native.Nat.{ℕ, ◌+◌, ◌*◌, ◌-◌, ◌<◌, ◌≤◌}
use native.Mathlib.Nat.{zero-add}
use native.Mathlib.Decide.{dec_lt}
use native.Mathlib.Omega.{arith}
use borrow.Author.Tests.{lt-ltb, le-ltb, ltb-true, ltb-false, ne_eqb}
use lib.Dec.{ltb}
use lib.IntN.{ℤ, pos, negsuc, nat_abs}
use lib.Signed.{lt_z}
use lib.ListN.{length, get_or, take, drop}
use lib.Seq.{get_or-drop, get_or-take, drop_at, take-append-le, length-take-le}
use borrow.Rule.Slice.PartMut.{mid_of, post_of, put_mid, same_len_mid, take_put}
use Rattle.exact.specs.Same.{same}
use Rattle.exact.specs.Outside.{outside}
use Rattle.exact.proofs.Order.{lt_false, lt_le, from_one}
use Rattle.exact.proofs.Searching.{Failed, failed_none, failed_more, not_both}
use Rattle.std.proofs.lemmas.Bool.{or_parts, or_right}
use Rattle.reply.specs.declared.Refusal.{Refusal}
use Rattle.reply.specs.declared.Refusal.TheVariants.{Sheet}
use Rattle.reply.proofs.Checking.{refuse_at, refuse_none}
use Rattle.condition.specs.Sound.{Number}
use Rattle.text.specs.Parts.{bytes_before, place_from, parted, begins}
use Rattle.text.specs.Lines.{LF, line_at, line_no, lines_of, bytes_of}
use Rattle.text.specs.Fields.{fields_of, field_at, letter_of}
use Rattle.text.specs.Rows.{behind_within, row_within, lettered_within, row_values, missing, end_of}
use Rattle.text.proofs.Parting.{begins_split}
use Rattle.text.proofs.Sparing.{before_free}
use Rattle.text.proofs.Stepping.{Reached, reached_none, line_here, reached_more, line_missing}
use Rattle.text.proofs.Lining.{row_within_lem, behind_within_lem}
use Rattle.sheet.specs.Form.{adj_head, heading_of, heading_amiss, count_no, letter_due, fields_due, number_due, numbered, due_at, row_no, malformed, goes_on, form_reply, field_no}
use Rattle.sheet.specs.Inner.{due_from, Headed, number_at, Entered, WellFormed}

-- two answers of which one has numbers
abbrev count : Option (List ℤ) → ℕ
count (Some zs) = 1
count None = 0

nothing : {A : Type 0} (zs : List ℤ) → None ≡ Some zs → A
nothing zs e = absurd (omega (arith, ap count e))

-- ---- the ADJ line
module _ (listing : List ℕ) where
  pub heading_row : begins adj_head listing ≡ true → heading_of listing ≡ row_within 18 listing 4 2
  unfolding heading_of
  heading_row e = rw e

  pub no_heading : begins adj_head listing ≡ false → heading_of listing ≡ None
  unfolding heading_of
  no_heading e = rw e

  module _ (zs : List ℤ) (e : heading_of listing ≡ Some zs) where
    by_word : (b : Bool) → cond b (row_within 18 listing 4 2) None ≡ Some zs → (b ≡ true) × (row_within 18 listing 4 2 ≡ Some zs)
    by_word true f = (refl, f)
    by_word false f = nothing zs f

    pub heading_told : (begins adj_head listing ≡ true) × (row_within 18 listing 4 2 ≡ Some zs)
    unfolding heading_of
    heading_told = by_word (begins adj_head listing) e

    pub heading_within : place_from LF listing 4 < length listing
    heading_within = row_within_lem 18 (omega arith) listing 4 2 zs heading_told.1

  -- no LF stands in the word
  pub word_place : begins adj_head listing ≡ true → place_from LF listing 0 ≡ place_from LF listing 4
  unfolding place_from bytes_before
  word_place e = zero-add (bytes_before LF listing) ∙ ap (bytes_before LF) (begins_split adj_head listing e) ∙ before_free LF adj_head (drop 4 listing) refl

  pub heading_reached : begins adj_head listing ≡ true → place_from LF listing 4 < length listing → Reached listing (place_from LF listing 4 + 1) 1
  heading_reached e l =
      let same = word_place e in
      subst (λ (p : ℕ). Reached listing (p + 1) 1) same (reached_more listing (reached_none listing) (omega (arith, same, l)))

-- a count that is in range
pub in_range : (high : ℕ) (z : ℤ) → outside (pos 1) (pos high) z ≡ false → (z ≡ pos (nat_abs z)) × (1 ≤ nat_abs z) × (nat_abs z ≤ high)
in_range high (pos n) e = let b = or_parts (ltb n 1) (ltb high n) e in (refl, ltb-false n 1 b.0, ltb-false high n b.1)
in_range high (negsuc n) e = not_both e

counted : (most : ℕ) (z : ℤ) → outside (pos 1) (pos most) z ≡ false → Number most z
counted most z e = record { low = lt_le (from_one z (lt_false (or_parts (lt_z z (pos 1)) (lt_z (pos most) z) e).0 refl refl)); high = (in_range most z e).2 }

module _ (listing : List ℕ) where
  pub heading_refused : heading_amiss (heading_of listing) ≡ true → form_reply listing ≡ Err (Sheet 1)
  unfolding form_reply
  heading_refused e = rw e

  pub none_refused : heading_of listing ≡ None → form_reply listing ≡ Err (Sheet 1)
  unfolding heading_amiss
  none_refused e = heading_refused (ap heading_amiss e)

  module _ (zs : List ℤ) (e : heading_of listing ≡ Some zs) where
    abbrev m : ℤ
    m = get_or zs 0 (pos 0)

    abbrev n : ℤ
    n = get_or zs 1 (pos 0)

    pub first_refused : outside (pos 1) (pos 64) m ≡ true → form_reply listing ≡ Err (Sheet 1)
    unfolding heading_amiss
    first_refused f = heading_refused (ap heading_amiss e ∙ rw f)

    pub second_refused : outside (pos 1) (pos 24) n ≡ true → form_reply listing ≡ Err (Sheet 1)
    unfolding heading_amiss
    second_refused f = heading_refused (ap heading_amiss e ∙ or_right (outside (pos 1) (pos 64) m) (outside (pos 1) (pos 24) n) f)

    module _ (f : outside (pos 1) (pos 64) m ≡ false) (g : outside (pos 1) (pos 24) n ≡ false) where
      pub directions_number : Number 64 m
      directions_number = counted 64 m f

      pub conditions_number : Number 24 n
      conditions_number = counted 24 n g

      pub headed : (start : ℕ) → start ≡ place_from LF listing 4 + 1 → Headed listing start (nat_abs m) (nat_abs n)
      unfolding heading_amiss count_no row_values
      headed start at = record {
        sound = ap heading_amiss e ∙ rw (f, g);
        m_is = rw e;
        n_is = rw e;
        m_most = directions_number.high;
        n_most = conditions_number.high;
        start_is = at;
        within = heading_within listing zs e;
        begun = (heading_told listing zs e).0;
      }

-- ---- a line, by its letter, its numbers and the first of them
module _ (number next : ℕ) (o : Option (List ℤ)) (xs : List ℤ) where
  pub line_none : o ≡ None → (None ≡ end_of (numbered number o) next) × (xs ≡ row_values (numbered number o) xs)
  unfolding numbered end_of row_values
  line_none e = rw e (refl, refl)

  pub line_other : o ≡ Some xs → same (get_or xs 0 (pos 0)) (pos number) ≡ false → (None ≡ end_of (numbered number o) next) × (xs ≡ row_values (numbered number o) xs)
  unfolding numbered end_of row_values
  line_other e f = rw (e, f) (refl, refl)

  pub line_same : (after : ℕ) → o ≡ Some xs → same (get_or xs 0 (pos 0)) (pos number) ≡ true → after ≡ next
      → (Some after ≡ end_of (numbered number o) next) × (xs ≡ row_values (numbered number o) xs)
  unfolding numbered end_of row_values
  line_same after e f n = rw (e, f, n) (refl, refl)

-- ---- the line that is due
module _ (listing : List ℕ) (start m i : ℕ) where
  pub due_v : i < m → (due_from listing start m i ≡ numbered (i + 1) (lettered_within 18 listing start 86 3)) × (fields_due m i ≡ 3)
  unfolding due_from letter_due fields_due number_due
  due_v l = rw (lt-ltb i m l) (refl, refl)

  pub due_k : m ≤ i → (due_from listing start m i ≡ numbered (i - m + 1) (lettered_within 18 listing start 75 4)) × (fields_due m i ≡ 4)
  unfolding due_from letter_due fields_due number_due
  due_k l = rw (le-ltb i m l) (refl, refl)

-- a V or a K
pub letter_some : (m i : ℕ) → 0 < letter_due m i
unfolding letter_due
letter_some m i = by_place (ltb i m)
  where
    by_place : (b : Bool) → 0 < cond b 86 75
    by_place true = omega arith
    by_place false = omega arith

pub fields_most : (m i : ℕ) → fields_due m i ≤ 4
unfolding fields_due
fields_most m i = by_place (ltb i m)
  where
    by_place : (b : Bool) → cond b 3 4 ≤ 4
    by_place true = omega arith
    by_place false = omega arith

-- an empty line is none that can be due
pub none_due : (m i : ℕ) → due_at m i [] ≡ None
unfolding due_at numbered behind_within field_at fields_of parted letter_of
none_due m i = rw (ne_eqb 0 (letter_due m i) (λ e. omega (arith, e, letter_some m i)))

pub numbered_some : (number : ℕ) (o : Option (List ℤ)) (zs : List ℤ) → numbered number o ≡ Some zs → o ≡ Some zs
unfolding numbered
numbered_some number None zs e = nothing zs e
numbered_some number (Some ys) zs e = by_number (same (get_or ys 0 (pos 0)) (pos number)) e
  where
    by_number : (t : Bool) → cond t (Some ys) None ≡ Some zs → Some ys ≡ Some zs
    by_number true f = f
    by_number false f = nothing zs f

module _ {listing : List ℕ} (m i : ℕ) {start : ℕ} (b : Reached listing start (i + 1)) where
  -- the line has its LF, or there is none
  here_by : (found : Bool) → ltb (place_from LF listing start) (length listing) ≡ found
      → numbered (number_due m i) (cond found (behind_within 18 (letter_due m i) (fields_due m i) (line_at listing start)) None) ≡ due_at m i (line_no listing (i + 1))
  unfolding due_at numbered
  here_by true t = rw (line_here listing b (ltb-true (place_from LF listing start) (length listing) t))
  here_by false t = sym (ap (due_at m i) (line_missing listing b (ltb-false (place_from LF listing start) (length listing) t)) ∙ none_due m i)

  pub due_here : due_from listing start m i ≡ due_at m i (line_no listing (i + 1))
  unfolding due_from lettered_within
  due_here = here_by (ltb (place_from LF listing start) (length listing)) refl

  pub due_within : (zs : List ℤ) → due_from listing start m i ≡ Some zs → place_from LF listing start < length listing
  unfolding due_from
  due_within zs e = behind_within_lem 18 (omega arith) listing start (fields_due m i) zs (letter_due m i) (letter_some m i) (numbered_some (number_due m i) (lettered_within 18 listing start (letter_due m i) (fields_due m i)) zs e)

-- ---- all of them
module _ {listing : List ℕ} {first m n : ℕ} (h : Headed listing first m n) where
  -- i lines behind the ADJ line have been read, and the next one starts at `next`
  pub record Begun (next i : ℕ) (x : List ℤ) : Type 0 where
    pub reached : Reached listing next (i + 1)
    pub sound : Failed (malformed listing) i
    pub entered : Entered listing m i x
    pub long : length x ≡ 352

  pub begun_none : (x : List ℤ) → length x ≡ 352 → Begun first 0 x
  begun_none x l = record {
    reached = subst (λ (p : ℕ). Reached listing p 1) (sym h.start_is) (heading_reached listing h.begun h.within);
    sound = failed_none (malformed listing);
    entered = λ i a k b. absurd (omega arith);
    long = l;
  }

  module _ {next i : ℕ} {x : List ℤ} (b : Begun next i x) where
    row_is : due_from listing next m i ≡ row_no listing i
    unfolding row_no
    row_is = due_here m i b.reached ∙ ap (λ (d : ℕ). due_at d i (line_no listing (i + 1))) h.m_is

    pub broken : i < m + n → due_from listing next m i ≡ None → form_reply listing ≡ Err (Sheet (i + 2))
    unfolding form_reply malformed
    broken l e =
        rw (h.sound, ← h.m_is, ← h.n_is, refuse_at (m + n) (malformed listing) (λ i. Sheet (i + 2)) i l b.sound (ap missing (sym row_is ∙ e)))

    module _ (zs : List ℤ) (e : due_from listing next m i ≡ Some zs) (y : List ℤ) (long : length y ≡ 352)
        (before : (j : ℕ) → j < 4 * i → get_or y j (pos 0) ≡ get_or x j (pos 0)) (here : take (fields_due m i) (drop (4 * i) y) ≡ zs) where
      field_here : (k : ℕ) → k < fields_due m i → number_at y i k ≡ field_no k listing i
      unfolding field_no row_values
      field_here k l =
          rw (sym row_is ∙ e, ← here)
          (sym (get_or-drop (4 * i) y k (pos 0)) ∙ sym (get_or-take (fields_due m i) (drop (4 * i) y) k (pos 0) l))

      entered_more : Entered listing m (i + 1) y
      entered_more j a k l = by_place (dec_lt j i)
        where
          last : ¬ (j < i) → j ≡ i
          last g = omega arith

          by_place : Dec (j < i) → number_at y j k ≡ field_no k listing j
          by_place (yes g) = before (4 * j + k) (omega (arith, g, l, fields_most m j)) ∙ b.entered j g k l
          by_place (no g) = subst (λ (p : ℕ). number_at y p k ≡ field_no k listing p) (sym (last g)) (field_here k (subst (λ (p : ℕ). k < fields_due m p) (last g) l))

      pub begun_more : Begun (place_from LF listing next + 1) (i + 1) y
      unfolding malformed
      begun_more = record {
        reached = reached_more listing b.reached (due_within m i b.reached zs e);
        sound = failed_more (malformed listing) i b.sound (ap missing (sym row_is ∙ e));
        entered = entered_more;
        long = long;
      }

    -- the same, where the numbers have been read into a part of the list
    pub begun_put : (zs ys : List ℤ) (at k : ℕ) → at ≡ 4 * i → at ≤ length x → length ys ≡ length (mid_of at k x) → due_from listing next m i ≡ Some zs
        → take (fields_due m i) ys ≡ zs → fields_due m i ≤ length ys → Begun (place_from LF listing next + 1) (i + 1) (put_mid at k x ys)
    begun_put zs ys at k a l same e here f =
        begun_more zs e (put_mid at k x ys) (same_len_mid at k x ys same ∙ b.long)
        (λ j g. let h : j < at = omega arith in sym (get_or-take at (put_mid at k x ys) j (pos 0) h) ∙ ap (λ (z : List ℤ). get_or z j (pos 0)) (take_put at k x ys l) ∙ get_or-take at x j (pos 0) h)
        (ap (λ (p : ℕ). take (fields_due m i) (drop p (put_mid at k x ys))) (sym a)
        ∙ ap (take (fields_due m i)) (drop_at (take at x) (ys ++ post_of at k x) at (length-take-le at x l))
        ∙ take-append-le (fields_due m i) ys (post_of at k x) f
        ∙ here)

    module _ (all : i ≡ m + n) where
      sound_all : Failed (malformed listing) (m + n)
      sound_all = subst (Failed (malformed listing)) all b.sound

      bytes_all : next ≡ bytes_of (take (m + n + 1) (lines_of listing))
      bytes_all = b.reached.bytes ∙ ap (λ (l : ℕ). bytes_of (take (l + 1) (lines_of listing))) all

      pub goes_on_lem : next < length listing → form_reply listing ≡ Err (Sheet (m + n + 2))
      unfolding form_reply goes_on
      goes_on_lem l =
          rw (h.sound, ← h.m_is, ← h.n_is, refuse_none (m + n) (malformed listing) (λ i. Sheet (i + 2)) sound_all, ← bytes_all, lt-ltb next (length listing) l)

      pub all_read : length listing ≤ next → WellFormed listing m n x
      unfolding form_reply goes_on
      all_read l = record {
        passed = rw (h.sound, ← h.m_is, ← h.n_is, refuse_none (m + n) (malformed listing) (λ i. Sheet (i + 2)) sound_all, ← bytes_all, le-ltb next (length listing) l);
        m_is = h.m_is;
        n_is = h.n_is;
        m_most = h.m_most;
        n_most = h.n_most;
        entered = subst (λ (lines : ℕ). Entered listing m lines x) all b.entered;
      }

-- ---- a line asked for under a refusal
pub refused_by : (x : Option ℕ) (why given : Refusal) → ok_or x why ≡ Err given → (x ≡ None) × (given ≡ why)
refused_by None why given e = (refl, cc)
refused_by (Some line) why given e = cc

pub given_by : (x : Option ℕ) (why : Refusal) (line : ℕ) → ok_or x why ≡ Ok line → x ≡ Some line
given_by None why line e = cc
given_by (Some next) why line e = cc
