-- Laws of entering a book's lines one after the other. Assumes nothing.
--   Begun, begun_none                       the lines before a start are sightings
--   no_sighting, sighting                   the line at a start, by what the reader of its numbers answers
--   all_begun                               the end of the book
--   Column, column_none, column_more, column_all   one field of the lines so far, in the first places of a list
--   Filled, filled_none, filled_more        all four
--   entered                                 what the reader of a book hands on
use mathlib.Core.Path.{◌≡◌, refl, sym, ◌∙◌, ap, subst}
use mathlib.Core.Bool.{Bool, true, false, cond}
use mathlib.Core.List.{List}
use Rattle.std.specs.Prelude.{Option, None, Some, Ok, Err}
use Prim.Native.Nat.{ℕ, ◌+◌, ◌<◌, ◌≤◌}
use native.Mathlib.Decide.{dec_lt}
use native.Mathlib.Omega.{arith}
use borrow.Author.Tests.{lt-ltb, le-ltb, ltb-true, ltb-false}
use lib.Dec.{ltb}
use lib.IntN.{ℤ, pos}
use lib.ListN.{length, get_or, set, take, length-set}
use lib.Seq.{get_or-take, get_or-set_same, get_or-set_other, ext_get_or, length-take-le}
use Rattle.exact.proofs.Filling.{tabulate_length, tabulate_at}
use Rattle.exact.proofs.Searching.{Failed, failed_none, failed_more}
use Rattle.reply.specs.declared.Refusal.TheVariants.{Malformed}
use Rattle.reply.proofs.Checking.{refuse_at, refuse_none}
use Rattle.text.specs.Parts.{place_from}
use Rattle.text.specs.Lines.{LF, line_at, lines_of, lines_in, line_no, bytes_of, unended}
use Rattle.text.specs.Rows.{lettered_within, behind_at, row_values, missing}
use Rattle.text.proofs.Parting.{place_after}
use Rattle.text.proofs.Stepping.{Reached, reached_none, line_here, one_more, reached_more, none_left, bytes_reached}
use Rattle.book.specs.declared.entries.Fields.{Fields}
use Rattle.book.specs.Inner.{put_at, Entered}
use Rattle.book.specs.Lines.{letter_S, sighting_of, field_no, column, malformed, lines_reply}

module _ (file : List ℕ) where
  -- n lines have been read, all of them sightings, and the next one starts at `start`
  pub record Begun (start n : ℕ) : Type 0 where
    pub reached : Reached file start n
    pub sound : Failed (malformed file) n

  pub begun_none : Begun 0 0
  begun_none = record { reached = reached_none file; sound = failed_none (malformed file) }

  pub all_begun : {start n : ℕ} → Begun start n → length file ≤ start → (lines_reply file ≡ Ok tt) × (n ≡ lines_in file)
  unfolding lines_reply unended
  all_begun {start} {n} b l =
      let past : length file ≤ place_from LF file start = omega (arith, l, place_after LF file start) in
      let all = none_left file b.reached past in
      let sound : Failed (malformed file) (lines_in file) = rw (← all) b.sound in
      (rw (refuse_none (lines_in file) (malformed file) (λ h. Malformed (h + 1)) sound, le-ltb (bytes_of (lines_of file)) (length file) (omega (arith, bytes_reached file b.reached past))), all)

  module _ {start n : ℕ} (b : Begun start n) where
    abbrev end : ℕ
    end = place_from LF file start

    -- the line has its LF
    module _ (l : end < length file) where
      begun_more : malformed file n ≡ false → Begun (end + 1) (n + 1)
      begun_more f = record { reached = reached_more file b.reached l; sound = failed_more (malformed file) n b.sound f }

      refused_here : malformed file n ≡ true → lines_reply file ≡ Err (Malformed (n + 1))
      unfolding lines_reply
      refused_here f = rw (refuse_at (lines_in file) (malformed file) (λ h. Malformed (h + 1)) n (one_more file b.reached l) b.sound f)

    -- it has none
    unended_here : start < length file → length file ≤ end → lines_reply file ≡ Err (Malformed (n + 1))
    unfolding lines_reply unended
    unended_here s l =
        let all = none_left file b.reached l in
        let sound : Failed (malformed file) (lines_in file) = rw (← all) b.sound in
        let more : bytes_of (lines_of file) < length file = omega (arith, bytes_reached file b.reached l, s) in
        rw (refuse_none (lines_in file) (malformed file) (λ h. Malformed (h + 1)) sound, lt-ltb (bytes_of (lines_of file)) (length file) more, all)

    -- ---- by what stands behind its letter
    abbrev row : Bool → Option (List ℤ)
    row found = cond found (sighting_of (line_at file start)) None

    is_row : behind_at file start letter_S 4 ≡ row (ltb end (length file))
    unfolding lettered_within sighting_of
    is_row = refl

    none_by : start < length file → (found : Bool) → ltb end (length file) ≡ found → row found ≡ None → lines_reply file ≡ Err (Malformed (n + 1))
    unfolding malformed
    none_by s true t e = let l = ltb-true end (length file) t in refused_here l (ap missing (ap sighting_of (line_here file b.reached l) ∙ e))
    none_by s false t e = unended_here s (ltb-false end (length file) t)

    pub no_sighting : start < length file → behind_at file start letter_S 4 ≡ None → lines_reply file ≡ Err (Malformed (n + 1))
    no_sighting s e = none_by s (ltb end (length file)) refl (sym is_row ∙ e)

    module _ (zs : List ℤ) where
      some_by : (found : Bool) → ltb end (length file) ≡ found → row found ≡ Some zs → (sighting_of (line_no file n) ≡ Some zs) × Begun (end + 1) (n + 1)
      unfolding malformed
      some_by true t e = let l = ltb-true end (length file) t in let says = ap sighting_of (line_here file b.reached l) ∙ e in (says, begun_more l (ap missing says))
      some_by false t e = let z : ◌≡◌ {A = ℕ} 0 1 = cc in absurd (omega arith)

      pub sighting : behind_at file start letter_S 4 ≡ Some zs → (sighting_of (line_no file n) ≡ Some zs) × Begun (end + 1) (n + 1)
      sighting e = some_by (ltb end (length file)) refl (sym is_row ∙ e)

  -- ---- one field
  module _ (k : ℕ) where
    pub record Column (n : ℕ) (xs : List ℤ) : Type 0 where
      pub room : length xs ≡ 512
      pub done : (h : ℕ) → h < n → h < 512 → get_or xs h (pos 0) ≡ field_no k file h

    pub column_none : (xs : List ℤ) → length xs ≡ 512 → Column 0 xs
    column_none xs l = record { room = l; done = λ h m r. absurd (omega arith) }

    -- the next sighting's
    pub column_more : {n : ℕ} {xs : List ℤ} → Column n xs → (x zs : List ℤ) → sighting_of (line_no file n) ≡ Some zs → zs ≡ take 4 x → k < 4 → Column (n + 1) (set xs n (get_or x k (pos 0)))
    unfolding field_no row_values
    column_more {n} {xs} c x zs s t l = record { room = length-set xs n v ∙ c.room; done = λ h m r. pick h (dec_lt h n) m r }
      where
        v : ℤ
        v = get_or x k (pos 0)

        here : v ≡ field_no k file n
        here = sym (rw (s, t) (get_or-take 4 x k (pos 0) l))

        last : (h : ℕ) → ¬ (h < n) → h < n + 1 → n ≡ h
        last h g m = omega arith

        pick : (h : ℕ) → Dec (h < n) → h < n + 1 → h < 512 → get_or (set xs n v) h (pos 0) ≡ field_no k file h
        pick h (yes g) m r = get_or-set_other xs n h v (pos 0) (λ f. omega arith) ∙ c.done h g r
        pick h (no g) m r = subst (λ (j : ℕ). get_or (set xs n v) j (pos 0) ≡ field_no k file j) (last h g m) (get_or-set_same xs n v (pos 0) (omega (arith, c.room, last h g m, r)) ∙ here)

    pub column_all : {n : ℕ} {xs : List ℤ} → Column n xs → n ≡ lines_in file → n ≤ 512 → take n xs ≡ column k file
    column_all {n} {xs} c e l =
        ext_get_or (pos 0) (take n xs) (column k file) (length-take-le n xs (omega (arith, c.room)) ∙ e ∙ sym (tabulate_length (lines_in file) (field_no k file)))
        (λ h m. let g : h < n = omega (arith, m, length-take-le n xs (omega (arith, c.room))) in
        get_or-take n xs h (pos 0) g ∙ c.done h g (omega (arith, g, l)) ∙ sym (tabulate_at (lines_in file) (field_no k file) h (pos 0) (omega (arith, g, e))))

  -- ---- all four
  pub record Filled (n : ℕ) (fields : Fields) : Type 0 where
    pub positions : Column 0 n fields.position
    pub objects : Column 1 n fields.object
    pub faces : Column 2 n fields.face
    pub readings : Column 3 n fields.reading

  pub filled_none : (fields : Fields) → length fields.position ≡ 512 → length fields.object ≡ 512 → length fields.face ≡ 512 → length fields.reading ≡ 512 → Filled 0 fields
  filled_none fields p o f r = record {
    positions = column_none 0 fields.position p;
    objects = column_none 1 fields.object o;
    faces = column_none 2 fields.face f;
    readings = column_none 3 fields.reading r;
  }

  -- the next sighting is entered
  pub filled_more : {n : ℕ} {fields : Fields} → Filled n fields → (x : List ℤ) → sighting_of (line_no file n) ≡ Some (take 4 x) → Filled (n + 1) (put_at fields n x)
  filled_more f x s = record {
    positions = column_more 0 f.positions x (take 4 x) s refl (omega arith);
    objects = column_more 1 f.objects x (take 4 x) s refl (omega arith);
    faces = column_more 2 f.faces x (take 4 x) s refl (omega arith);
    readings = column_more 3 f.readings x (take 4 x) s refl (omega arith);
  }

  -- the end of a book that is not too long and has not too many lines
  pub entered : {start n : ℕ} {fields : Fields} → length file ≤ 65535 → Begun start n → length file ≤ start → n ≤ 512 → Filled n fields → Entered file n fields
  entered l b e m f =
      let all = all_begun b e in record {
        short = l;
        passed = all.0;
        count = all.1;
        few = m;
        positions = column_all 0 f.positions all.1 m;
        objects = column_all 1 f.objects all.1 m;
        faces = column_all 2 f.faces all.1 m;
        readings = column_all 3 f.readings all.1 m;
      }
