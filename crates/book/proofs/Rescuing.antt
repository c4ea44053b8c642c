-- What the rescue of a sighting book keeps and drops of its lines. Assumes nothing.
--   sifted_book, sifted_lines     those lines of a book at which a test holds: their sightings, and that they pass
--   kept_short, kept_lines, kept_book, kept_reply     the kept part of an accepted book: it is no longer, its lines pass, its sightings are the kept ones,
--                                 and `means` answers as `station` answers to these
--   kept_text, dropped_text       the two parts of a book, by the lists that `station` answers
--   kept_means                    so it is never refused with 1, 2 or 21 to 25
--   whole                         a book of which no sighting is dropped is kept whole
--   kept_again                    the rescue of what is kept drops nothing
--   sound_kept                    a book that is sound under 23 to 25 is kept whole
use mathlib.Core.Path.{◌≡◌, refl, sym, ◌∙◌, ap}
use mathlib.Core.Bool.{Bool, true, false, not, cond}
use mathlib.Core.List.{List, []}
use mathlib.Core.Logic.{◌⊎◌, inl, inr}
use Prim.Native.Nat.{ℕ, ◌+◌, ◌<◌, ◌≤◌}
use native.Mathlib.Omega.{arith}
use borrow.Author.Tests.{ltb-false}
use lib.Dec.{ltb}
use lib.IntN.{pos}
use lib.ListN.{length, get_or}
use Rattle.exact.specs.Gather.{gather}
use Rattle.exact.proofs.Filling.{tabulate_at, tabulate_is}
use Rattle.exact.proofs.Gathering.{rank, nth, gather_rank, gather_at, nth_in, rank_in}
use Rattle.reply.specs.declared.Refusal.TheVariants.{Malformed, Count, Spread}
use Rattle.reply.specs.Reply.{Reply}
use Rattle.reply.specs.Checks.{refuse_if, refuse_first, ◌and_then◌}
use Rattle.reply.proofs.Checking.{if_accepted, if_refused, refused_by, refused_after, refused_as}
use Rattle.text.specs.Lines.{lines_in, unended}
use Rattle.text.specs.Rows.{row_values, missing}
use Rattle.text.specs.Written.{in_order}
use Rattle.text.proofs.Sifting.{order_some, order_none, sifted, sifted_count, sifted_no, sifted_ended, sifted_long, sifted_all}
use Rattle.text.proofs.Stacking.{stacked, order_ext}
use Rattle.station.specs.Sightings.{Book, sightings}
use Rattle.station.specs.Replies.{reply_of}
use Rattle.station.specs.Rescue.{left, is_kept, is_dropped, reason, kept, ordinals, reasons, rescue_reply}
use Rattle.station.specs.Parted.{Sound}
use Rattle.station.proofs.Rescuing.{dropped_long, in_dropped, kept_sound, again, sound_whole}
use Rattle.book.specs.declared.parts.Part.TheVariants.{Kept, Dropped}
use Rattle.book.specs.Lines.{sighting_of, field_no, column, malformed, book_of, lines_reply, book_reply}
use Rattle.book.specs.Rescue.{spoiled_reply, kept_line, x_line, dropped_line, part_of, SoundBook}
use Rattle.book.proofs.Accepting.{lines_sound, lines_ended, lines_passed, sighted, sighting_text, book_text, spoiled_passed, by_rescue}
use Rattle.book.proofs.Filing.{book_passed, by_station}
use Rattle.std.specs.Prelude.{Ok, Err}

-- ---- those lines of a book at which a test holds
module _ (file : List ℕ) (t : ℕ → Bool) where
  abbrev n : ℕ
  n = lines_in file

  abbrev from : ℕ → ℕ
  from m = nth t n m

  field_from : (k m : ℕ) → m < rank t n → field_no k (sifted file t) m ≡ field_no k file (from m)
  unfolding field_no
  field_from k m l = ap (λ (line : List ℕ). get_or (row_values (sighting_of line) []) k (pos 0)) (sifted_no file t m l)

  column_from : (k : ℕ) → column k (sifted file t) ≡ gather n t (λ h. get_or (column k file) h (pos 0))
  column_from k =
      let xs = gather n t (λ h. get_or (column k file) h (pos 0)) in let many = sifted_count file t in
      sym (tabulate_is (pos 0) (lines_in (sifted file t)) (field_no k (sifted file t)) xs (gather_rank t n (λ h. get_or (column k file) h (pos 0)) ∙ sym many) (λ m l. at m (omega (arith, l, many))))
    where
      at : (m : ℕ) → m < rank t n → get_or (gather n t (λ h. get_or (column k file) h (pos 0))) m (pos 0) ≡ field_no k (sifted file t) m
      at m l =
          gather_at t (λ h. get_or (column k file) h (pos 0)) (pos 0) n m l
          ∙ tabulate_at n (field_no k file) (from m) (pos 0) (nth_in t n m l)
          ∙ sym (field_from k m l)

  pub sifted_book : book_of (sifted file t) ≡ left (book_of file) t
  unfolding book_of
  sifted_book = rw (column_from 0, column_from 1, column_from 2, column_from 3, sighted file)

  pub sifted_lines : lines_reply file ≡ Ok tt → lines_reply (sifted file t) ≡ Ok tt
  unfolding malformed
  sifted_lines e = lines_passed (sifted file t) (λ m l. sound m (omega (arith, l, sifted_count file t))) (sifted_ended file t)
    where
      sound : (m : ℕ) → m < rank t n → malformed (sifted file t) m ≡ false
      sound m l = ap (λ (line : List ℕ). missing (sighting_of line)) (sifted_no file t m l) ∙ lines_sound file e (from m) (nth_in t n m l)

-- ---- the kept part of a book
module _ (file : List ℕ) where
  is_sifted : part_of Kept file ≡ sifted file (is_kept (book_of file))
  unfolding part_of kept_line
  is_sifted = refl

  pub kept_short : length (part_of Kept file) ≤ length file
  kept_short = rw is_sifted (sifted_long file (is_kept (book_of file)))

  pub kept_book : book_of (part_of Kept file) ≡ kept (book_of file)
  kept_book = ap book_of is_sifted ∙ sifted_book file (is_kept (book_of file))

  pub kept_lines : lines_reply file ≡ Ok tt → lines_reply (part_of Kept file) ≡ Ok tt
  kept_lines e = rw is_sifted (sifted_lines file (is_kept (book_of file)) e)

  -- each part by the lists that `station` answers
  pub kept_text : lines_reply file ≡ Ok tt → part_of Kept file ≡ stacked (sightings (kept (book_of file))) (sighting_text (kept (book_of file)))
  kept_text e = book_text (part_of Kept file) (kept_lines e) ∙ ap (λ (b : Book). stacked (sightings b) (sighting_text b)) kept_book

  pub dropped_text : let b = book_of file in part_of Dropped file ≡ in_order (length (ordinals b)) (λ m. x_line (get_or (ordinals b) m 0) (get_or (reasons b) m 0))
  unfolding part_of dropped_line
  dropped_text =
      order_ext (lines_in file) (dropped_line file) (λ h. cond (is_dropped b h) (line_of h) []) (λ h l. by_test h (is_kept b h))
      ∙ order_some (is_dropped b) line_of (lines_in file)
      ∙ ap (λ (n : ℕ). in_order (rank (is_dropped b) n) (λ m. line_of (nth (is_dropped b) n m))) (sym (sighted file))
      ∙ ap (λ (n : ℕ). in_order n (λ m. line_of (nth (is_dropped b) (sightings b) m))) (sym (dropped_long b))
      ∙ order_ext (length (ordinals b)) (λ m. line_of (nth (is_dropped b) (sightings b) m)) (λ m. x_line (get_or (ordinals b) m 0) (get_or (reasons b) m 0))
      (λ m l. let k = in_dropped b m l in rw (gather_at (is_dropped b) (λ h. h + 1) 0 (sightings b) m k, gather_at (is_dropped b) (reason b) 0 (sightings b) m k))
    where
      b : Book
      b = book_of file

      line_of : ℕ → List ℕ
      line_of h = x_line (h + 1) (reason b h)

      by_test : (h : ℕ) (x : Bool) → cond x [] (line_of h) ≡ cond (not x) (line_of h) []
      by_test h true = refl
      by_test h false = refl

  -- ---- where nothing is dropped
  none_dropped : ordinals (book_of file) ≡ [] → (h : ℕ) → h < lines_in file → is_kept (book_of file) h ≡ true
  none_dropped e h l = by_test (is_kept (book_of file) h) refl
    where
      b : Book
      b = book_of file

      by_test : (x : Bool) → is_kept b h ≡ x → x ≡ true
      by_test true q = refl
      by_test false q = absurd (omega (arith, rank_in (is_dropped b) h (sightings b) (omega (arith, l, sighted file)) (ap not q), dropped_long b, ap length e))

  pub whole : lines_reply file ≡ Ok tt → ordinals (book_of file) ≡ [] → (part_of Kept file ≡ file) × (part_of Dropped file ≡ [])
  unfolding part_of dropped_line
  whole p e = (
    is_sifted ∙ sifted_all file (is_kept (book_of file)) (lines_ended file p) (none_dropped e),
    order_ext (lines_in file) (dropped_line file) (λ h. []) (λ h l. rw (none_dropped e h l)) ∙ order_none (lines_in file),
  )

-- ---- of a book that is accepted
module _ (file : List ℕ) (e : spoiled_reply file ≡ Ok tt) where
  abbrev rest : List ℕ
  rest = part_of Kept file

  short : length rest ≤ 65535
  short = omega (arith, kept_short file, (spoiled_passed file e).0)

  lines : lines_reply rest ≡ Ok tt
  lines = kept_lines file (spoiled_passed file e).1

  pub kept_reply : book_reply rest ≡ reply_of (kept (book_of file)) 16 16
  kept_reply = by_station rest short lines ∙ ap (λ (b : Book). reply_of b 16 16) (kept_book file)

  pub kept_means : SoundBook rest
  kept_means = by_sound (kept_sound (book_of file) true (spoiled_passed file e).2)
    where
      by_sound : Sound (kept (book_of file)) → SoundBook rest
      by_sound (inl a) = inl (kept_reply ∙ a)
      by_sound (inr x) = inr (x.0, x.1, kept_reply ∙ x.2)

  pub kept_again : (spoiled_reply rest ≡ Ok tt) × (part_of Kept rest ≡ rest) × (part_of Dropped rest ≡ [])
  kept_again =
      let a = again (book_of file) true (spoiled_passed file e).2 in let w = whole rest lines (ap ordinals (kept_book file) ∙ a.2) in
      (by_rescue rest short lines ∙ ap (λ (b : Book). rescue_reply b true) (kept_book file) ∙ a.0, w.0, w.1)

-- ---- of a book that is sound
module _ (file : List ℕ) where
  lines_refused : (p o : ℕ) → lines_reply file ≡ Err (Spread p o) → ⊥
  unfolding lines_reply
  lines_refused p o e = by_check (refused_by (refuse_first n (malformed file) (λ h. Malformed (h + 1))) (refuse_if (unended file) (Malformed (n + 1))) e)
    where
      n : ℕ
      n = lines_in file

      other : (line : ℕ) → Malformed line ≡ Spread p o → ⊥
      other line f = let z : ◌≡◌ {A = ℕ} 0 1 = cc in omega arith

      by_check : (refuse_first n (malformed file) (λ h. Malformed (h + 1)) ≡ Err (Spread p o)) ⊎ (refuse_if (unended file) (Malformed (n + 1)) ≡ Err (Spread p o)) → ⊥
      by_check (inl f) = other _ (refused_as n (malformed file) (λ h. Malformed (h + 1)) (Spread p o) f)
      by_check (inr f) = other _ (if_refused (unended file) (Malformed (n + 1)) (Spread p o) f)

  -- 26 comes after the length and the lines
  spread_last : (p o : ℕ) → book_reply file ≡ Err (Spread p o) → (length file ≤ 65535) × (lines_reply file ≡ Ok tt) × (reply_of (book_of file) 16 16 ≡ Err (Spread p o))
  unfolding book_reply
  spread_last p o e = by_length (refused_after (refuse_if (ltb 65535 (length file)) (Count 0)) (lines_reply file and_then reply_of (book_of file) 16 16) e)
    where
      long : Bool
      long = ltb 65535 (length file)

      r : Reply
      r = reply_of (book_of file) 16 16

      by_lines : refuse_if long (Count 0) ≡ Ok tt → (lines_reply file ≡ Err (Spread p o)) ⊎ ((lines_reply file ≡ Ok tt) × (r ≡ Err (Spread p o)))
          → (length file ≤ 65535) × (lines_reply file ≡ Ok tt) × (r ≡ Err (Spread p o))
      by_lines q (inl f) = absurd (lines_refused p o f)
      by_lines q (inr f) = (ltb-false 65535 (length file) (if_accepted long (Count 0) q), f.0, f.1)

      by_length : (refuse_if long (Count 0) ≡ Err (Spread p o)) ⊎ ((refuse_if long (Count 0) ≡ Ok tt) × ((lines_reply file and_then r) ≡ Err (Spread p o)))
          → (length file ≤ 65535) × (lines_reply file ≡ Ok tt) × (r ≡ Err (Spread p o))
      by_length (inl f) = let g = if_refused long (Count 0) (Spread p o) f in let z : ◌≡◌ {A = ℕ} 0 1 = cc in absurd (omega arith)
      by_length (inr f) = by_lines f.0 (refused_after (lines_reply file) r f.1)

  sound_list : SoundBook file → (length file ≤ 65535) × (lines_reply file ≡ Ok tt) × Sound (book_of file)
  sound_list (inl a) = let q = book_passed file a in (q.0, q.1, inl q.2)
  sound_list (inr x) = let q = spread_last x.0 x.1 x.2 in (q.0, q.1, inr (x.0, x.1, q.2))

  pub sound_kept : SoundBook file → (spoiled_reply file ≡ Ok tt) × (part_of Kept file ≡ file) × (part_of Dropped file ≡ [])
  sound_kept s =
      let q = sound_list s in let a = sound_whole (book_of file) q.2 in let w = whole file q.1 a.2 in
      (by_rescue file q.0 q.1 ∙ a.0, w.0, w.1)
