-- Rearranging the lines of an accepted book changes no byte of its listing. Assumes nothing.
--   bytes_sum                            the bytes of lines, as a sum
--   same_bytes, same_length              the same lines in another order have as many, and so has the book
--   line_same, lines_same                they are sightings too,
--   sightings_same                       and the same sightings, rearranged
--   station_same, listing_same           so `station` accepts them, with the same listing
--   order_free_book                      of the whole book
use mathlib.Core.Path.{◌≡◌, refl, sym, ◌∙◌, ap, ap₂}
use mathlib.Core.List.{List, [], ◌∷◌}
use Prim.Native.Nat.{ℕ, ◌+◌, ◌<◌, ◌≤◌}
use native.Mathlib.Omega.{arith}
use borrow.Author.Tests.{ltb-false}
use lib.IntN.{ℤ, pos, nat_abs, ◌+ℤ◌}
use lib.ListN.{length, get_or, replicate}
use Rattle.exact.specs.Sum.{sum}
use Rattle.exact.proofs.Sum.{sum_none, sum_first, sum_ext}
use Rattle.exact.proofs.Filling.{tabulate_length}
use Rattle.exact.proofs.Searching.{Failed}
use Rattle.reply.specs.declared.Refusal.TheVariants.{Field}
use Rattle.reply.proofs.Checking.{never}
use Rattle.text.specs.Lines.{lines_of, lines_in, line_no, bytes_of, unended}
use Rattle.text.specs.Rows.{row_values, missing}
use Rattle.text.proofs.Splitting.{bytes_most}
use Rattle.station.specs.Means.{directions, pair_counts}
use Rattle.station.specs.Rearrangement.{Rearranged}
use Rattle.station.specs.Replies.{reply_of}
use Rattle.station.proofs.Answering.{answers_kept}
use Rattle.station.proofs.Rearranging.{sum_rearranged, order_free, counts_rearranged, readings_rearranged}
use Rattle.page.specs.Page.{printed}
use Rattle.book.specs.Lines.{sighting_of, field_no, column, malformed, book_of, lines_reply, book_reply}
use Rattle.book.specs.Listing.{means_lines, station_listing}
use Rattle.book.specs.File.{book_listing, listing_of}
use Rattle.book.specs.Order.{Reordered}
use Rattle.book.proofs.Accepting.{lines_sound, lines_passed, field_at}
use Rattle.book.proofs.Filing.{book_passed, by_station}
use Rattle.std.specs.Prelude.{Ok}

-- ---- how many bytes lines have
abbrev size : List (List ℕ) → ℕ → ℤ
size lines h = pos (length (get_or lines h []) + 1)

bytes_sum : (lines : List (List ℕ)) → pos (bytes_of lines) ≡ sum (length lines) (size lines)
unfolding bytes_of
bytes_sum [] = sym (sum_none (size []))
bytes_sum (line ∷ lines) = ap (λ (z : ℤ). pos (length line + 1) +ℤ z) (bytes_sum lines) ∙ sym (sum_first (length lines) (size (line ∷ lines)))

module _ {file file' : List ℕ} (o : Reordered file file') where
  abbrev n : ℕ
  n = lines_in file

  line_same : (h : ℕ) → h < n → malformed file' h ≡ malformed file (o.from h)
  unfolding malformed
  line_same h l = ap (λ (line : List ℕ). missing (sighting_of line)) (o.line_is h l)

  same_bytes : bytes_of (lines_of file') ≡ bytes_of (lines_of file)
  unfolding line_no
  same_bytes =
      ap nat_abs
      (bytes_sum (lines_of file')
      ∙ ap (λ (m : ℕ). sum m (size (lines_of file'))) o.long
      ∙ sum_ext n (size (lines_of file')) (λ h. size (lines_of file) (o.from h)) (λ h l. ap (λ (line : List ℕ). pos (length line + 1)) (o.line_is h l))
      ∙ sum_rearranged n o.from o.to o.from_in o.to_in o.back o.forth (size (lines_of file))
      ∙ sym (bytes_sum (lines_of file)))

  pub same_length : length file ≤ 65535 → length file' ≤ 65535
  unfolding unended
  same_length l = omega (arith, l, same_bytes, bytes_most file, ltb-false (bytes_of (lines_of file')) (length file') o.ended)

  -- ---- what they say
  pub lines_same : lines_reply file ≡ Ok tt → lines_reply file' ≡ Ok tt
  lines_same e = lines_passed file' (moved (lines_sound file e)) o.ended
    where
      moved : Failed (malformed file) n → Failed (malformed file') (lines_in file')
      moved sound h l = let m : h < n = omega (arith, l, o.long) in line_same h m ∙ sound (o.from h) (o.from_in h m)

  -- ---- their sightings
  sized : (k : ℕ) (book : List ℕ) → length (column k book) ≡ lines_in book
  sized k book = tabulate_length (lines_in book) (field_no k book)

  long_same : (k : ℕ) → length (column k file') ≡ length (column k file)
  long_same k = sized k file' ∙ o.long ∙ sym (sized k file)

  field_same : (k h : ℕ) → h < length (column 0 file) → get_or (column k file') h (pos 0) ≡ get_or (column k file) (o.from h) (pos 0)
  field_same k h l =
      let m : h < n = omega (arith, l, sized 0 file) in
      field_at file' k h (omega (arith, m, o.long)) ∙ ap (λ (line : List ℕ). get_or (row_values (sighting_of line) []) k (pos 0)) (o.line_is h m) ∙ sym (field_at file k (o.from h) (o.from_in h m))

  pub sightings_same : Rearranged (book_of file) (book_of file')
  unfolding book_of
  sightings_same = record {
    from = o.from;
    to = o.to;
    from_in = λ h l. omega (arith, o.from_in h (here h l), sized 0 file);
    to_in = λ h l. omega (arith, o.to_in h (here h l), sized 0 file);
    back = λ h l. o.back h (here h l);
    forth = λ h l. o.forth h (here h l);
    position_is = field_same 0;
    object_is = field_same 1;
    face_is = field_same 2;
    reading_is = field_same 3;
    positions_long = long_same 0;
    objects_long = long_same 1;
    faces_long = long_same 2;
    readings_long = long_same 3;
  }
    where
      here : (h : ℕ) → h < length (column 0 file) → h < n
      here h l = omega (arith, l, sized 0 file)

  station_same : reply_of (book_of file) 16 16 ≡ Ok tt → reply_of (book_of file') 16 16 ≡ Ok tt
  station_same e =
      let none : List ℤ = replicate 16 (pos 0) in
      sym (order_free sightings_same none none (reply_of (book_of file) 16 16) (reply_of (book_of file') 16 16) _ _ _ _ (answers_kept refl refl refl) (answers_kept refl refl refl) (λ h f. never (Field h) (sym f ∙ e))).0 ∙ e

  listing_same : book_listing file' ≡ book_listing file
  unfolding station_listing
  listing_same =
      let q = sightings_same in
      λ t. means_lines (q.positions_long t) (directions (counts_rearranged q t) (readings_rearranged q t)) (pair_counts (counts_rearranged q t))

  pub order_free_book : book_reply file ≡ Ok tt → (book_reply file' ≡ Ok tt) × (listing_of file' ≡ listing_of file)
  unfolding listing_of
  order_free_book e =
      let passed = book_passed file e in
      let e' : book_reply file' ≡ Ok tt = by_station file' (same_length passed.0) (lines_same passed.1) ∙ station_same passed.2 in
      (e', ap₂ printed (e' ∙ sym e) listing_same)
