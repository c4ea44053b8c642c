-- The order of a book's lines does not decide which of them a rescue keeps. Assumes nothing.
--   reordered_by              books of the same sightings in two orders have the same lines in two orders
--   spoiled_same              the same lines in another order get the same reply, unless its place is an ordinal
--   kept_reordered            and the same ones of them are kept
use mathlib.Core.Path.{◌≡◌, sym, ◌∙◌}
use mathlib.Core.Bool.{true}
use mathlib.Core.List.{List, [], ◌∷◌}
use Prim.Native.Nat.{ℕ, ◌<◌, ◌≤◌}
use native.Mathlib.Omega.{arith}
use lib.ListN.{length}
use Rattle.reply.specs.declared.Refusal.TheVariants.{Field}
use Rattle.text.specs.Lines.{lines_in, line_no}
use Rattle.text.proofs.Lining.{signed_fields}
use Rattle.station.specs.Sightings.{sightings}
use Rattle.station.specs.Rearrangement.{Rearranged}
use Rattle.station.proofs.Reordering.{kept_alike, rescue_same}
use Rattle.book.specs.declared.parts.Part.TheVariants.{Kept}
use Rattle.book.specs.Lines.{letter_S, book_of, lines_reply}
use Rattle.book.specs.Order.{Reordered}
use Rattle.book.specs.Rescue.{spoiled_reply, part_of}
use Rattle.book.proofs.Accepting.{lines_ended, sighted, line_text, by_rescue}
use Rattle.book.proofs.Ordering.{same_length, lines_same, sightings_same}
use Rattle.book.proofs.Rescuing.{kept_book, kept_lines}
use Rattle.std.specs.Prelude.{Ok, Err}

pub reordered_by : (file file' : List ℕ) → lines_reply file ≡ Ok tt → lines_reply file' ≡ Ok tt → Rearranged (book_of file) (book_of file') → Reordered file file'
reordered_by file file' e e' q = record {
  from = q.from;
  to = q.to;
  from_in = λ h l. omega (arith, q.from_in h (in_list h l), sighted file);
  to_in = λ h l. omega (arith, q.to_in h (in_list h l), sighted file);
  back = λ h l. q.back h (in_list h l);
  forth = λ h l. q.forth h (in_list h l);
  line_is = λ h l. line h l (in_list h l) (omega (arith, l, long)) (omega (arith, q.from_in h (in_list h l), sighted file));
  long = long;
  ended = lines_ended file' e';
}
  where
    long : lines_in file' ≡ lines_in file
    long = sym (sighted file') ∙ q.positions_long ∙ sighted file

    in_list : (h : ℕ) → h < lines_in file → h < sightings (book_of file)
    in_list h l = omega (arith, l, sighted file)

    -- a line is the text of its sighting
    line : (h : ℕ) → h < lines_in file → h < sightings (book_of file) → h < lines_in file' → q.from h < lines_in file → line_no file' h ≡ line_no file (q.from h)
    line h l k l' m =
        line_text file' e' h l'
        ∙ (λ t. letter_S ∷ signed_fields (q.position_is h k t ∷ q.object_is h k t ∷ q.face_is h k t ∷ q.reading_is h k t ∷ []))
        ∙ sym (line_text file e (q.from h) m)

module _ {file file' : List ℕ} (o : Reordered file file') (e : lines_reply file ≡ Ok tt) where
  pub spoiled_same : length file ≤ 65535 → ((h : ℕ) → spoiled_reply file ≡ Err (Field h) → ⊥) → spoiled_reply file' ≡ spoiled_reply file
  spoiled_same l other =
      let own = by_rescue file l e in
      by_rescue file' (same_length o l) (lines_same o e)
      ∙ sym (rescue_same (sightings_same o) true (λ h f. other h (own ∙ f)))
      ∙ sym own

  pub kept_reordered : Reordered (part_of Kept file) (part_of Kept file')
  kept_reordered =
      reordered_by (part_of Kept file) (part_of Kept file') (kept_lines file e) (kept_lines file' (lines_same o e))
      (rw (kept_book file, kept_book file') (kept_alike (sightings_same o)))
