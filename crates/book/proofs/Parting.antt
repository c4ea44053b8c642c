-- Laws of the two parts of a spoiled book, as they are written. Assumes nothing.
--   x_long, x_most                              how many bytes the line of a dropped sighting takes: 8 at most
--   dropped_line_lem, dropped_none, dropped_most    the line that is written of a sighting, by its reason: none, where it has no reason
--   kept_line_lem, kept_none, kept_most             and the other way round, the book's own line
--   many_reasons, reasons_small                 the reasons of a book: as many as its lines, and each of one digit
--   kept_by_lem, dropped_by_lem                         by them the two parts of the book are written
use mathlib.Core.Path.{◌≡◌, sym, ◌∙◌, ap}
use mathlib.Core.Bool.{Bool, true, false, cond}
use mathlib.Core.List.{List, [], ◌++◌}
use Prim.Native.Nat.{ℕ, ◌+◌, ◌<◌, ◌≤◌}
use native.Mathlib.Omega.{arith}
use borrow.Author.Tests.{eq-eqb, ne_eqb}
use lib.Dec.{eqb}
use lib.ListN.{length, get_or, length-append}
use Rattle.exact.specs.Tabulate.{tabulate}
use Rattle.exact.proofs.Filling.{tabulate_length, tabulate_at}
use Rattle.text.specs.Decimal.{digits_of}
use Rattle.text.specs.Lines.{lines_in, line_no}
use Rattle.text.specs.Written.{count_field, line_end, in_order}
use Rattle.text.proofs.ReadingBack.{few_digits}
use Rattle.text.proofs.Stacking.{order_ext}
use Rattle.station.specs.Rescue.{is_kept, reason}
use Rattle.station.specs.Steps.{free}
use Rattle.station.proofs.Sifting.{kept_free, reason_most}
use Rattle.book.specs.Lines.{book_of}
use Rattle.book.specs.declared.parts.Part.TheVariants.{Kept, Dropped}
use Rattle.book.specs.Rescue.{x_line, kept_line, dropped_line, part_of, kept_by, dropped_by}

module _ (ordinal reason : ℕ) where
  pub x_long : length (x_line ordinal reason) ≡ length (digits_of ordinal) + length (digits_of reason) + 4
  x_long = omega (arith, length-append (digits_of ordinal) (count_field reason ++ line_end), length-append (digits_of reason) line_end)

  pub x_most : ordinal < 1000 → reason < 10 → length (x_line ordinal reason) ≤ 8
  x_most o r = omega (arith, x_long, few_digits 2 ordinal o, few_digits 0 reason r)

module _ (reasons : List ℕ) (h : ℕ) where
  pub dropped_line_lem : (get_or reasons h 0 ≡ 0 → ⊥) → dropped_by reasons h ≡ x_line (h + 1) (get_or reasons h 0)
  dropped_line_lem e = rw (ne_eqb (get_or reasons h 0) 0 e)

  pub dropped_none : get_or reasons h 0 ≡ 0 → dropped_by reasons h ≡ []
  dropped_none e = rw (eq-eqb (get_or reasons h 0) 0 e)

  pub dropped_most : h < 512 → get_or reasons h 0 < 10 → length (dropped_by reasons h) ≤ 8
  dropped_most l r = by_reason (free reasons h)
    where
      by_reason : (b : Bool) → length (cond b [] (x_line (h + 1) (get_or reasons h 0))) ≤ 8
      by_reason true = omega arith
      by_reason false = x_most (h + 1) (get_or reasons h 0) (omega arith) r

module _ (file reasons : List ℕ) (h : ℕ) where
  pub kept_line_lem : get_or reasons h 0 ≡ 0 → kept_by file reasons h ≡ line_no file h ++ line_end
  kept_line_lem e = rw (eq-eqb (get_or reasons h 0) 0 e)

  pub kept_none : (get_or reasons h 0 ≡ 0 → ⊥) → kept_by file reasons h ≡ []
  kept_none e = rw (ne_eqb (get_or reasons h 0) 0 e)

  pub kept_most : length (line_no file h) ≤ 20 → length (kept_by file reasons h) ≤ 21
  kept_most l = by_reason (free reasons h)
    where
      by_reason : (b : Bool) → length (cond b (line_no file h ++ line_end) []) ≤ 21
      by_reason true = omega (arith, length-append (line_no file h) line_end)
      by_reason false = omega arith

-- ---- by the reasons of a book
module _ (file reasons : List ℕ) (r : reasons ≡ tabulate (lines_in file) (reason (book_of file))) where
  pub many_reasons : length reasons ≡ lines_in file
  many_reasons = ap length r ∙ tabulate_length (lines_in file) (reason (book_of file))

  reason_at : (h : ℕ) → h < lines_in file → get_or reasons h 0 ≡ reason (book_of file) h
  reason_at h l = ap (λ (xs : List ℕ). get_or xs h 0) r ∙ tabulate_at (lines_in file) (reason (book_of file)) h 0 l

  pub reasons_small : (h : ℕ) → h < length reasons → get_or reasons h 0 < 10
  reasons_small h l = omega (arith, reason_at h (omega (arith, many_reasons)), reason_most (book_of file) h)

  free_is : (h : ℕ) → h < lines_in file → free reasons h ≡ is_kept (book_of file) h
  free_is h l = ap (λ (n : ℕ). eqb n 0) (reason_at h l) ∙ sym (kept_free (book_of file) h)

  pub kept_by_lem : in_order (length reasons) (kept_by file reasons) ≡ part_of Kept file
  unfolding part_of kept_line
  kept_by_lem = ap (λ (n : ℕ). in_order n (kept_by file reasons)) many_reasons ∙ order_ext (lines_in file) (kept_by file reasons) (kept_line file) (λ h l. rw (free_is h l))

  pub dropped_by_lem : in_order (length reasons) (dropped_by reasons) ≡ part_of Dropped file
  unfolding part_of dropped_line
  dropped_by_lem = ap (λ (n : ℕ). in_order n (dropped_by reasons)) many_reasons ∙ order_ext (lines_in file) (dropped_by reasons) (dropped_line file) (λ h l. rw (free_is h l, reason_at h l))
