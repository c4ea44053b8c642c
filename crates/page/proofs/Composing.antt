-- How many bytes the lines of a listing take at most. Assumes nothing.
--   counts_most                 two counts and the end of the line take at most 45 bytes
--   heading_most                a heading 48
--   head_most, numbered_most    the head of a numbered line 67, and the line 68
--   refused_most                a REFUSED line 52
use mathlib.Core.List.{List, ◌++◌}
use mathlib.Core.Path.{◌≡◌}
use Prim.Native.Nat.{ℕ, ◌≤◌}
use native.Mathlib.Omega.{arith}
use lib.ListN.{length, length-append}
use lib.IntN.{ℤ}
use Rattle.text.specs.Decimal.{digits_of, written}
use Rattle.text.specs.Written.{signed_field, count_field, line_end}
use Rattle.text.proofs.Putting.{count_most, written_most}
use Rattle.page.specs.Lines.{counts_end, heading_line, line_head, numbered_line, refused_line}

pub counts_most : (first second : ℕ) → length (counts_end first second) ≤ 45
counts_most first second =
    omega
    (arith, count_most first, count_most second, length-append (digits_of first) (count_field second ++ line_end), length-append (digits_of second) line_end)

pub heading_most : (word : List ℕ) (first second : ℕ) → length word ≡ 3 → length (heading_line word first second) ≤ 48
heading_most word first second l = omega (arith, l, length-append word (counts_end first second), counts_most first second)

pub head_most : (letter number : ℕ) (first second : ℤ) → length (line_head letter number first second) ≤ 67
head_most letter number first second =
    omega (
      arith,
      count_most number,
      written_most first,
      written_most second,
      length-append (digits_of number) (signed_field first ++ signed_field second),
      length-append (written first) (signed_field second),
    )

pub numbered_most : (letter number : ℕ) (first second : ℤ) → length (numbered_line letter number first second) ≤ 68
numbered_most letter number first second =
    omega (arith, head_most letter number first second, length-append (line_head letter number first second) line_end)

pub refused_most : (number place : ℕ) → length (refused_line number place) ≤ 52
refused_most number place = omega (arith, counts_most number place)
