-- How many bytes the listing of an accepted net takes at most: its ADJ line 48, a V line 68 (both by page's laws), a K line 90, an E line 46.
-- Assumes nothing.
--   k_most, e_most       a K line, an E line
--   v_most               the V lines
--   accepted_most        the listing
--   plain_fits           the room of any sheet holds the longest listing without an E line
--   sheet_most           the listing as a sheet has it; ended_by: it is the listing, and behind it what the sheet has of an empty one
use mathlib.Core.Path.{◌≡◌, refl}
use mathlib.Core.List.{List, [], ◌∷◌, ◌++◌, append-nil}
use Prim.Native.Nat.{ℕ, ◌+◌, ◌*◌, ◌≤◌}
use native.Mathlib.Omega.{arith}
use lib.ListN.{length, get_or, length-append}
use lib.IntN.{ℤ, pos}
use Rattle.text.specs.Decimal.{written}
use Rattle.text.specs.Written.{signed_field, line_end}
use Rattle.text.proofs.Putting.{written_most, lines_most}
use Rattle.page.specs.Lines.{line_head}
use Rattle.page.proofs.Composing.{heading_most, head_most, numbered_most}
use Rattle.precision.specs.declared.Errors.{Errors}
use Rattle.listing.specs.declared.Sheet.{Sheet}
use Rattle.listing.specs.declared.Sheet.TheVariants.{Plain, WithErrors}
use Rattle.listing.specs.Listing.{adj_line, k_line, e_line, v_line_of, k_line_of, v_lines, k_lines, accepted_listing, on_sheet, room_of}

pub k_most : (condition : ℕ) (k r q : ℤ) → length (k_line condition k r q) ≤ 90
k_most condition k r q =
    omega (
      arith,
      head_most 75 condition k r,
      written_most q,
      length-append (line_head 75 condition k r) (signed_field q ++ line_end),
      length-append (written q) line_end,
    )

pub e_most : (e probable : ℤ) → length (e_line e probable) ≤ 46
e_most e probable =
    omega (
      arith,
      written_most e,
      written_most probable,
      length-append (written e) (signed_field probable ++ line_end),
      length-append (written probable) line_end,
    )

-- the V lines of m directions
pub v_most : (m : ℕ) (u adjusted : List ℤ) → length (v_lines m u adjusted) ≤ m * 68
v_most m u adjusted = lines_most m 68 (v_line_of u adjusted) (λ i. numbered_most 86 (i + 1) (get_or u i (pos 0)) (get_or adjusted i (pos 0)))

pub accepted_most : (m n : ℕ) (u adjusted k r q : List ℤ) → length (accepted_listing m n u adjusted k r q) ≤ 48 + m * 68 + n * 90
accepted_most m n u adjusted k r q =
    omega (
      arith,
      heading_most (65 ∷ 68 ∷ 74 ∷ []) m n refl,
      v_most m u adjusted,
      lines_most n 90 (k_line_of k r q) (λ j. k_most (j + 1) (get_or k j (pos 0)) (get_or r j (pos 0)) (get_or q j (pos 0))),
      length-append (adj_line m n) (v_lines m u adjusted ++ k_lines n k r q),
      length-append (v_lines m u adjusted) (k_lines n k r q),
    )

-- the room of any sheet holds the plain listing
pub plain_fits : (sheet : Sheet) → 6560 ≤ room_of sheet
plain_fits Plain = omega arith
plain_fits WithErrors = omega arith

pub sheet_most : (sheet : Sheet) (listing : List ℕ) (errors : Errors) → length listing ≤ 6560 → length (on_sheet sheet listing errors) ≤ room_of sheet
unfolding on_sheet
sheet_most Plain listing errors h = h
sheet_most WithErrors listing errors h = omega (arith, h, e_most errors.mean errors.probable, length-append listing (e_line errors.mean errors.probable))

pub ended_by : (sheet : Sheet) (listing : List ℕ) (errors : Errors) → listing ++ on_sheet sheet [] errors ≡ on_sheet sheet listing errors
unfolding on_sheet
ended_by Plain listing errors = append-nil listing
ended_by WithErrors listing errors = refl
