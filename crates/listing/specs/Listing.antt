-- The listing of an adjusted net, byte for byte. "Its output: ADJ with m and n; V with number, u, adjusted; K with condition, K, R, Q. Tabs part these
-- fields too." On a sheet with errors an E line follows.
use Rattle.std.specs.Prelude.{List, [], ◌∷◌, ◌++◌, ℕ, ◌+◌, get_or, ℤ, pos}
use Rattle.text.specs.Written.{signed_field, line_end, in_order}
use Rattle.precision.specs.declared.Errors.{Errors}
use Rattle.page.specs.Lines.{heading_line, line_head, numbered_line}
use Rattle.listing.specs.declared.Sheet.{Sheet}
use Rattle.listing.specs.declared.Sheet.TheVariants.{Plain, WithErrors}

-- ADJ, m, n
abbrev pub adj_line : ℕ → ℕ → List ℕ
adj_line m n = heading_line (65 ∷ 68 ∷ 74 ∷ []) m n

-- V, number, u, adjusted
abbrev pub v_line : ℕ → ℤ → ℤ → List ℕ
v_line number u adjusted = numbered_line 86 number u adjusted

-- K, condition, K, R, Q
abbrev pub k_line : ℕ → ℤ → ℤ → ℤ → List ℕ
k_line condition k r q = line_head 75 condition k r ++ (signed_field q ++ line_end)

-- "E, e and probable error"
abbrev pub e_line : (e probable : ℤ) → List ℕ
e_line e probable = (69 ∷ []) ++ (signed_field e ++ (signed_field probable ++ line_end))

-- line i + 1 of each kind, by the numbers at place i of their lists
abbrev pub v_line_of : (u adjusted : List ℤ) → ℕ → List ℕ
v_line_of u adjusted i = v_line (i + 1) (get_or u i (pos 0)) (get_or adjusted i (pos 0))

abbrev pub k_line_of : (k r q : List ℤ) → ℕ → List ℕ
k_line_of k r q j = k_line (j + 1) (get_or k j (pos 0)) (get_or r j (pos 0)) (get_or q j (pos 0))

abbrev pub v_lines : (m : ℕ) (u adjusted : List ℤ) → List ℕ
v_lines m u adjusted = in_order m (v_line_of u adjusted)

abbrev pub k_lines : (n : ℕ) (k r q : List ℤ) → List ℕ
k_lines n k r q = in_order n (k_line_of k r q)

-- the listing of an accepted net, without an E line
abbrev pub accepted_listing : (m n : ℕ) (u adjusted k r q : List ℤ) → List ℕ
accepted_listing m n u adjusted k r q = adj_line m n ++ (v_lines m u adjusted ++ k_lines n k r q)

-- "A second program prints an accepted net's listing with one more line at its end": the listing as a sheet has it
unfoldable pub on_sheet : Sheet → (listing : List ℕ) → Errors → List ℕ
on_sheet Plain listing errors = listing
on_sheet WithErrors listing errors = listing ++ e_line errors.mean errors.probable

-- the bytes that hold the longest listing of a sheet: 6,560, and 46 for an E line
abbrev pub room_of : Sheet → ℕ
room_of Plain = 6560
room_of WithErrors = 6606
