-- The lines that listings have in common, byte for byte. "Tabs part these fields too." "A refusal prints one line: REFUSED, number, place."
use Rattle.std.specs.Prelude.{List, [], ◌∷◌, ◌++◌, ℕ, ℤ}
use Rattle.text.specs.Written.{signed_field, count_field, line_end}

-- two counts, and the end of the line
abbrev pub counts_end : (first second : ℕ) → List ℕ
counts_end first second = count_field first ++ (count_field second ++ line_end)

-- the first line of a listing: a word of three letters and two counts
abbrev pub heading_line : (word : List ℕ) (first second : ℕ) → List ℕ
heading_line word first second = word ++ counts_end first second

-- the head of a numbered line: its letter, a number and two signed numbers
abbrev pub line_head : ℕ → ℕ → ℤ → ℤ → List ℕ
line_head letter number first second = (letter ∷ []) ++ (count_field number ++ (signed_field first ++ signed_field second))

-- a numbered line that ends with its head
abbrev pub numbered_line : ℕ → ℕ → ℤ → ℤ → List ℕ
numbered_line letter number first second = line_head letter number first second ++ line_end

-- REFUSED, number, place
abbrev pub refused_line : ℕ → ℕ → List ℕ
refused_line number place = (82 ∷ 69 ∷ 70 ∷ 85 ∷ 83 ∷ 69 ∷ 68 ∷ []) ++ counts_end number place
