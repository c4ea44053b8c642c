-- The fields of a line, "parted by tabs".
use Rattle.std.specs.Prelude.{cond, List, [], ◌∷◌, ℕ, eqb, length, get_or}
use Rattle.text.specs.Parts.{parted}

abbrev pub TAB : ℕ
TAB = 9

-- what comes after the last tab is a field too
unfoldable pub fields_of : List ℕ → List (List ℕ)
fields_of line = parted TAB ([] ∷ []) line

unfoldable pub field_at : List ℕ → ℕ → List ℕ
field_at line k = get_or (fields_of line) k []

-- the letter of a field of one byte; 0, which is no letter, of any other
unfoldable pub letter_of : List ℕ → ℕ
letter_of text = cond (eqb (length text) 1) (get_or text 0 0) 0
