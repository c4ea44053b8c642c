-- The numbers of a line, one to a field, and those behind its letter: each of at most so many digits, 11 in a network file or a sighting book.
use Rattle.std.specs.Prelude.{Bool, true, false, cond, List, [], ◌∷◌, ℕ, zero, suc, ◌+◌, eqb, ltb, ℤ, length, drop, Some, None, Option}
use Rattle.text.specs.Parts.{place_from}
use Rattle.text.specs.Lines.{LF, line_at}
use Rattle.text.specs.Fields.{fields_of, field_at, letter_of}
use Rattle.text.specs.Numbers.{numeral_within}

-- a number before others
unfoldable pub before : Option ℤ → Option (List ℤ) → Option (List ℤ)
before (Some z) (Some zs) = Some (z ∷ zs)
before (Some z) None = None
before None zs = None

-- the numbers of so many fields; none, where the count is another or a number is malformed
unfoldable pub numbers_within : (most count : ℕ) → List (List ℕ) → Option (List ℤ)
numbers_within most zero [] = Some []
numbers_within most zero (field ∷ fields) = None
numbers_within most (suc k) [] = None
numbers_within most (suc k) (field ∷ fields) = before (numeral_within most field) (numbers_within most k fields)

abbrev pub numbers_in : ℕ → List (List ℕ) → Option (List ℤ)
numbers_in count fields = numbers_within 11 count fields

-- a letter in the first field, and so many numbers behind it
unfoldable pub behind_within : (most letter count : ℕ) (line : List ℕ) → Option (List ℤ)
behind_within most letter count line = cond (eqb (letter_of (field_at line 0)) letter) (numbers_within most count (drop 1 (fields_of line))) None

abbrev pub behind_letter : (letter count : ℕ) (line : List ℕ) → Option (List ℤ)
behind_letter letter count line = behind_within 11 letter count line

-- the numbers of a row; where there is none, whatever else
unfoldable pub row_values : Option (List ℤ) → List ℤ → List ℤ
row_values (Some zs) other = zs
row_values None other = other

abbrev pub missing : Option (List ℤ) → Bool
missing (Some zs) = false
missing None = true

-- the numbers of the line at a start; none, where no LF follows
unfoldable pub row_within : (most : ℕ) (file : List ℕ) (start count : ℕ) → Option (List ℤ)
row_within most file start count = cond (ltb (place_from LF file start) (length file)) (numbers_within most count (fields_of (line_at file start))) None

abbrev pub row_at : (file : List ℕ) (start count : ℕ) → Option (List ℤ)
row_at file start count = row_within 11 file start count

-- ---- what inner functions hand each other
unfoldable pub lettered_within : (most : ℕ) (file : List ℕ) (start letter count : ℕ) → Option (List ℤ)
lettered_within most file start letter count = cond (ltb (place_from LF file start) (length file)) (behind_within most letter count (line_at file start)) None

abbrev pub behind_at : (file : List ℕ) (start letter count : ℕ) → Option (List ℤ)
behind_at file start letter count = lettered_within 11 file start letter count

-- what the reader of a row answers
unfoldable pub end_of : Option (List ℤ) → ℕ → Option ℕ
end_of (Some zs) next = Some next
end_of None next = None

unfoldable pub row_end : (most : ℕ) (file : List ℕ) (start count : ℕ) → Option ℕ
row_end most file start count = end_of (row_within most file start count) (place_from LF file start + 1)

unfoldable pub behind_end : (most : ℕ) (file : List ℕ) (start letter count : ℕ) → Option ℕ
behind_end most file start letter count = end_of (lettered_within most file start letter count) (place_from LF file start + 1)
