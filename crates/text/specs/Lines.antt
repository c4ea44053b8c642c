-- The lines of a file, "each ended by LF": the line at a start, what the companion says of that start, the list of all lines, each by its number, and
-- what stands behind them.
use Rattle.std.specs.Prelude.{Bool, cond, List, [], ◌∷◌, ℕ, ◌+◌, length, get_or, take, drop, ltb}
use Rattle.text.specs.Parts.{bytes_before, place_from, parted}
use Rattle.text.specs.declared.line.LineStatus.{LineStatus}
use Rattle.text.specs.declared.line.LineStatus.TheVariants.{Whole, NoneLeft, LfMissing}

abbrev pub LF : ℕ
LF = 10

-- "The reader hands back the line itself as the caller's own bytes, without its LF." Where none is left or its LF is missing "the part handed back is empty"
unfoldable pub line_at : List ℕ → ℕ → List ℕ
line_at file start = cond (ltb (place_from LF file start) (length file)) (take (bytes_before LF (drop start file)) (drop start file)) []

-- "A companion reply for the same start says line, none left (start at or past the end) or LF missing"
unfoldable pub status_at : List ℕ → ℕ → LineStatus
status_at file start = cond (ltb start (length file)) (cond (ltb (place_from LF file start) (length file)) Whole LfMissing) NoneLeft

-- all lines of a file that have their LF, in order, each without it; bytes after the last LF are no line
unfoldable pub lines_of : List ℕ → List (List ℕ)
lines_of file = parted LF [] file

-- how many they are, and line h, counted from 0; one that the file has not is empty
abbrev pub lines_in : List ℕ → ℕ
lines_in file = length (lines_of file)

unfoldable pub line_no : List ℕ → ℕ → List ℕ
line_no file h = get_or (lines_of file) h []

-- how many bytes these lines have, each with its LF
unfoldable pub bytes_of : List (List ℕ) → ℕ
bytes_of [] = 0
bytes_of (line ∷ lines) = length line + 1 + bytes_of lines

-- the file has more: a last line without LF
unfoldable pub unended : List ℕ → Bool
unended file = ltb (bytes_of (lines_of file)) (length file)
