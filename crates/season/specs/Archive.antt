-- The nets of an archive: "Input is network files one after another, each closed by a line with a single full stop."
use Rattle.std.specs.Prelude.{Bool, cond, List, [], ◌∷◌, ◌++◌, ℕ, eqb}
use Rattle.text.specs.Fields.{letter_of}
use Rattle.text.specs.Lines.{LF}
use Rattle.text.specs.Parts.{onto, parted}

abbrev pub STOP : ℕ
STOP = 46

-- a line, without its LF, that is a single full stop
unfoldable pub stops : List ℕ → Bool
stops line = eqb (letter_of line) STOP

abbrev pub if_last : {A : Type 0} → List (List ℕ) → A → A → A
if_last [] last more = last
if_last (line ∷ lines) last more = more

-- the parts of an archive, by its lines, of which the last has no LF: a full stop line ends a part, and belongs to none; any other line is its
-- part's, with its LF. So each part but the last is a net that is closed, and the last is what is left after the last full stop line
unfoldable pub parts_in : List (List ℕ) → List (List ℕ)
parts_in [] = []
parts_in (line ∷ lines) = if_last lines (line ∷ []) (cond (stops line) ([] ∷ parts_in lines) (onto (line ++ (LF ∷ [])) (parts_in lines)))

unfoldable pub parts_of : List ℕ → List (List ℕ)
parts_of archive = parts_in (parted LF ([] ∷ []) archive)
