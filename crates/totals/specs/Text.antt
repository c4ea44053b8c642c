-- The text of a season report, byte for byte: NETS, ACCEPTED, nine lines COUNT, A, S, SHARED, fields parted by tabs, lines ended by LF, and where a net
-- past 100,000 came a last line REFUSED. The lines are numbered from 0, and the totals stand at their places (Totals.antt).
use Rattle.std.specs.Prelude.{Bool, cond, ◌||◌, List, [], ◌∷◌, ◌++◌, ℕ, ◌+◌, ◌-◌, eqb, ltb, length, get_or}
use Rattle.text.specs.Written.{count_field, line_end, in_order}
use Rattle.page.specs.Lines.{refused_line}
use Rattle.totals.specs.Promise.{most_nets}

-- what a line begins with: its word, and of a COUNT line its number
unfoldable pub head_of : (line : ℕ) → List ℕ
head_of line =
    cond (eqb line 0) (78 ∷ 69 ∷ 84 ∷ 83 ∷ [])
    (cond (eqb line 1) (65 ∷ 67 ∷ 67 ∷ 69 ∷ 80 ∷ 84 ∷ 69 ∷ 68 ∷ [])
    (cond (eqb line 11) (65 ∷ [])
    (cond (eqb line 12) (83 ∷ [])
    (cond (ltb line 11) ((67 ∷ 79 ∷ 85 ∷ 78 ∷ 84 ∷ []) ++ count_field (line - 1))
    (83 ∷ 72 ∷ 65 ∷ 82 ∷ 69 ∷ 68 ∷ [])))))

-- where the line's number stands among the totals
unfoldable pub place_of : (line : ℕ) → ℕ
place_of line = cond (ltb line 12) line (cond (eqb line 12) 13 15)

-- lines A and S have two numbers, a sum and a largest
unfoldable pub pair_on : (line : ℕ) → Bool
pair_on line = eqb line 11 || eqb line 12

unfoldable pub ending_of : (totals : List ℕ) (line : ℕ) → List ℕ
ending_of totals line = cond (pair_on line) (count_field (get_or totals (place_of line + 1) 0) ++ line_end) line_end

unfoldable pub line_of : (totals : List ℕ) (line : ℕ) → List ℕ
line_of totals line = head_of line ++ (count_field (get_or totals (place_of line) 0) ++ ending_of totals line)

unfoldable pub last_line : (past : Bool) → List ℕ
last_line past = cond past (refused_line 30 (most_nets + 1)) []

unfoldable pub report_text : (totals : List ℕ) (past : Bool) → List ℕ
report_text totals past = in_order 14 (line_of totals) ++ last_line past

-- bytes that hold any report: 72 for each of the fourteen lines, where every number had 20 digits, and 52 for the last
abbrev pub longest_report : ℕ
longest_report = 1060

-- what goes into a lent buffer of so many bytes: nothing, where the totals are not sixteen or the buffer could not hold the longest report
unfoldable pub report_in : (room : ℕ) (totals : List ℕ) (past : Bool) → List ℕ
report_in room totals past = cond (eqb (length totals) 16) (cond (ltb room longest_report) [] (report_text totals past)) []
