-- A dozen files through the rules of refusals 1 to 3, by computation; the program of figures/ runs the others. Assumes nothing.
-- In the comments a blank stands for a tab, and | for an LF.
use mathlib.Core.Path.{◌≡◌, refl}
use mathlib.Core.List.{List, [], ◌∷◌}
use Prim.Native.Nat.{ℕ}
use Rattle.reply.specs.declared.Refusal.TheVariants.{Malformed, Count, OutOfRange}
use Rattle.text.specs.Parts.{on_first, parted}
use Rattle.text.specs.Fields.{fields_of, field_at, letter_of}
use Rattle.text.specs.Numbers.{read_digits, unsigned_of, plus, minus, numeral_within}
use Rattle.network.specs.Records.{with, direction_line, angles_line, sides_line, condition_line, angle_line, fixed_line, side_line, line_of, record_of}
use Rattle.exact.specs.Same.{same}
use Rattle.condition.specs.Terms as terms
use Rattle.network.specs.Scan.{belongs, out_of_turn, one_too_many, direction_reply, angles_reply, sides_reply, term_reply, line_reply, counted, end_fault, end_reply, scanned, scan_reply}
use Rattle.std.specs.Prelude.{Ok, Err}

-- Within a line 1 comes first, then 2, then 3
-- D 7 -1 x|
abbrev pub broken : List ℕ
broken =
    68 ∷ 9 ∷ 55 ∷ 9 ∷ 45 ∷ 49 ∷ 9 ∷ 120 ∷ 10 ∷ []

-- D 7 -1 99|
abbrev two : List ℕ
two =
    68 ∷ 9 ∷ 55 ∷ 9 ∷ 45 ∷ 49 ∷ 9 ∷ 57 ∷ 57 ∷ 10 ∷ []

-- D 1 -1 99|
abbrev three : List ℕ
three =
    68 ∷ 9 ∷ 49 ∷ 9 ∷ 45 ∷ 49 ∷ 9 ∷ 57 ∷ 57 ∷ 10 ∷ []

-- A last line without LF
-- D 1 0 1|C A 0|P 0 1
abbrev no_lf : List ℕ
no_lf =
    68 ∷ 9 ∷ 49 ∷ 9 ∷ 48 ∷ 9 ∷ 49 ∷ 10 ∷ 67 ∷ 9 ∷ 65 ∷ 9 ∷ 48 ∷ 10 ∷ 80 ∷ 9 ∷ 48 ∷ 9 ∷ 49 ∷ []

-- A D line after a C
-- D 1 0 1|C A 0|D 2 0 1|
abbrev late_d : List ℕ
late_d =
    68 ∷ 9 ∷ 49 ∷ 9 ∷ 48 ∷ 9 ∷ 49 ∷ 10 ∷ 67 ∷ 9 ∷ 65 ∷ 9 ∷ 48 ∷ 10 ∷ 68 ∷ 9 ∷ 50 ∷ 9 ∷ 48 ∷ 9 ∷ 49 ∷ 10 ∷ []

-- D 1 0 1|C S|P 0 1|
abbrev wrong_heading : List ℕ
wrong_heading =
    68 ∷ 9 ∷ 49 ∷ 9 ∷ 48 ∷ 9 ∷ 49 ∷ 10 ∷ 67 ∷ 9 ∷ 83 ∷ 10 ∷ 80 ∷ 9 ∷ 48 ∷ 9 ∷ 49 ∷ 10 ∷ []

-- A condition without terms, seen by the next C and at the end
-- D 1 0 1|C A 0|C S|
abbrev bare : List ℕ
bare =
    68 ∷ 9 ∷ 49 ∷ 9 ∷ 48 ∷ 9 ∷ 49 ∷ 10 ∷ 67 ∷ 9 ∷ 65 ∷ 9 ∷ 48 ∷ 10 ∷ 67 ∷ 9 ∷ 83 ∷ 10 ∷ []

-- D 1 0 1|C A 0|
abbrev bare_end : List ℕ
bare_end =
    68 ∷ 9 ∷ 49 ∷ 9 ∷ 48 ∷ 9 ∷ 49 ∷ 10 ∷ 67 ∷ 9 ∷ 65 ∷ 9 ∷ 48 ∷ 10 ∷ []

-- n above m
-- D 1 0 1|C A 0|P 0 1|C A 0|P 0 1|
abbrev more_than_m : List ℕ
more_than_m =
    68 ∷ 9 ∷ 49 ∷ 9 ∷ 48 ∷ 9 ∷ 49 ∷ 10 ∷ 67 ∷ 9 ∷ 65 ∷ 9 ∷ 48 ∷ 10 ∷ 80 ∷ 9 ∷ 48 ∷ 9 ∷ 49 ∷ 10 ∷ 67 ∷ 9 ∷ 65 ∷ 9 ∷ 48 ∷ 10 ∷ 80 ∷ 9 ∷ 48 ∷ 9 ∷ 49 ∷ 10 ∷ []

-- With m = 0 a term's range is seen at its line
-- C A 0|P 0 1|
abbrev no_direction : List ℕ
no_direction =
    67 ∷ 9 ∷ 65 ∷ 9 ∷ 48 ∷ 10 ∷ 80 ∷ 9 ∷ 48 ∷ 9 ∷ 49 ∷ 10 ∷ []

-- A fixed length is allowed, another side term with i = k is not
-- D 1 0 1|C S|L 5 0 0 0|
abbrev fixed_length : List ℕ
fixed_length =
    68 ∷ 9 ∷ 49 ∷ 9 ∷ 48 ∷ 9 ∷ 49 ∷ 10 ∷ 67 ∷ 9 ∷ 83 ∷ 10 ∷ 76 ∷ 9 ∷ 53 ∷ 9 ∷ 48 ∷ 9 ∷ 48 ∷ 9 ∷ 48 ∷ 10 ∷ []

-- D 1 0 1|C S|R 5 0 1 1|
abbrev fixed_elsewhere : List ℕ
fixed_elsewhere =
    68 ∷ 9 ∷ 49 ∷ 9 ∷ 48 ∷ 9 ∷ 49 ∷ 10 ∷ 67 ∷ 9 ∷ 83 ∷ 10 ∷ 82 ∷ 9 ∷ 53 ∷ 9 ∷ 48 ∷ 9 ∷ 49 ∷ 9 ∷ 49 ∷ 10 ∷ []

pub figures :
    (scan_reply broken ≡ Err (Malformed 1))
    × (scan_reply two ≡ Err (Count 1))
    × (scan_reply three ≡ Err (OutOfRange 1))
    × (scan_reply no_lf ≡ Err (Malformed 3))
    × (scan_reply late_d ≡ Err (Malformed 3))
    × (scan_reply wrong_heading ≡ Err (Malformed 3))
    × (scan_reply bare ≡ Err (Count 3))
    × (scan_reply bare_end ≡ Err (Count 0))
    × (scan_reply more_than_m ≡ Err (Count 0))
    × (scan_reply no_direction ≡ Err (OutOfRange 2))
    × (scan_reply fixed_length ≡ Ok tt)
    × (scan_reply fixed_elsewhere ≡ Err (OutOfRange 3))
unfolding
    scan_reply scanned end_reply end_fault counted line_reply term_reply angles_reply sides_reply direction_reply one_too_many out_of_turn belongs
    terms.term_fault terms.letter_of same
    record_of line_of side_line fixed_line angle_line condition_line sides_line angles_line direction_line with
    letter_of field_at fields_of parted on_first numeral_within minus plus unsigned_of read_digits
figures = (refl, refl, refl, refl, refl, refl, refl, refl, refl, refl, refl, refl)
