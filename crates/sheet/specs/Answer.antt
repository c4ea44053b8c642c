-- What the program prints of an opinion, byte for byte: YES, or NO and the line, or REFUSED, number and place, parted by tabs and closed by LF.
use Rattle.std.specs.Prelude.{cond, List, [], ◌∷◌, ◌++◌, ℕ, ltb, Result, Ok, Err}
use Rattle.reply.specs.Numbers.{number_of, place_of}
use Rattle.text.specs.Written.{count_field, line_end}
use Rattle.page.specs.Lines.{refused_line}
use Rattle.reply.specs.declared.Refusal.{Refusal}
use Rattle.sheet.specs.declared.Opinion.{Opinion}
use Rattle.sheet.specs.declared.Opinion.TheVariants.{Yes, No}
use Rattle.sheet.specs.Check.{opinion_of}

abbrev pub yes_line : List ℕ
yes_line = (89 ∷ 69 ∷ 83 ∷ []) ++ line_end

abbrev pub no_line : (line : ℕ) → List ℕ
no_line line = (78 ∷ []) ++ ((79 ∷ []) ++ (count_field line ++ line_end))

unfoldable pub answer_line : Result Opinion Refusal → List ℕ
answer_line (Ok Yes) = yes_line
answer_line (Ok (No line)) = no_line line
answer_line (Err why) = refused_line (number_of why) (place_of why)

-- what goes into a lent buffer of so many bytes: nothing, where it could not hold any answer
unfoldable pub answer_in : (net listing : List ℕ) (room : ℕ) → List ℕ
answer_in net listing room = cond (ltb room 52) [] (answer_line (opinion_of net listing))
