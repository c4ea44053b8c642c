-- What the line reader's companion says, as a number; and the opinion on a sheet, as the line that C is told.
use Rattle.std.specs.Prelude.{ℕ}
use Rattle.sheet.specs.declared.Opinion.{Opinion}
use Rattle.sheet.specs.declared.Opinion.TheVariants.{Yes, No}
use Rattle.text.specs.declared.line.LineStatus.{LineStatus}
use Rattle.text.specs.declared.line.LineStatus.TheVariants.{Whole, NoneLeft, LfMissing}

-- "line, none left (start at or past the end) or LF missing"
abbrev pub status_number : LineStatus → ℕ
status_number Whole = 0
status_number NoneLeft = 1
status_number LfMissing = 2

-- 0 for a yes, else the line of the first test that fails
abbrev pub line_told : Opinion → ℕ
line_told Yes = 0
line_told (No line) = line
