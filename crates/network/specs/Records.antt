-- What one line of the network file says, by its letter and the count of its fields: nothing, where they are none of these. Every number of the line
-- must be well formed.
use Rattle.std.specs.Prelude.{cond, List, ℕ, eqb, ℤ, pos, length, Some, None, Option}
use Rattle.text.specs.Fields.{fields_of, field_at, letter_of}
use Rattle.text.specs.Numbers.{numeral}
use Rattle.network.specs.declared.record.Record.{Record}
use Rattle.network.specs.declared.record.Record.TheVariants.{Direction, Angles, Sides, Term}

-- the letters' codes
abbrev pub letter_A : ℕ
letter_A = 65

abbrev pub letter_C : ℕ
letter_C = 67

abbrev pub letter_D : ℕ
letter_D = 68

abbrev pub letter_F : ℕ
letter_F = 70

abbrev pub letter_L : ℕ
letter_L = 76

abbrev pub letter_P : ℕ
letter_P = 80

abbrev pub letter_R : ℕ
letter_R = 82

abbrev pub letter_S : ℕ
letter_S = 83

-- a record of what a number's text says; none, where the number is malformed
unfoldable pub with : Option ℤ → (ℤ → Option Record) → Option Record
with (Some z) record' = record' z
with None record' = None

module _ (line : List ℕ) where
  abbrev pub number : ℕ → (ℤ → Option Record) → Option Record
  number k = with (numeral (field_at line k))

  -- a record of a line with so many fields
  abbrev pub fields : ℕ → Option Record → Option Record
  fields n record' = cond (eqb (length (fields_of line)) n) record' None

  -- "D, number (1, 2, 3 and on), direction 0 to C-1, q"
  unfoldable pub direction_line : Option Record
  direction_line = fields 4 (number 1 (λ n. number 2 (λ x. number 3 (λ q. Some (Direction n x q)))))

  -- "C A target, or C S"
  unfoldable pub angles_line : Option Record
  angles_line = fields 3 (number 2 (λ z. Some (Angles z)))

  unfoldable pub sides_line : Option Record
  sides_line = fields 2 (Some Sides)

  unfoldable pub condition_line : Option Record
  condition_line = cond (eqb (letter_of (field_at line 1)) letter_A) angles_line (cond (eqb (letter_of (field_at line 1)) letter_S) sides_line None)

  -- "P i k"
  unfoldable pub angle_line : Option Record
  angle_line = fields 3 (number 1 (λ i. number 2 (λ k. Some (Term letter_P (pos 0) (pos 0) i k))))

  -- "F fixed angle"
  unfoldable pub fixed_line : Option Record
  fixed_line = fields 2 (number 1 (λ x. Some (Term letter_F x (pos 0) (pos 0) (pos 0))))

  -- "L or R, logarithm, d, i, k"
  unfoldable pub side_line : ℕ → Option Record
  side_line letter = fields 5 (number 1 (λ x. number 2 (λ d. number 3 (λ i. number 4 (λ k. Some (Term letter x d i k))))))

  unfoldable pub line_of : ℕ → Option Record
  line_of letter =
      cond (eqb letter letter_D) direction_line
      (cond (eqb letter letter_C) condition_line
      (cond (eqb letter letter_P) angle_line
      (cond (eqb letter letter_F) fixed_line
      (cond (eqb letter letter_L) (side_line letter_L)
      (cond (eqb letter letter_R) (side_line letter_R) None)))))

  unfoldable pub record_of : Option Record
  record_of = line_of (letter_of (field_at line 0))
