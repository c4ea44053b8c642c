-- What inner functions hand each other: the line at a start, read from its letter to its LF.
use Rattle.std.specs.Prelude.{cond, List, ℕ, ◌+◌, eqb, ltb, ℤ, pos, length, get_or, Option, None, Some}
use Rattle.text.specs.Parts.{place_from}
use Rattle.text.specs.Lines.{LF, line_at}
use Rattle.text.specs.Rows.{row_at}
use Rattle.network.specs.Records.{letter_C, letter_D, letter_F, letter_L, letter_P, letter_R, record_of}
use Rattle.network.specs.declared.record.Record.{Record}
use Rattle.network.specs.declared.record.Record.TheVariants.{Direction, Angles, Term}
use Rattle.network.specs.declared.record.Turn.{Turn}

-- a line that says something, before the next one
unfoldable pub turned : Option Record → (next : ℕ) → Option Turn
turned (Some said) next = Some (record { said = said; next = next })
turned None next = None

-- the line at a start; none, where no LF follows
unfoldable pub turn_at : (file : List ℕ) (start : ℕ) → Option Turn
turn_at file start = cond (ltb (place_from LF file start) (length file)) (turned (record_of (line_at file start)) (place_from LF file start + 1)) None

-- ---- a line of numbers behind its letter; C stands for a line C A
unfoldable pub numbers_of : (letter : ℕ) → Option ℕ
numbers_of letter =
    cond (eqb letter letter_D) (Some 3)
    (cond (eqb letter letter_C) (Some 1)
    (cond (eqb letter letter_P) (Some 2)
    (cond (eqb letter letter_F) (Some 1)
    (cond (eqb letter letter_L) (Some 4)
    (cond (eqb letter letter_R) (Some 4) None)))))

unfoldable pub record_with : (letter : ℕ) → List ℤ → Record
record_with letter x =
    cond (eqb letter letter_D) (Direction (get_or x 0 (pos 0)) (get_or x 1 (pos 0)) (get_or x 2 (pos 0)))
    (cond (eqb letter letter_C) (Angles (get_or x 0 (pos 0)))
    (cond (eqb letter letter_P) (Term letter (pos 0) (pos 0) (get_or x 0 (pos 0)) (get_or x 1 (pos 0)))
    (cond (eqb letter letter_F) (Term letter (get_or x 0 (pos 0)) (pos 0) (pos 0) (pos 0))
    (Term letter (get_or x 0 (pos 0)) (get_or x 1 (pos 0)) (get_or x 2 (pos 0)) (get_or x 3 (pos 0))))))

unfoldable pub record_in : (letter : ℕ) → Option (List ℤ) → Option Record
record_in letter (Some zs) = Some (record_with letter zs)
record_in letter None = None

-- with so many numbers, if any
unfoldable pub numbered_with : (file : List ℕ) (at letter : ℕ) → Option ℕ → Option Record
numbered_with file at letter (Some count) = record_in letter (row_at file at count)
numbered_with file at letter None = None

unfoldable pub numbered_at : (file : List ℕ) (at letter : ℕ) → Option Turn
numbered_at file at letter = turned (numbered_with file at letter (numbers_of letter)) (place_from LF file at + 1)
