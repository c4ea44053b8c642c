-- Bytes written into a lent buffer: fields, the end of a line, lines in their order.
use Rattle.std.specs.Prelude.{◌≡◌, List, [], ◌∷◌, ◌++◌, ℕ, zero, suc, ◌+◌, ◌≤◌, length, ℤ}
use Rattle.std.proofs.lemmas.List.Edits.{sets}
use Rattle.text.specs.declared.writer.Writer.{Writer}
use Rattle.text.specs.Decimal.{digits_of, written}

-- a field: a tab (9) and a number
abbrev pub signed_field : ℤ → List ℕ
signed_field z = 9 ∷ written z

abbrev pub count_field : ℕ → List ℕ
count_field n = 9 ∷ digits_of n

-- the end of a line: LF
abbrev pub line_end : List ℕ
line_end = 10 ∷ []

-- n lines in their order
unfoldable pub in_order : ℕ → (ℕ → List ℕ) → List ℕ
in_order zero line = []
in_order (suc n) line = in_order n line ++ line n

-- bytes written into a buffer from a place on, and the place after them
pub record Wrote (before : List ℕ) (at : ℕ) (bytes after : List ℕ) (next : ℕ) : Type 0 where
  pub buffer : after ≡ sets before at bytes
  pub place : next ≡ at + length bytes

-- these bytes, at most so many, go into a writer's buffer from its place on
pub record Puts (before : Writer) (bytes : List ℕ) (most : ℕ) (after : Writer) : Type 0 where
  pub wrote : Wrote before.out.now before.at bytes after.out.now after.at
  pub few : after.at ≤ before.at + most
  pub room : length after.out.now ≡ length before.out.now
  -- it is still the same buffer
  pub same : after.out.ghost_name ≡ before.out.ghost_name
