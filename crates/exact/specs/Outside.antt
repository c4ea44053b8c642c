-- A range of whole numbers.
use Rattle.std.specs.Prelude.{Bool, ◌||◌, ℤ}
use Rattle.std.specs.Int.Signed.{lt_z}

-- z is not from low to high
abbrev pub outside : ℤ → ℤ → ℤ → Bool
outside low high z = lt_z z low || lt_z high z
