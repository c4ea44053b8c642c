-- A direction number, cast for an index. Assumes nothing.
--   number_read, number_cast
use mathlib.Core.Path.{◌≡◌}
use Prim.Native.Nat.{ℕ, ◌<◌, ◌^◌}
use native.Mathlib.Omega.{arith}
use lib.Dec.{T}
use lib.IntN.{ℤ, nat_abs}
use lib.Signed.{non_neg, yes_non_neg}
use mir.Syntax.{w64}
use mir.Val.{Fits, to_z, of_z}
use Rattle.exact.proofs.Bound.{abs_fits, read}
use Rattle.condition.specs.Sound.{Number}

module _ (m : ℕ) (z : ℤ) (n : Number m z) (l : m < 2 ^ 63) where
  pub number_read : to_z w64 (of_z w64 z) ≡ z
  number_read = read (abs_fits (omega (arith, n.high)))

  pub number_cast : T (non_neg (to_z w64 (of_z w64 z))) × Fits w64 (nat_abs (to_z w64 (of_z w64 z)))
  number_cast = rw number_read (yes_non_neg n.low, record { fits = omega (arith, n.high) })
