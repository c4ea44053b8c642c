-- The promise leaves nothing open: two answers that keep it are equal. Assumes nothing.
--   one_answer       of `shares_three`
use mathlib.Core.Path.{◌≡◌}
use mathlib.Core.Bool.{Bool}
use mathlib.Core.List.{List}
use Prim.Native.Nat.{ℕ}
use lib.IntN.{ℤ}
use Rattle.exact.proofs.Unique.{only}
use Rattle.touched.specs.Shared.{shares_three}

pub one_answer : (a : List ℤ) (m n : ℕ) (r s : Bool) → r ≡ shares_three a m n → s ≡ shares_three a m n → r ≡ s
one_answer a m n r s x y = only x y
