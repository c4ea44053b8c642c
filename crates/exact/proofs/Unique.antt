-- The promises leave nothing open: two answers that keep one are equal. Assumes nothing.
--   only                                two answers that are what one rule says are equal: every layer's uniqueness cites this law
--   one_nearest, one_floor, one_modulo, one_magnitude, one_outside, one_beyond      of each public step
use mathlib.Core.Path.{◌≡◌, sym, ◌∙◌}
use mathlib.Core.Bool.{Bool}
use mathlib.Core.List.{List}
use Prim.Native.Nat.{ℕ}
use lib.Dec.{ltb}
use lib.IntN.{ℤ, nat_abs}
use Rattle.std.specs.List.{list_any}
use Rattle.exact.specs.Nearest.{nearest}
use Rattle.exact.specs.Circle.{floor, modulo}
use Rattle.exact.specs.Outside.{outside}

pub only : {A : Type 0} {rule a b : A} → a ≡ rule → b ≡ rule → a ≡ b
only x y = x ∙ sym y

pub one_nearest : (n d r r' : ℤ) → r ≡ nearest n d → r' ≡ nearest n d → r ≡ r'
one_nearest n d r r' x y = only x y

pub one_floor : (n d r r' : ℤ) → r ≡ floor n d → r' ≡ floor n d → r ≡ r'
one_floor n d r r' x y = only x y

pub one_modulo : (z m r r' : ℤ) → r ≡ modulo z m → r' ≡ modulo z m → r ≡ r'
one_modulo z m r r' x y = only x y

pub one_magnitude : (z : ℤ) (r r' : ℕ) → r ≡ nat_abs z → r' ≡ nat_abs z → r ≡ r'
one_magnitude z r r' x y = only x y

pub one_outside : (low high z : ℤ) (r r' : Bool) → r ≡ outside low high z → r' ≡ outside low high z → r ≡ r'
one_outside low high z r r' x y = only x y

pub one_beyond : (most : ℕ) (xs : List ℤ) (r r' : Bool) → r ≡ list_any (λ x. ltb most (nat_abs x)) xs → r' ≡ list_any (λ x. ltb most (nat_abs x)) xs → r ≡ r'
one_beyond most xs r r' x y = only x y
