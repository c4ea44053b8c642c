-- The order of ℤ: laws that lib.Signed lacks. The linear ones have one proof, `omega` over differences. Assumes nothing.
--   le_trans, le_antisym, lt_le                 the order itself; lt_or_le: one of two numbers is the lesser
--   from_one, from_size                         a number from 1 on is above 0; the size of a number above 0 is 1 or more
--   add_le, sub_nonneg                          with sums
--   mul_nonneg, mul_le_left, square_nonneg      with products
--   same_by                                     numbers whose difference is 0 are equal
--   mul_zero, square_zero, mul_cancel           a product is 0 only where a factor is; a square of positive weight only at 0; a factor above 0 goes out
--   lt_yes                                      the test passes where the first number is the lesser
--   lt_true, lt_false                           what a test of two signed numbers told
use mathlib.Core.Path.{◌≡◌, refl, ap}
use mathlib.Core.Bool.{true, false}
use mathlib.Core.List.{[], ◌∷◌}
use mathlib.Core.Logic.{◌⊎◌, inl, inr, ⊎_elim}
use Prim.Native.Nat.{zero, suc, ◌*◌, ◌≤◌, zero-le}
use native.Mathlib.Omega.{arith}
use lib.Dec.{le→leb}
use lib.IntN.{ℤ, pos, negsuc, nat_abs, ◌+ℤ◌, ◌-ℤ◌, ◌*ℤ◌}
use Rattle.std.proofs.lemmas.Int.{ints, by_lt_z}
use lib.Signed.{lt_z, ◌≤ℤ◌, ◌<ℤ◌}
use Rattle.exact.proofs.Linear.{unknowns, linear, eq_by, le_by, le_of, eq_of}

pub le_trans : {a b c : ℤ} → a ≤ℤ b → b ≤ℤ c → a ≤ℤ c
le_trans h k = omega (arith, ints)

pub add_le : {a b c d : ℤ} → a ≤ℤ b → c ≤ℤ d → (a +ℤ c) ≤ℤ (b +ℤ d)
add_le h k = omega (arith, ints)

pub lt_le : {a b : ℤ} → a <ℤ b → a ≤ℤ b
lt_le h = omega (arith, ints)

pub from_one : (x : ℤ) → pos 1 ≤ℤ x → pos 0 <ℤ x
from_one x h = omega (arith, ints)

pub from_size : (x : ℤ) → pos 0 <ℤ x → 1 ≤ nat_abs x
from_size x h = omega (arith, ints)

pub le_antisym : {a b : ℤ} → a ≤ℤ b → b ≤ℤ a → a ≡ b
le_antisym h k = omega (arith, ints)

pub sub_nonneg : {a b : ℤ} → a ≤ℤ b → pos 0 ≤ℤ (b -ℤ a)
sub_nonneg h = omega (arith, ints)

pub mul_nonneg : {a b : ℤ} → pos 0 ≤ℤ a → pos 0 ≤ℤ b → pos 0 ≤ℤ (a *ℤ b)
mul_nonneg {a = pos a} {b = pos b} h k = record { le = le→leb 0 (a * b) zero-le }
mul_nonneg {a = pos a} {b = negsuc b} h k = absurd k.le
mul_nonneg {a = negsuc a} {b} h k = absurd h.le

pub mul_le_left : {a b : ℤ} (c : ℤ) → pos 0 ≤ℤ c → a ≤ℤ b → (c *ℤ a) ≤ℤ (c *ℤ b)
mul_le_left {a} {b} c h k =
    let v = unknowns (a ∷ b ∷ c ∷ []) in
    le_by (search linear) (search linear) (omega (arith, le_of (mul_nonneg h (sub_nonneg k)) (search linear) (search linear)))

pub square_nonneg : (a : ℤ) → pos 0 ≤ℤ (a *ℤ a)
square_nonneg (pos a) = record { le = le→leb 0 (a * a) zero-le }
square_nonneg (negsuc a) = record { le = le→leb 0 (suc a * suc a) zero-le }

-- a product is 0 only where a factor is
pub mul_zero : (a b : ℤ) → a *ℤ b ≡ pos 0 → (a ≡ pos 0) ⊎ (b ≡ pos 0)
mul_zero (pos zero) b e = inl refl
mul_zero (pos (suc a)) (pos zero) e = inr refl
mul_zero (pos (suc a)) (pos (suc b)) e = absurd (omega (arith, ap nat_abs e))
mul_zero (pos (suc a)) (negsuc b) e = absurd (omega (arith, ints))
mul_zero (negsuc a) (pos zero) e = inr refl
mul_zero (negsuc a) (pos (suc b)) e = absurd (omega (arith, ints))
mul_zero (negsuc a) (negsuc b) e = absurd (omega (arith, ap nat_abs e))

-- and where the first factor is above 0, the other one is 0
other_zero : (g z : ℤ) → pos 0 <ℤ g → g *ℤ z ≡ pos 0 → z ≡ pos 0
other_zero g z h e = ⊎_elim (λ (f : g ≡ pos 0). absurd (omega (arith, ints))) (λ f. f) (mul_zero g z e)

-- a square of positive weight is 0 only at 0
pub square_zero : (g z : ℤ) → pos 0 <ℤ g → g *ℤ (z *ℤ z) ≡ pos 0 → z ≡ pos 0
square_zero g z h e = ⊎_elim (λ x. x) (λ x. x) (mul_zero z z (other_zero g (z *ℤ z) h e))

pub same_by : (x y : ℤ) → x -ℤ y ≡ pos 0 → x ≡ y
same_by x y e = omega (arith, ints)

pub mul_cancel : (c x y : ℤ) → pos 0 <ℤ c → c *ℤ x ≡ c *ℤ y → x ≡ y
mul_cancel c x y h e =
    let v = unknowns (c ∷ x ∷ y ∷ []) in
    same_by x y (other_zero c (x -ℤ y) h (eq_by (search linear) (search linear) (omega (arith, eq_of e (search linear) (search linear)))))

pub lt_or_le : (a b : ℤ) → (a <ℤ b) ⊎ (b ≤ℤ a)
lt_or_le a b = by_lt_z a b inl inr

-- ---- a test of two numbers
pub lt_yes : (a b : ℤ) → a <ℤ b → lt_z a b ≡ true
lt_yes a b h = grind (arith, ints)

-- ---- what a test told of a and b, where the code compared x and y that equal them
module _ {x y a b : ℤ} where
  pub lt_true : lt_z x y ≡ true → x ≡ a → y ≡ b → a <ℤ b
  lt_true e p q = grind (arith, ints)

  pub lt_false : lt_z x y ≡ false → x ≡ a → y ≡ b → b ≤ℤ a
  lt_false e p q = grind (arith, ints)
