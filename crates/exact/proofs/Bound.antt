-- Bounds on the size of a whole number, which antt computes: `search bounds` finds a bound of an expression from those of its variables.
-- Assumes nothing.
--   abs_add, abs_mul, abs_neg       the size of a sum, a product, a negation; mul_le: products of naturals grow with their factors
--   Bounded, bounded, bounded_by    z with a bound of its size; of a number that equals an expression
--   bounds                          the set for `search`
--   fits_in, abs_in                 `fits_in (search bounds) tt`: the expression fits an i64; `abs_in`: it is within a numeral
--   fits_within                     a number within a numeral fits: `fits_within z h tt`; fits_of_mag from a call's `.ok`; numeral_fits: a numeral
--   read, read_at, read_within, bits_equal   what the machine reads back of a number that fits is the number; equal bits are equal numbers
use mathlib.Core.Path.{◌≡◌, refl, sym, ◌∙◌, ap}
use Prim.Native.Nat.{ℕ, zero, suc, ◌+◌, ◌*◌, ◌<◌, ◌≤◌, ◌^◌}
use native.Mathlib.Nat.{le_trans, mul-le-mul_left, mul-le-mul_right, le_refl}
use native.Mathlib.Omega.{arith}
use lib.Dec.{T, ltb, leb, ltb→lt, leb→le}
use lib.IntN.{ℤ, pos, negsuc, neg_ℤ, nat_abs, ◌+ℤ◌, ◌*ℤ◌}
use lib.Signed.{mag}
use mir.Syntax.{w64}
use mir.Val.{SFits, to_z, of_z}
use mir.ValLaws.{to_z-of_z}
use Rattle.std.proofs.lemmas.Int.{ints, unsigned_abs-mul, fits_signed_from_abs}

-- ---- the size of a sum, a negation, a product
pub abs_add : (a b : ℤ) → nat_abs (a +ℤ b) ≤ nat_abs a + nat_abs b
abs_add a b = omega (arith, ints)

pub abs_neg : (a : ℤ) → nat_abs (neg_ℤ a) ≡ nat_abs a
abs_neg (pos zero) = refl
abs_neg (pos (suc n)) = refl
abs_neg (negsuc n) = refl

pub abs_mul : (a b : ℤ) → nat_abs (a *ℤ b) ≡ nat_abs a * nat_abs b
abs_mul a b = unsigned_abs-mul a b

pub mul_le : {a b c d : ℕ} → a ≤ c → b ≤ d → a * b ≤ c * d
mul_le {a} {b} {c} {d} h k = le_trans (mul-le-mul_left a k) (mul-le-mul_right d h)

-- ---- a bound, and how it is found
pub record Bounded (z : ℤ) : Type 0 where
  pub bound : ℕ
  pub within : nat_abs z ≤ bound

abbrev pub bounded : (z : ℤ) {b : ℕ} → nat_abs z ≤ b → Bounded z
bounded z {b} h = record { bound = b; within = h }

module _ {x y : ℤ} (s : Bounded x) (t : Bounded y) where
  pub within_add : nat_abs (x +ℤ y) ≤ s.bound + t.bound
  within_add = omega (arith, abs_add x y)

  pub within_mul : nat_abs (x *ℤ y) ≤ s.bound * t.bound
  within_mul = rw (abs_mul x y) (mul_le s.within t.within)

  abbrev pub bounded_add : Bounded (x +ℤ y)
  bounded_add = bounded (x +ℤ y) within_add

  abbrev pub bounded_mul : Bounded (x *ℤ y)
  bounded_mul = bounded (x *ℤ y) within_mul

pub within_neg : {x : ℤ} (s : Bounded x) → nat_abs (neg_ℤ x) ≤ s.bound
within_neg {x} s = rw (abs_neg x) s.within

abbrev pub bounded_neg : {x : ℤ} → Bounded x → Bounded (neg_ℤ x)
bounded_neg {x} s = bounded (neg_ℤ x) (within_neg s)

abbrev pub bounded_pos : (n : ℕ) → Bounded (pos n)
bounded_pos n = bounded (pos n) (le_refl n)

abbrev pub bounded_negsuc : (n : ℕ) → Bounded (negsuc n)
bounded_negsuc n = bounded (negsuc n) (le_refl (suc n))

pub within_equal : {x y : ℤ} → x ≡ y → (s : Bounded y) → nat_abs x ≤ s.bound
within_equal e s = rw e s.within

-- a number that equals an expression: `let r = bounded_by c.f.ensures (search bounds) in ..`
abbrev pub bounded_by : {x y : ℤ} → x ≡ y → Bounded y → Bounded x
bounded_by {x} e s = bounded x (within_equal e s)

-- ---- bits
pub read : {z : ℤ} → SFits w64 z → to_z w64 (of_z w64 z) ≡ z
read {z} f = to_z-of_z w64 z f

-- what `a == b` on signed numbers tells
pub bits_equal : {a b : ℤ} → SFits w64 a → SFits w64 b → of_z w64 a ≡ of_z w64 b → a ≡ b
bits_equal f g e = sym (read f) ∙ ap (to_z w64) e ∙ read g

-- the same, of an element of a list or a call's result, by what its read or the call tells
pub read_at : (z : ℤ) → mag z < 2 ^ 63 → to_z w64 (of_z w64 z) ≡ z
read_at z h = read (record { sfits = h })

-- a bound of an element of a list is one of what the machine reads of it
pub read_within : (z : ℤ) {b : ℕ} → mag z < 2 ^ 63 → nat_abs z ≤ b → nat_abs (to_z w64 (of_z w64 z)) ≤ b
read_within z f h = rw (read_at z f) h

abbrev pub bounded_read : {x : ℤ} → SFits w64 x → Bounded x → Bounded (to_z w64 (of_z w64 x))
bounded_read f s = bounded_by (read f) s

pub fits_of_mag : (z : ℤ) → mag z < 2 ^ 63 → SFits w64 z
fits_of_mag z h = record { sfits = h }

pub ruleset bounds = (bounded_add, bounded_mul, bounded_neg, bounded_pos, bounded_negsuc, bounded_read, fits_of_mag)

-- ---- what a bound shows
pub abs_fits : {z : ℤ} → nat_abs z < 2 ^ 63 → SFits w64 z
abs_fits {z} h = fits_signed_from_abs w64 z h

pub fits_in : {z : ℤ} (s : Bounded z) → T (ltb s.bound (2 ^ 63)) → SFits w64 z
fits_in {z} s t = abs_fits (omega (arith, ltb→lt s.bound (2 ^ 63) t))

pub abs_in : {z : ℤ} {m : ℕ} (s : Bounded z) → T (leb s.bound m) → nat_abs z ≤ m
abs_in {z} {m} s t = omega (arith, leb→le s.bound m t)

pub fits_within : (z : ℤ) {m : ℕ} → nat_abs z ≤ m → T (ltb m (2 ^ 63)) → SFits w64 z
fits_within z {m} h t = abs_fits (omega (arith, ltb→lt m (2 ^ 63) t))

pub numeral_fits : (n : ℕ) → T (ltb n (2 ^ 63)) → SFits w64 (pos n)
numeral_fits n t = fits_in (bounded_pos n) t
