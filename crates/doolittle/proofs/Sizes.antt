-- Bounds under which no step of the solution overflows. Assumes nothing.
--   carried_size       what a row above adds: at most 1,000 times the bound of what it multiplies, and one
--   sum_within         a sum of at most so many terms, each within a bound
--   term_size, product_size      a term of N(j,k); a product of numbers with bounds of their own
--   parts_size         a number with the parts that up to 24 rows add to it
--   own_size           a row's own part of its correlate
--   row_end, next_row  where row j of a flat list ends, and where the next begins
use mathlib.Core.Path.{◌≡◌}
use Prim.Native.Nat.{ℕ, ◌+◌, ◌*◌, ◌≤◌, ◌<◌}
use native.Mathlib.Nat.{le_trans, le_refl, mul-le-mul_right, suc-mul}
use native.Mathlib.Numerals.{add-one}
use native.Mathlib.Omega.{arith}
use lib.IntN.{ℤ, pos, neg_ℤ, nat_abs, ◌+ℤ◌, ◌*ℤ◌}
use lib.Signed.{◌<ℤ◌}
use Rattle.exact.specs.Nearest.{nearest}
use Rattle.exact.specs.Sum.{sum}
use Rattle.exact.proofs.Bound.{abs_add, abs_mul, abs_neg, mul_le, bounded, bounds, abs_in}
use Rattle.exact.proofs.Sum.{sum_abs}
use Rattle.exact.proofs.Rounding.{nearest_size, nearest_smaller}
use Rattle.doolittle.specs.Solution.{carried}

pub carried_size : (M x : ℤ) (B : ℕ) → nat_abs M ≤ 1000000000 → nat_abs x ≤ B → nat_abs (carried M x) ≤ 1000 * B + 1
carried_size M x B h k = rounded (nearest_size (M *ℤ x) (pos 1000000) (record { lt = tt })) (mul_le h k) (abs_mul M x)
  where
    rounded : {s p r : ℕ} → 2 * (1000000 * r) ≤ 2 * s + 1000000 → p ≤ 1000000000 * B → s ≡ p → r ≤ 1000 * B + 1
    rounded a b e = omega arith

-- a sum of at most `most` terms, each within B
pub sum_within : (n most B : ℕ) (f : ℕ → ℤ) → n ≤ most → ((i : ℕ) → i < n → nat_abs (f i) ≤ B) → nat_abs (sum n f) ≤ most * B
sum_within n most B f h k = le_trans (sum_abs n B f k) (mul_le h (le_refl B))

-- a term of N(j,k)
pub term_size : (q x y : ℤ) → nat_abs q ≤ 10 → nat_abs x ≤ 2000 → nat_abs y ≤ 2000 → nat_abs (q *ℤ x *ℤ y) ≤ 40000000
term_size q x y f g h = let a = bounded q f in let b = bounded x g in let c = bounded y h in abs_in {z = q *ℤ x *ℤ y} (search bounds) tt

-- a product: a term of a sum of a*V, a*u or a*K, or q*a
pub product_size : (x y : ℤ) {A B : ℕ} → nat_abs x ≤ A → nat_abs y ≤ B → nat_abs (x *ℤ y) ≤ A * B
product_size x y f g = rw (abs_mul x y) (mul_le f g)

-- a number and the parts of at most 24 rows, or what a loop has added up of them
pub parts_size : (own : ℤ) (b O P : ℕ) (f : ℕ → ℤ) → nat_abs own ≤ O → b ≤ 24 → ((e : ℕ) → e < b → nat_abs (f e) ≤ P) → nat_abs (own +ℤ sum b f) ≤ O + 24 * P
parts_size own b O P f h k g = omega (arith, abs_add own (sum b f), sum_within b 24 P f k g)

-- a row's own part of its correlate
pub own_size : (l pivot : ℤ) → nat_abs l ≤ 4000000000 → pos 0 <ℤ pivot → nat_abs (nearest (neg_ℤ (pos 10000 *ℤ l)) pivot) ≤ 40000000000001
own_size l pivot h p = omega (arith, nearest_smaller (neg_ℤ (pos 10000 *ℤ l)) pivot p, abs_neg (pos 10000 *ℤ l), abs_mul (pos 10000) l)

-- ---- rows of a flat list, m numbers to a row
-- row j ends within the list
pub row_end : (j n m : ℕ) {len at : ℕ} → j < n → len ≡ n * m → at ≡ j * m → at + m ≤ len
row_end j n m l e f = omega (arith, e, f, mul-le-mul_right m l, suc-mul j m)

pub next_row : (j m : ℕ) {at : ℕ} → at ≡ j * m → at + m ≡ (j + 1) * m
next_row j m e = rw (add-one j, suc-mul j m) (omega (arith, e))
