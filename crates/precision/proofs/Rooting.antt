-- The laws of the whole root. Assumes nothing.
--   root_within, root_above      e*e*c is not above s, and (e + 1)*(e + 1)*c is
--   root_only, root_largest      e is the only such number, and the largest whose square, c times, is not above s
use mathlib.Core.Path.{◌≡◌, refl}
use mathlib.Core.Bool.{Bool, true, false, cond}
use Prim.Native.Nat.{ℕ, zero, suc, ◌+◌, ◌*◌, ◌≤◌, ◌<◌}
use native.Mathlib.Nat.{le_refl}
use native.Mathlib.Decide.{dec_lt}
use native.Mathlib.Omega.{arith}
use borrow.Author.Tests.{ltb-true, ltb-false}
use lib.Dec.{ltb}
use Rattle.exact.proofs.Bound.{mul_le}
use Rattle.precision.specs.Errors.{climb, root}

module _ (c : ℕ) where
  -- e*e*c
  abbrev square : ℕ → ℕ
  square e = e * e * c

  grows : {a b : ℕ} → a ≤ b → square a ≤ square b
  grows l = mul_le (mul_le l l) (le_refl c)

  -- a number is not above its own square
  own : 0 < c → (e : ℕ) → e ≤ square e
  own h zero = omega arith
  own h (suc e) =
      let once : suc e * 1 ≤ suc e * suc e = mul_le (le_refl (suc e)) (omega arith) in
      let times : suc e * 1 * 1 ≤ square (suc e) = mul_le once h in
      omega arith

  -- where a square is not above s, and another is, the first number is not above the other
  below : (s a b : ℕ) → square a ≤ s → s < square (b + 1) → a ≤ b
  below s a b l k = by_order (dec_lt b a)
    where
      by_order : Dec (b < a) → a ≤ b
      by_order (yes m) = absurd (omega (arith, l, k, grows {a = b + 1} {b = a} (omega arith)))
      by_order (no m) = omega arith

  module _ (h : 0 < c) (s : ℕ) where
    Between : ℕ → Type 0
    Between e = (square e ≤ s) × (s < square (e + 1))

    climbs : (steps e : ℕ) → square e ≤ s → s ≤ e + steps → Between (climb c s steps e)
    unfolding climb Between
    climbs zero e l k = (l, omega (arith, k, own h (e + 1)))
    climbs (suc steps) e l k = by_test (ltb s (square (e + 1))) refl (climbs steps (e + 1))
      where
        by_test : (b : Bool) → ltb s (square (e + 1)) ≡ b → (square (e + 1) ≤ s → s ≤ e + 1 + steps → Between (climb c s steps (e + 1))) → Between (cond b e (climb c s steps (e + 1)))
        by_test true t rec = (l, ltb-true s (square (e + 1)) t)
        by_test false t rec = rec (ltb-false s (square (e + 1)) t) (omega arith)

    between : Between (root c s)
    unfolding root
    between = climbs s 0 (omega arith) (omega arith)

    pub root_within : square (root c s) ≤ s
    unfolding Between
    root_within = between.0

    pub root_above : s < square (root c s + 1)
    unfolding Between
    root_above = between.1

    pub root_largest : (x : ℕ) → square x ≤ s → x ≤ root c s
    root_largest x l = below s x (root c s) l root_above

    pub root_only : (e : ℕ) → square e ≤ s → s < square (e + 1) → e ≡ root c s
    root_only e l k = omega (arith, root_largest e l, below s (root c s) e root_within k)
