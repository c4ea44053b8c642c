-- The laws of `floor` and `modulo`, for a divisor above 0. Assumes nothing.
--   floor_euclid, modulo_euclid    they are std's Euclidean quotient and remainder; the code of `modulo` calls the latter
--   floor_low, floor_high          d times the floor is not above z, and one more d is
--   floor_only                     the one k with z = d * k + r and r from 0 to d - 1 is floor (z / d)
--   modulo_low, modulo_high        what is left lies from 0 to m - 1; modulo_size: so its size is at most that of m
--   modulo_only                    and is the only such number that differs from z by whole m
--   floor_kept, floor_down         by the remainder of the machine's division: for the code of `floor`
use Rattle.std.proofs.Common.{◌≡◌, refl, ap, ◌∙◌, arith, ◌⊎◌, inl, inr, ◌≤◌, ◌<◌, ℤ, pos, negsuc, nat_abs, ◌+ℤ◌, ◌-ℤ◌, ◌*ℤ◌, ◌≤ℤ◌, ◌<ℤ◌}
use Rattle.std.proofs.Math.IntN.{*ℤ_comm}
use Rattle.std.proofs.Math.Nat.{div-add-mod}
use Rattle.std.proofs.lemmas.Int.{ints, quot-rem, rem_below}
use Rattle.std.specs.Int.{int_div_euclid, int_rem_euclid}
use Rattle.std.specs.Int.RustNames.{int_div, int_rem}
use Rattle.exact.specs.Circle.{floor, modulo}
use Rattle.exact.proofs.Ring.{*ℤ_dist_l, *ℤ_by_one}
use Rattle.exact.proofs.Order.{lt_or_le, lt_le, le_antisym, mul_le_left}

pub floor_euclid : (z d : ℤ) → pos 0 <ℤ d → floor z d ≡ int_div_euclid z d
unfolding floor
floor_euclid (pos a) (pos d) h = refl
floor_euclid (negsuc a) (pos d) h = refl
floor_euclid z (negsuc d) h = absurd h.lt

pub modulo_euclid : (z m : ℤ) → pos 0 <ℤ m → modulo z m ≡ int_rem_euclid z m
unfolding modulo floor
modulo_euclid (pos a) (pos m) h = omega (arith, ints, div-add-mod a m)
modulo_euclid (negsuc a) (pos m) h = omega (arith, ints, div-add-mod a m)
modulo_euclid z (negsuc m) h = absurd h.lt

-- ---- z = d * floor + what is left
pub floor_low : (z d : ℤ) → pos 0 <ℤ d → (d *ℤ floor z d) ≤ℤ z
unfolding floor
floor_low (pos n) (pos d) h = omega (arith, ints, div-add-mod n d)
floor_low (negsuc n) (pos d) h = omega (arith, ints, div-add-mod n d)
floor_low z (negsuc d) h = absurd h.lt

pub floor_high : (z d : ℤ) → pos 0 <ℤ d → z <ℤ (d *ℤ floor z d +ℤ d)
unfolding floor
floor_high (pos n) (pos d) h = omega (arith, ints, div-add-mod n d)
floor_high (negsuc n) (pos d) h = omega (arith, ints, div-add-mod n d)
floor_high z (negsuc d) h = absurd h.lt

-- of two quotients that leave less than d and not less than 0, neither is below the other
not_below : (d k f z : ℤ) → pos 0 <ℤ d → k <ℤ f → (d *ℤ f) ≤ℤ z → z <ℤ (d *ℤ k +ℤ d) → ⊥
not_below d k f z h l a b =
    let next : (k +ℤ pos 1) ≤ℤ f = omega (arith, ints) in
    let more : (d *ℤ k +ℤ d *ℤ pos 1) ≤ℤ (d *ℤ f) = rw *ℤ_dist_l at (mul_le_left d (lt_le h) next) in
    omega (arith, ints, *ℤ_by_one d)

-- the quotient k of z = d * k + r, for r from 0 to d - 1, is the floor
pub floor_only : (z d k r : ℤ) → pos 0 <ℤ d → z ≡ d *ℤ k +ℤ r → pos 0 ≤ℤ r → r <ℤ d → floor z d ≡ k
floor_only z d k r h e a b = by_order (lt_or_le k (floor z d)) (lt_or_le (floor z d) k)
  where
    by_order : ((k <ℤ floor z d) ⊎ (floor z d ≤ℤ k)) → ((floor z d <ℤ k) ⊎ (k ≤ℤ floor z d)) → floor z d ≡ k
    by_order (inl l) s = absurd (not_below d k (floor z d) z h l (floor_low z d h) (omega (arith, ints)))
    by_order (inr l) (inl m) = absurd (not_below d (floor z d) k z h m (omega (arith, ints)) (floor_high z d h))
    by_order (inr l) (inr m) = le_antisym l m

-- ---- modulo
pub modulo_low : (z m : ℤ) → pos 0 <ℤ m → pos 0 ≤ℤ modulo z m
unfolding modulo
modulo_low z m h = omega (arith, ints, floor_low z m h)

pub modulo_high : (z m : ℤ) → pos 0 <ℤ m → modulo z m <ℤ m
unfolding modulo
modulo_high z m h = omega (arith, ints, floor_high z m h)

pub modulo_size : (z m : ℤ) → pos 0 <ℤ m → nat_abs (modulo z m) ≤ nat_abs m
modulo_size z m h = omega (arith, ints, modulo_low z m h, modulo_high z m h)

pub modulo_only : (z m k r : ℤ) → pos 0 <ℤ m → z ≡ m *ℤ k +ℤ r → pos 0 ≤ℤ r → r <ℤ m → modulo z m ≡ r
unfolding modulo
modulo_only z m k r h e a b = ap (λ (f : ℤ). z -ℤ m *ℤ f) (floor_only z m k r h e a b) ∙ omega (arith, ints)

-- ---- by the remainder of the machine's division: for the code of `floor`
module _ (z d : ℤ) (h : pos 0 <ℤ d) where
  abbrev q : ℤ
  q = int_div z d

  abbrev r : ℤ
  r = int_rem z d

  small : nat_abs r < nat_abs d
  small = rem_below z d (omega (arith, ints))

  pub floor_kept : pos 0 ≤ℤ r → floor z d ≡ q
  floor_kept k = floor_only z d q r h (omega (arith, ints, quot-rem z d, *ℤ_comm d q)) k (omega (arith, ints, small))

  pub floor_down : r <ℤ pos 0 → floor z d ≡ q -ℤ pos 1
  floor_down k =
      let e : (q -ℤ pos 1) +ℤ pos 1 ≡ q = omega (arith, ints) in
      floor_only z d (q -ℤ pos 1) (r +ℤ d) h
      (omega (arith, ints, quot-rem z d, *ℤ_comm d q, *ℤ_dist_l d (q -ℤ pos 1) (pos 1), *ℤ_by_one d, ap (λ (x : ℤ). d *ℤ x) e))
      (omega (arith, ints, small)) (omega (arith, ints))
