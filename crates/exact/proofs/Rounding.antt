-- The laws of `nearest`. Demand 3 leans on the first alone, and nothing above leans on more than the first three, so that the rule for halves can change.
-- Assumes nothing.
--   nearest_error            twice the error is at most the divisor
--   nearest_odd              the negative of a number rounds to the negative
--   nearest_multiple         a multiple of the divisor comes out exact
--   nearest_size, nearest_smaller     from the first: a bound of the number bounds what it rounds to
--   nearest_below, nearest_above, nearest_kept_below, nearest_kept_above
--                            which neighbour it is, by the remainder of the machine's division: for the code of `nearest` alone
use mathlib.Core.Path.{◌≡◌, refl, sym, ◌∙◌, ap}
use mathlib.Core.Bool.{Bool, true, false, cond}
use Prim.Native.Nat.{ℕ, zero, suc, ◌+◌, ◌*◌, ◌/◌, ◌%◌, ◌<◌, ◌≤◌}
use native.Mathlib.Nat.{div-add-mod, mod-lt, mul-div_cancel_left, mul-le-mul_left, mul-le-mul_right, mul-mod_right, zero-div, zero-mod}
use native.Mathlib.Omega.{arith}
use native.Mathlib.Decide.{dec_le}
use borrow.Author.Tests.{le-leb, lt-leb, leb-true, leb-false}
use lib.Dec.{leb, ltb→lt}
use lib.IntN.{ℤ, pos, negsuc, neg_ℤ, nat_abs, ◌+ℤ◌, ◌-ℤ◌, ◌*ℤ◌, neg_ℤ-neg_ℤ}
use lib.Signed.{quot_z, rem_z, ◌≤ℤ◌, ◌<ℤ◌}
use Rattle.std.proofs.lemmas.Int.{ints}
use Rattle.exact.specs.Nearest.{nearest, nearestℕ}
use Rattle.exact.proofs.Ring.{*ℤ_neg}
use Rattle.exact.proofs.Bound.{abs_mul}
use Rattle.exact.proofs.Order.{from_size}

-- ---- of naturals
module _ (n d : ℕ) (h : 0 < d) where
  Near : ℕ → Type 0
  Near k = (2 * (d * k) ≤ 2 * n + d) × (2 * n ≤ 2 * (d * k) + d)

  nearℕ : Near (nearestℕ n d)
  unfolding Near
  nearℕ = go (leb d (2 * (n % d))) refl
    where
      go : (b : Bool) → leb d (2 * (n % d)) ≡ b → Near (cond b (n / d + 1) (n / d))
      go true e = omega (arith, div-add-mod n d, mod-lt n h, leb-true d (2 * (n % d)) e)
      go false e = omega (arith, div-add-mod n d, leb-false d (2 * (n % d)) e)

upward : (n d : ℕ) → d ≤ 2 * (n % d) → nearestℕ n d ≡ n / d + 1
upward n d h = rw (le-leb d (2 * (n % d)) h)

downward : (n d : ℕ) → 2 * (n % d) < d → nearestℕ n d ≡ n / d
downward n d h = rw (lt-leb d (2 * (n % d)) h)

none : (d : ℕ) → 0 < d → nearestℕ 0 d ≡ 0
none d h = downward 0 d (omega (arith, zero-mod d)) ∙ zero-div d

-- ---- the three laws
pub nearest_error : (z d : ℤ) → pos 0 <ℤ d → 2 * nat_abs (d *ℤ nearest z d -ℤ z) ≤ nat_abs d
unfolding nearest Near
nearest_error (pos n) (pos d) h = let k = nearℕ n d (ltb→lt 0 d h.lt) in omega (arith, ints)
nearest_error (negsuc n) (pos d) h =
    let k = nearℕ (suc n) d (ltb→lt 0 d h.lt) in omega (arith, ints, *ℤ_neg (pos d) (pos (nearestℕ (suc n) d)))
nearest_error z (negsuc d) h = absurd h.lt

pub nearest_odd : (z d : ℤ) → pos 0 <ℤ d → nearest (neg_ℤ z) d ≡ neg_ℤ (nearest z d)
unfolding nearest
nearest_odd (pos zero) (pos d) h = ap pos (none d (ltb→lt 0 d h.lt)) ∙ sym (ap (λ (n : ℕ). neg_ℤ (pos n)) (none d (ltb→lt 0 d h.lt)))
nearest_odd (pos (suc n)) d h = refl
nearest_odd (negsuc n) d h = sym (neg_ℤ-neg_ℤ (pos (nearestℕ (suc n) (nat_abs d))))
nearest_odd (pos zero) (negsuc d) h = absurd h.lt

multipleℕ : (k d : ℕ) → 0 < d → nearestℕ (d * k) d ≡ k
multipleℕ k d h = downward (d * k) d (omega (arith, mul-mod_right d k)) ∙ mul-div_cancel_left k h

pub nearest_multiple : (k d : ℤ) → pos 0 <ℤ d → nearest (d *ℤ k) d ≡ k
unfolding nearest
nearest_multiple (pos k) (pos d) h = ap pos (multipleℕ k d (ltb→lt 0 d h.lt))
nearest_multiple (negsuc k) (pos d) h =
    nearest_odd (pos (d * suc k)) (pos d) h ∙ ap (λ (n : ℕ). neg_ℤ (pos n)) (multipleℕ (suc k) d (ltb→lt 0 d h.lt))
nearest_multiple k (negsuc d) h = absurd h.lt

-- a bound of the number bounds what it rounds to: `nearest_size z d h` goes into omega's list
pub nearest_size : (z d : ℤ) → pos 0 <ℤ d → 2 * (nat_abs d * nat_abs (nearest z d)) ≤ 2 * nat_abs z + nat_abs d
nearest_size z d h = omega (arith, ints, nearest_error z d h, abs_mul d (nearest z d))

-- a rounded quotient is at most one larger than the number
pub nearest_smaller : (z d : ℤ) → pos 0 <ℤ d → nat_abs (nearest z d) ≤ nat_abs z + 1
nearest_smaller z d h = by_order (dec_le (nat_abs (nearest z d)) (nat_abs z + 1))
  where
    -- otherwise d times it would be beyond z by more than half of d
    beyond : (z d k : ℕ) → 1 ≤ d → z + 2 ≤ k → 2 * (d * k) ≤ 2 * z + d → ⊥
    beyond z d k l m e = omega (arith, mul-le-mul_left d m, mul-le-mul_right z l)

    by_order : Dec (nat_abs (nearest z d) ≤ nat_abs z + 1) → nat_abs (nearest z d) ≤ nat_abs z + 1
    by_order (yes l) = l
    by_order (no l) = absurd (beyond (nat_abs z) (nat_abs d) (nat_abs (nearest z d)) (from_size d h) (omega arith) (nearest_size z d h))

-- ---- which neighbour, by the remainder of the machine's division: for the code of `nearest`
pub nearest_below : (z d : ℤ) → pos 0 <ℤ d → rem_z z d <ℤ pos 0 → (d +ℤ rem_z z d) ≤ℤ (pos 0 -ℤ rem_z z d) → nearest z d ≡ quot_z z d -ℤ pos 1
unfolding nearest
nearest_below (pos n) (pos d) h k t = absurd (omega (arith, ints))
nearest_below (negsuc n) (pos d) h k t = omega (arith, ints, upward (suc n) d)
nearest_below z (negsuc d) h k t = absurd h.lt

pub nearest_above : (z d : ℤ) → pos 0 <ℤ d → pos 0 ≤ℤ rem_z z d → (d -ℤ rem_z z d) ≤ℤ rem_z z d → nearest z d ≡ quot_z z d +ℤ pos 1
unfolding nearest
nearest_above (pos n) (pos d) h k t = omega (arith, ints, upward n d)
nearest_above (negsuc n) (pos d) h k t = absurd (omega (arith, ints))
nearest_above z (negsuc d) h k t = absurd h.lt

pub nearest_kept_below : (z d : ℤ) → pos 0 <ℤ d → rem_z z d <ℤ pos 0 → (pos 0 -ℤ rem_z z d) <ℤ (d +ℤ rem_z z d) → nearest z d ≡ quot_z z d
unfolding nearest
nearest_kept_below (pos n) (pos d) h k t = absurd (omega (arith, ints))
nearest_kept_below (negsuc n) (pos d) h k t = omega (arith, ints, downward (suc n) d)
nearest_kept_below z (negsuc d) h k t = absurd h.lt

pub nearest_kept_above : (z d : ℤ) → pos 0 <ℤ d → pos 0 ≤ℤ rem_z z d → rem_z z d <ℤ (d -ℤ rem_z z d) → nearest z d ≡ quot_z z d
unfolding nearest
nearest_kept_above (pos n) (pos d) h k t = omega (arith, ints, downward n d)
nearest_kept_above (negsuc n) (pos d) h k t = omega (arith, ints, downward (suc n) d)
nearest_kept_above z (negsuc d) h k t = absurd h.lt
