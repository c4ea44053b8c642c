-- Division as the machine does it, toward zero, by a divisor above 0. Assumes nothing.
--   quot_halved         where something is left over, the quotient is at most half of the number
--   Divided, divided    what the code of `nearest` and `floor` reads of the quotient and the remainder
use Rattle.std.proofs.Common.{◌≡◌, arith, suc, ◌+◌, ◌*◌, ◌≤◌, ◌<◌, ℤ, pos, negsuc, nat_abs, ◌<ℤ◌, w64, FitsSigned, to_z, of_z}
use Rattle.std.proofs.Math.Nat.{div-add-mod, mul-le-mul_right}
use Rattle.std.proofs.lemmas.Int.{ints, quot_fits, quot_is, rem_is, rem_below}
use Rattle.std.specs.Int.RustNames.{int_div, int_rem}
use Rattle.exact.proofs.Bound.{abs_neg}

sizes : (n d : ℤ) → pos 0 <ℤ d → nat_abs d * nat_abs (int_div n d) + nat_abs (int_rem n d) ≡ nat_abs n
sizes (pos n) (pos d) h = omega arith
sizes (negsuc n) (pos d) h = simp abs_neg (div-add-mod (suc n) d)
sizes n (negsuc d) h = absurd h.lt

pub quot_halved : (n d : ℤ) → pos 0 <ℤ d → 0 < nat_abs (int_rem n d) → 2 * nat_abs (int_div n d) ≤ nat_abs n
quot_halved n d h k =
    let l : 2 ≤ nat_abs d = omega (arith, ints, rem_below n d) in
    omega (arith, sizes n d h, mul-le-mul_right (nat_abs (int_div n d)) l)

pub record Divided (n d : ℤ) : Type 0 where
  pub quotient : to_z w64 (of_z w64 (int_div (to_z w64 (of_z w64 n)) (to_z w64 (of_z w64 d)))) ≡ int_div n d
  pub remainder : to_z w64 (of_z w64 (int_rem (to_z w64 (of_z w64 n)) (to_z w64 (of_z w64 d)))) ≡ int_rem n d
  pub below : nat_abs (int_rem n d) < nat_abs d
  pub room : 0 < nat_abs (int_rem n d) → 2 * nat_abs (int_div n d) ≤ nat_abs n

pub divided : (n d : ℤ) → pos 0 <ℤ d → FitsSigned w64 n → FitsSigned w64 d → Divided n d
divided n d h f g = record {
  quotient = quot_is w64 n d f g (quot_fits w64 n d f h);
  remainder = rem_is w64 n d f g;
  below = rem_below n d (omega (arith, ints));
  room = quot_halved n d h;
}
