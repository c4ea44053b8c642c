-- The weights of demand 3: 2,520 / q for an inverse weight q from 1 to 10, always whole, since 2,520 is a multiple of each. Assumes nothing.
--   weight_exact         2,520 / q times q is 2,520
--   weight_pos           2,520 / q is above 0
use mathlib.Core.Path.{◌≡◌, refl}
use Prim.Native.Nat.{ℕ, zero, suc, ◌*◌, ◌/◌, ◌%◌, ◌≤◌, ◌<◌}
use native.Mathlib.Nat.{div-add-mod', le-div_iff_mul-le}
use native.Mathlib.Omega.{arith}

-- 2,520 leaves nothing over at any of them
whole : (q : ℕ) → 0 < q → q ≤ 10 → 2520 % q ≡ 0
whole zero h k = absurd (omega arith)
whole (suc zero) h k = refl
whole (suc (suc zero)) h k = refl
whole (suc (suc (suc zero))) h k = refl
whole (suc (suc (suc (suc zero)))) h k = refl
whole (suc (suc (suc (suc (suc zero))))) h k = refl
whole (suc (suc (suc (suc (suc (suc zero)))))) h k = refl
whole (suc (suc (suc (suc (suc (suc (suc zero))))))) h k = refl
whole (suc (suc (suc (suc (suc (suc (suc (suc zero)))))))) h k = refl
whole (suc (suc (suc (suc (suc (suc (suc (suc (suc zero))))))))) h k = refl
whole (suc (suc (suc (suc (suc (suc (suc (suc (suc (suc zero)))))))))) h k = refl
whole (suc (suc (suc (suc (suc (suc (suc (suc (suc (suc (suc q))))))))))) h k = absurd (omega arith)

pub weight_exact : (q : ℕ) → 0 < q → q ≤ 10 → 2520 / q * q ≡ 2520
weight_exact q h k = omega (arith, div-add-mod' 2520 q, whole q h k)

pub weight_pos : (q : ℕ) → 0 < q → q ≤ 10 → 0 < 2520 / q
weight_pos q h k = (le-div_iff_mul-le h).1 (omega arith)
