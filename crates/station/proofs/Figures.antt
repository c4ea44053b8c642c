-- How large the figures of a pair can be, and what the machine reads of a call's result. Assumes nothing.
--   told                              what the machine reads of a call's result is what the call promised
--   twice_above                       twice a number above 0
--   centred_size                      what is left of a number lies within half of its circle once centred
--   s_size, g_size, e_size            so do s, g and e
--   g_read                            what the machine reads of a g
use mathlib.Core.Path.{◌≡◌, ◌∙◌}
use mathlib.Core.List.{List, [], ◌∷◌}
use Prim.Native.Nat.{ℕ, ◌<◌, ◌≤◌, ◌^◌}
use native.Mathlib.Omega.{arith}
use lib.IntN.{ℤ, pos, nat_abs, ◌+ℤ◌, ◌-ℤ◌, ◌*ℤ◌}
use lib.Signed.{mag, ◌≤ℤ◌, ◌<ℤ◌}
use mir.Syntax.{w64}
use mir.Val.{to_z, of_z}
use Rattle.exact.specs.Circle.{C, modulo}
use Rattle.exact.proofs.Bound.{fits_within, read, read_at}
use Rattle.exact.proofs.Circles.{modulo_low, modulo_high, modulo_size}
use Rattle.exact.proofs.Linear.{unknowns, linear, orders, one_sided, lt_by, abs_by, lt_of}
use Rattle.station.specs.Means.{centred, s, g, e}

pub told : {x v : ℤ} → mag x < 2 ^ 63 → x ≡ v → to_z w64 (of_z w64 x) ≡ v
told {x} ok p = read_at x ok ∙ p

pub twice_above : (z : ℤ) → pos 0 <ℤ z → pos 0 <ℤ (pos 2 *ℤ z)
twice_above z h = let v = unknowns (z ∷ []) in lt_by (search linear) (search linear) (omega (arith, orders))

pub centred_size : (z half : ℤ) → pos 0 <ℤ half → nat_abs (centred z half) ≤ nat_abs half
unfolding centred
centred_size z half h = within (modulo (z +ℤ half) (pos 2 *ℤ half)) (modulo_low (z +ℤ half) (pos 2 *ℤ half) (twice_above half h)) (modulo_high (z +ℤ half) (pos 2 *ℤ half) (twice_above half h))
  where
    within : (x : ℤ) → pos 0 ≤ℤ x → x <ℤ (pos 2 *ℤ half) → nat_abs (x -ℤ half) ≤ nat_abs half
    within x a b =
        let v = unknowns (x ∷ half ∷ []) in let k = lt_of b (search linear) (search linear) in
        abs_by (x -ℤ half) (search linear) (omega (arith, orders, one_sided))

pub s_size : (r : List ℤ) (i j : ℕ) → nat_abs (s r i j) ≤ 648000000
unfolding s
s_size r i j = centred_size _ (pos 648000000) (record { lt = tt })

pub g_size : (r : List ℤ) (i j : ℕ) → nat_abs (g r i j) ≤ 2592000000
unfolding g
g_size r i j = modulo_size _ (pos 2592000000) (record { lt = tt })

-- what the machine reads of a g
pub g_read : {x : ℤ} (r : List ℤ) (i j : ℕ) → x ≡ g r i j → to_z w64 (of_z w64 x) ≡ g r i j
g_read r i j e = rw e (read (fits_within _ (g_size r i j) tt))

pub e_size : (n r : List ℤ) (i j : ℕ) → nat_abs (e n r i j) ≤ 1296000000
unfolding e
e_size n r i j = centred_size _ C (record { lt = tt })
