-- What every answer has, whatever the tables hold. Assumes nothing.
--   in_circle               a direction lies from 0 to C - 1
--   e_base                  the base differs from itself by 0
--   initial_zero            object 1 has direction 0
--   never_seen              "an object never seen has 0 and 0"
use mathlib.Core.Path.{◌≡◌, refl, sym, ◌∙◌, ap, subst}
use mathlib.Core.Bool.{Bool, true, false, cond}
use mathlib.Core.List.{List, [], ◌∷◌}
use Prim.Native.Nat.{ℕ, ◌<◌}
use native.Mathlib.Omega.{arith}
use lib.Dec.{T}
use lib.IntN.{ℤ, pos, ◌+ℤ◌, ◌-ℤ◌, ◌*ℤ◌}
use lib.Signed.{lt_z, ◌≤ℤ◌, ◌<ℤ◌, lt_z_yes}
use Rattle.exact.specs.Circle.{C, floor, modulo}
use Rattle.exact.proofs.Circles.{floor_only, modulo_low, modulo_high}
use Rattle.exact.proofs.Linear.{unknowns, linear, orders, eq_by, lt_by}
use Rattle.exact.proofs.Order.{lt_le}
use Rattle.exact.proofs.Sum.{sum_ext, sum_zero}
use Rattle.station.specs.Means.{L, centred, seen, s, g, lowest, base, e, P, sum_of_e, t, direction}
use Rattle.station.proofs.Figures.{twice_above}
use Rattle.station.proofs.Selecting.{chosen, where_failed}

pub in_circle : (n r : List ℤ) (j : ℕ) → (pos 0 ≤ℤ direction n r j) × (direction n r j <ℤ C)
unfolding direction
in_circle n r j = by_test (lt_z (pos 0) (P n j)) (floor (t n r j +ℤ P n j) (pos 2 *ℤ P n j))
  where
    by_test : (x : Bool) (k : ℤ) → (pos 0 ≤ℤ cond x (modulo k C) (pos 0)) × (cond x (modulo k C) (pos 0) <ℤ C)
    by_test true k = (modulo_low k C (record { lt = tt }), modulo_high k C (record { lt = tt }))
    by_test false k = (record { le = tt }, record { lt = tt })

pub e_base : (n r : List ℤ) (j : ℕ) → e n r (lowest n j) j ≡ pos 0
unfolding e centred modulo floor
e_base n r j = ap (λ (z : ℤ). centred z C) (itself (base n r j))
  where
    itself : (x : ℤ) → x -ℤ x ≡ pos 0
    itself x = let v = unknowns (x ∷ []) in eq_by (search linear) (search linear) (omega arith)

-- ---- object 1
g_initial : (r : List ℤ) (i : ℕ) → g r i 0 ≡ pos 0
unfolding g modulo floor
g_initial r i = ap (λ (z : ℤ). modulo z (pos 2 *ℤ C)) (nothing (L r i 0) (s r i 0))
  where
    nothing : (x y : ℤ) → pos 2 *ℤ (x -ℤ x) +ℤ y -ℤ y ≡ pos 0
    nothing x y = let v = unknowns (x ∷ y ∷ []) in eq_by (search linear) (search linear) (omega arith)

e_initial : (n r : List ℤ) (i : ℕ) → e n r i 0 ≡ pos 0
unfolding e centred modulo floor
e_initial n r i = λ u. centred (g_initial r i u -ℤ g_initial r (lowest n 0) u) C

sum_of_e_initial : (n r : List ℤ) → sum_of_e n r 0 ≡ pos 0
unfolding sum_of_e
sum_of_e_initial n r = sum_ext 16 (chosen (λ i. seen n i 0) (λ i. e n r i 0)) (λ i. pos 0) (λ i l. none (seen n i 0) (e_initial n r i)) ∙ sum_zero 16
  where
    none : (x : Bool) {z : ℤ} → z ≡ pos 0 → cond x z (pos 0) ≡ pos 0
    none true q = q
    none false q = refl

-- P over 2P is less than one
half_floor : (p : ℤ) → pos 0 <ℤ p → floor (p *ℤ pos 0 +ℤ pos 0 +ℤ p) (pos 2 *ℤ p) ≡ pos 0
half_floor p h = floor_only (p *ℤ pos 0 +ℤ pos 0 +ℤ p) (pos 2 *ℤ p) (pos 0) p (twice_above p h) same (lt_le h) less
  where
    same : p *ℤ pos 0 +ℤ pos 0 +ℤ p ≡ pos 2 *ℤ p *ℤ pos 0 +ℤ p
    same = let v = unknowns (p ∷ []) in eq_by (search linear) (search linear) (omega arith)

    less : p <ℤ (pos 2 *ℤ p)
    less = let v = unknowns (p ∷ []) in lt_by (search linear) (search linear) (omega (arith, orders))

pub initial_zero : (n r : List ℤ) → direction n r 0 ≡ pos 0
unfolding direction modulo floor
initial_zero n r = by_test (lt_z (pos 0) (P n 0)) refl
  where
    by_test : (x : Bool) → lt_z (pos 0) (P n 0) ≡ x → cond x (modulo (floor (t n r 0 +ℤ P n 0) (pos 2 *ℤ P n 0)) C) (pos 0) ≡ pos 0
    by_test true q =
        ap (λ (z : ℤ). modulo z C)
        ((λ u. floor (P n 0 *ℤ g_initial r (lowest n 0) u +ℤ sum_of_e_initial n r u +ℤ P n 0) (pos 2 *ℤ P n 0)) ∙ half_floor (P n 0) (lt_z_yes (subst T (sym q) tt)))
    by_test false q = refl

pub never_seen : (n r : List ℤ) (j : ℕ) → ((i : ℕ) → i < 16 → seen n i j ≡ false) → (direction n r j ≡ pos 0) × (P n j ≡ pos 0)
unfolding direction P
never_seen n r j h = ((λ u. cond (lt_z (pos 0) (none u)) (modulo (floor (t n r j +ℤ P n j) (pos 2 *ℤ P n j)) C) (pos 0)), none)
  where
    none : P n j ≡ pos 0
    none = where_failed (λ i. seen n i j) (λ i. pos 1) 16 h
