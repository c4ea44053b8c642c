-- Laws of what a term adds to w. Assumes nothing.
--   direction_size, angle_size      a direction's value and an angle are within the circle
--   angle_low, angle_high           an angle lies from 0 to C - 1
--   part_size, total_size           what a term adds, and what n terms add
use mathlib.Core.List.{List}
use Prim.Native.Nat.{ℕ, zero, suc, ◌≤◌}
use native.Mathlib.Omega.{arith}
use lib.IntN.{ℤ, pos, nat_abs, ◌-ℤ◌}
use lib.Signed.{◌≤ℤ◌, ◌<ℤ◌}
use Rattle.std.specs.Prelude.{Option, Some, None}
use Rattle.exact.specs.Sum.{sum}
use Rattle.exact.specs.Circle.{C}
use Rattle.exact.specs.Within.{Within}
use Rattle.exact.proofs.Bound.{abs_neg}
use Rattle.exact.proofs.Circles.{modulo_low, modulo_high, modulo_size}
use Rattle.exact.proofs.Sum.{sum_abs}
use Rattle.condition.specs.declared.term.Letter.{Letter}
use Rattle.condition.specs.declared.term.Letter.TheVariants.{P, F, L, R}
use Rattle.condition.specs.declared.term.Term.{Term}
use Rattle.condition.specs.Terms.{direction_at, angle, part_of, part}
use Rattle.condition.specs.Sound.{SoundOf, Sound, AllSound}

module _ (directions : List ℤ) where
  pub direction_size : Within 1296000000 directions → (n : ℕ) → nat_abs (direction_at directions n) ≤ 1296000000
  direction_size w zero = omega arith
  direction_size w (suc n) = w n

  -- ---- the angle of a term
  module _ (t : Term) where
    above_zero : pos 0 <ℤ C
    above_zero = record { lt = tt }

    pub angle_low : pos 0 ≤ℤ angle directions t
    unfolding angle
    angle_low = modulo_low (direction_at directions (nat_abs t.k) -ℤ direction_at directions (nat_abs t.i)) C above_zero

    pub angle_high : angle directions t <ℤ C
    unfolding angle
    angle_high = modulo_high (direction_at directions (nat_abs t.k) -ℤ direction_at directions (nat_abs t.i)) C above_zero

    pub angle_size : nat_abs (angle directions t) ≤ 1296000000
    unfolding angle
    angle_size = modulo_size (direction_at directions (nat_abs t.k) -ℤ direction_at directions (nat_abs t.i)) C above_zero

    -- ---- what it adds to w
    of_kind : (letter : Option Letter) (m : ℕ) → SoundOf letter m t → nat_abs (part_of letter directions t) ≤ 1296000000
    of_kind (Some P) m s = angle_size
    of_kind (Some F) m s = s
    of_kind (Some L) m s = omega (arith, s.value)
    of_kind (Some R) m s = omega (arith, abs_neg t.value, s.value)
    of_kind None m s = omega arith

    pub part_size : (m : ℕ) → Sound m t → nat_abs (part directions t) ≤ 1296000000
    unfolding part
    part_size m s = of_kind t.letter m s

  pub total_size : (m n : ℕ) (term : ℕ → Term) → n ≤ 12 → AllSound m n term → nat_abs (sum n (λ j. part directions (term j))) ≤ 15552000000
  total_size m n term few s =
      omega (arith, sum_abs n 1296000000 (λ j. part directions (term j)) (λ j l. part_size (term j) m (s j l)))
