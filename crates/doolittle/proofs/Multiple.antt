-- A second condition that is a multiple of the first. Its pivot would be 0 but for rounding, and rounding alone does not carry it past the test,
-- unless the condition is light. Assumes nothing.
--   rounding_alone       what rounding leaves of such a pivot: 2,000,000 times its size is at most |N(1,2)| + 1,000,000
--   Multiple             so many times condition 2 is so many times condition 1; one_square: then N(1,1)*N(2,2) is N(1,2)*N(1,2)
--   Heavy                condition 2 is not light: |N(1,2)| + 1,000,000 is below 2,000*N(2,2)
--   multiple_weak        row 2 of such conditions is weak, if row 1 is not
use mathlib.Core.Path.{◌≡◌, refl, sym, ◌∙◌, ap}
use mathlib.Core.Bool.{true, false}
use mathlib.Core.List.{[], ◌∷◌}
use Prim.Native.Nat.{ℕ, ◌+◌, ◌*◌, ◌<◌, ◌≤◌}
use native.Mathlib.Nat.{mul-le-mul_left}
use native.Mathlib.Omega.{arith}
use native.Mathlib.Decide.{dec_le}
use lib.IntN.{ℤ, pos, neg_ℤ, nat_abs, ◌+ℤ◌, ◌-ℤ◌, ◌*ℤ◌}
use lib.Signed.{lt_z, ◌≤ℤ◌, ◌<ℤ◌}
use Rattle.std.proofs.lemmas.Int.{ints}
use Rattle.exact.proofs.Bound.{abs_add, abs_mul}
use Rattle.exact.proofs.Identity.{letters, polynomials, ring_by}
use Rattle.exact.proofs.Order.{from_size, mul_cancel, lt_yes}
use Rattle.exact.proofs.Ring.{*ℤ_assoc, *ℤ_left_comm}
use Rattle.exact.proofs.Rounding.{nearest_error}
use Rattle.std.proofs.lemmas.Bool.{or_right}
use Rattle.exact.proofs.Sum.{sum_ext, sum_mul}
use Rattle.doolittle.specs.Table.{Table}
use Rattle.doolittle.specs.Solution.{N, reduced, D, L, multiplier, carried, low_pivot, weak}
use Rattle.doolittle.proofs.Lone.{entry_from_0}
use Rattle.doolittle.proofs.Reducing.{sound_at}
use Rattle.doolittle.proofs.Weakness.{weak_by_low}

-- ---- the pivot of a row whose exact pivot is 0, over plain numbers: A = N(1,1), B = N(1,2), E = N(2,2), with A*E = B*B
-- A times a million times the pivot is B times one error and A times the other
split : (A B E M r : ℤ) → A *ℤ E ≡ B *ℤ B → A *ℤ (pos 1000000 *ℤ (E +ℤ r)) ≡ B *ℤ (A *ℤ M -ℤ neg_ℤ (pos 1000000 *ℤ B)) +ℤ A *ℤ (pos 1000000 *ℤ r -ℤ M *ℤ B)
split A B E M r e = out ∙ ap (λ (z : ℤ). pos 1000000 *ℤ z +ℤ pos 1000000 *ℤ (A *ℤ r)) e ∙ in_errors
  where
    out : A *ℤ (pos 1000000 *ℤ (E +ℤ r)) ≡ pos 1000000 *ℤ (A *ℤ E) +ℤ pos 1000000 *ℤ (A *ℤ r)
    out = let ρ = A ∷ E ∷ r ∷ [] in let v = letters ρ in ring_by ρ (search polynomials depth 9) (search polynomials depth 9) refl

    in_errors : pos 1000000 *ℤ (B *ℤ B) +ℤ pos 1000000 *ℤ (A *ℤ r) ≡ B *ℤ (A *ℤ M -ℤ neg_ℤ (pos 1000000 *ℤ B)) +ℤ A *ℤ (pos 1000000 *ℤ r -ℤ M *ℤ B)
    in_errors = let ρ = A ∷ B ∷ M ∷ r ∷ [] in let v = letters ρ in ring_by ρ (search polynomials depth 12) (search polynomials depth 12) refl

-- each error is at most half of its divisor, and the factor a goes out
halves : (a b d x y : ℕ) → 1 ≤ a → a * (1000000 * d) ≤ b * x + a * y → 2 * x ≤ a → 2 * y ≤ 1000000 → 2000000 * d ≤ b + 1000000
halves a b d x y h e f g = by_order (dec_le (2000000 * d) (b + 1000000))
  where
    by_order : Dec (2000000 * d ≤ b + 1000000) → 2000000 * d ≤ b + 1000000
    by_order (yes l) = l
    by_order (no l) = let k : b + 1000001 ≤ 2000000 * d = omega arith in absurd (omega (arith, mul-le-mul_left a k, mul-le-mul_left b f, mul-le-mul_left a g))

size : (a d : ℤ) → nat_abs (a *ℤ (pos 1000000 *ℤ d)) ≡ nat_abs a * (1000000 * nat_abs d)
size a d = abs_mul a (pos 1000000 *ℤ d) ∙ ap (λ (k : ℕ). nat_abs a * k) (abs_mul (pos 1000000) d)

pub rounding_alone : (A B E : ℤ) → pos 0 <ℤ A → A *ℤ E ≡ B *ℤ B → 2000000 * nat_abs (E +ℤ carried (multiplier B A) B) ≤ nat_abs B + 1000000
rounding_alone A B E h e = within (multiplier B A) (carried (multiplier B A) B) (nearest_error (neg_ℤ (pos 1000000 *ℤ B)) A h) (nearest_error (multiplier B A *ℤ B) (pos 1000000) (record { lt = tt }))
  where
    within : (M r : ℤ) → 2 * nat_abs (A *ℤ M -ℤ neg_ℤ (pos 1000000 *ℤ B)) ≤ nat_abs A → 2 * nat_abs (pos 1000000 *ℤ r -ℤ M *ℤ B) ≤ 1000000 → 2000000 * nat_abs (E +ℤ r) ≤ nat_abs B + 1000000
    within M r f g =
        let x = A *ℤ M -ℤ neg_ℤ (pos 1000000 *ℤ B) in let y = pos 1000000 *ℤ r -ℤ M *ℤ B in
        halves (nat_abs A) (nat_abs B) (nat_abs (E +ℤ r)) (nat_abs x) (nat_abs y) (from_size A h)
        (omega (arith, size A (E +ℤ r), ap nat_abs (split A B E M r e), abs_add (B *ℤ x) (A *ℤ y), abs_mul B x, abs_mul A y)) f g

-- a thousandfold that is below the entry is a low pivot
low : (d E : ℤ) (b : ℕ) → pos 0 ≤ℤ E → 2000000 * nat_abs d ≤ b + 1000000 → b + 1000000 < 2000 * nat_abs E → low_pivot d E ≡ true
low d E b h e f = or_right (lt_z d (pos 1)) (lt_z (pos 1000 *ℤ d) E) (lt_yes (pos 1000 *ℤ d) E (omega (arith, ints, abs_mul (pos 1000) d)))

-- ---- the entries of the first two rows, where c times condition 2 is d times condition 1
regroup : (c q x y : ℤ) → c *ℤ (q *ℤ x *ℤ y) ≡ q *ℤ x *ℤ (c *ℤ y)
regroup c q x y = let ρ = c ∷ q ∷ x ∷ y ∷ [] in let v = letters ρ in ring_by ρ (search polynomials depth 9) (search polynomials depth 9) refl

swapped : (q x y : ℤ) → q *ℤ x *ℤ y ≡ q *ℤ y *ℤ x
swapped q x y = let ρ = q ∷ x ∷ y ∷ [] in let v = letters ρ in ring_by ρ (search polynomials depth 9) (search polynomials depth 9) refl

cross : (c A E d B : ℤ) → c *ℤ E ≡ d *ℤ B → c *ℤ B ≡ d *ℤ A → c *ℤ (A *ℤ E) ≡ c *ℤ (B *ℤ B)
cross c A E d B e f = *ℤ_left_comm c A E ∙ ap (λ (z : ℤ). A *ℤ z) e ∙ turned ∙ ap (λ (z : ℤ). z *ℤ B) (sym f) ∙ *ℤ_assoc c B B
  where
    turned : A *ℤ (d *ℤ B) ≡ (d *ℤ A) *ℤ B
    turned = *ℤ_left_comm A d B ∙ sym (*ℤ_assoc d A B)

module _ (t : Table) (c d : ℤ) where
  pub Multiple : Type 0
  Multiple = (i : ℕ) → i < t.m → c *ℤ t.a 1 i ≡ d *ℤ t.a 0 i

  module _ (p : Multiple) where
    row : (j : ℕ) → c *ℤ N t j 1 ≡ d *ℤ N t j 0
    unfolding N Multiple
    row j =
        sym (sum_mul t.m c (λ i. t.q i *ℤ t.a j i *ℤ t.a 1 i))
        ∙ sum_ext t.m (λ i. c *ℤ (t.q i *ℤ t.a j i *ℤ t.a 1 i)) (λ i. d *ℤ (t.q i *ℤ t.a j i *ℤ t.a 0 i))
        (λ i l. regroup c (t.q i) (t.a j i) (t.a 1 i) ∙ ap (λ (z : ℤ). t.q i *ℤ t.a j i *ℤ z) (p i l) ∙ sym (regroup d (t.q i) (t.a j i) (t.a 0 i)))
        ∙ sum_mul t.m d (λ i. t.q i *ℤ t.a j i *ℤ t.a 0 i)

    mirrored : N t 1 0 ≡ N t 0 1
    unfolding N
    mirrored = sum_ext t.m (λ i. t.q i *ℤ t.a 1 i *ℤ t.a 0 i) (λ i. t.q i *ℤ t.a 0 i *ℤ t.a 1 i) (λ i l. swapped (t.q i) (t.a 1 i) (t.a 0 i))

    pub one_square : pos 0 <ℤ c → N t 0 0 *ℤ N t 1 1 ≡ N t 0 1 *ℤ N t 0 1
    one_square h = mul_cancel c (N t 0 0 *ℤ N t 1 1) (N t 0 1 *ℤ N t 0 1) h (cross c (N t 0 0) (N t 1 1) d (N t 0 1) (row 1 ∙ ap (λ (z : ℤ). d *ℤ z) mirrored) (row 0))

abbrev pub Heavy : Table → Type 0
Heavy t = nat_abs (N t 0 1) + 1000000 < 2000 * nat_abs (N t 1 1)

pub multiple_weak : (t : Table) (c d : ℤ) → pos 0 <ℤ c → Multiple t c d → Heavy t → ((i : ℕ) → i < t.m → pos 1 ≤ℤ t.q i) → weak t 0 ≡ false → weak t 1 ≡ true
unfolding weak D reduced
multiple_weak t c d h p heavy weighted e =
    weak_by_low t.n 1 (N t 1 1) (D t 1) (L t 1)
    (low (D t 1 1) (N t 1 1) (nat_abs (N t 0 1)) (entry_from_0 t 1 weighted) (rounding_alone (N t 0 0) (N t 0 1) (N t 1 1) (sound_at t 0 e).pivot.0 (one_square t c d p h)) heavy)
