-- The least-squares fact, for any whole numbers. The corrections v(i) = q(i) * sum of a(j,i)*K(j) are a combination of the rows of a; with the
-- weights g, where g*q is the same number G in every direction, they are orthogonal to whatever no row sees. A set x with the same rows as c*v is c*v
-- and something that no row sees. So c*v has the least weighted sum of squares among all such x, and is the only one that has it. Assumes nothing.
--   corrections          v, of the correlates K
--   least                c*c * sum of g*v*v is not above the sum of g*x*x
--   only                 where the two are equal, each x(i) is c*v(i)
use mathlib.Core.Path.{◌≡◌, refl, sym, ◌∙◌, ap}
use mathlib.Core.List.{[], ◌∷◌}
use Prim.Native.Nat.{ℕ, ◌<◌}
use native.Mathlib.Omega.{arith}
use lib.IntN.{ℤ, pos, neg_ℤ, ◌+ℤ◌, ◌-ℤ◌, ◌*ℤ◌, *ℤ-zero, +ℤ_idl}
use lib.Signed.{◌≤ℤ◌, ◌<ℤ◌}
use Rattle.std.proofs.lemmas.Int.{ints}
use Rattle.exact.specs.Sum.{sum}
use Rattle.exact.proofs.Identity.{letters, polynomials, ring_by}
use Rattle.exact.proofs.Order.{mul_nonneg, square_nonneg, square_zero, same_by, lt_le}
use Rattle.exact.proofs.Sum.{sum_ext, sum_add, sum_mul, sum_swap, sum_zero, sum_nonneg, sum_zeros}

-- ---- identities of one term
spread : (a x c v : ℤ) → a *ℤ (x -ℤ c *ℤ v) ≡ a *ℤ x +ℤ neg_ℤ c *ℤ (a *ℤ v)
spread a x c v = let ρ = a ∷ x ∷ c ∷ v ∷ [] in let e = letters ρ in ring_by ρ (search polynomials depth 9) (search polynomials depth 9) refl

cancelled : (c s : ℤ) → c *ℤ s +ℤ neg_ℤ c *ℤ s ≡ pos 0
cancelled c s = let ρ = c ∷ s ∷ [] in let e = letters ρ in ring_by ρ (search polynomials) (search polynomials) refl

gathered : (g q w d : ℤ) → g *ℤ ((q *ℤ w) *ℤ d) ≡ (g *ℤ q) *ℤ (d *ℤ w)
gathered g q w d = let ρ = g ∷ q ∷ w ∷ d ∷ [] in let e = letters ρ in ring_by ρ (search polynomials) (search polynomials) refl

turned : (d a k : ℤ) → d *ℤ (a *ℤ k) ≡ k *ℤ (a *ℤ d)
turned d a k = let ρ = d ∷ a ∷ k ∷ [] in let e = letters ρ in ring_by ρ (search polynomials) (search polynomials) refl

squared : (g x c v : ℤ) → g *ℤ (x *ℤ x) ≡ c *ℤ c *ℤ (g *ℤ (v *ℤ v)) +ℤ (pos 2 *ℤ c *ℤ (g *ℤ (v *ℤ (x -ℤ c *ℤ v))) +ℤ g *ℤ ((x -ℤ c *ℤ v) *ℤ (x -ℤ c *ℤ v)))
squared g x c v = let ρ = g ∷ x ∷ c ∷ v ∷ [] in let e = letters ρ in ring_by ρ (search polynomials depth 12) (search polynomials depth 12) refl

-- ---- orders of one term
not_below : {s t : ℤ} (u : ℤ) → t ≡ s +ℤ u → pos 0 ≤ℤ u → s ≤ℤ t
not_below u e h = omega (arith, ints)

nothing_added : (s u : ℤ) → s ≡ s +ℤ u → u ≡ pos 0
nothing_added s u e = omega (arith, ints)

-- the square of a difference, with a positive weight, is 0 only where there is none
no_square : (x y g : ℤ) → pos 0 <ℤ g → g *ℤ ((x -ℤ y) *ℤ (x -ℤ y)) ≡ pos 0 → x ≡ y
no_square x y g h e = same_by x y (square_zero g (x -ℤ y) h e)

-- the corrections of n rows and their correlates, at direction i
abbrev pub corrections : ℕ → (ℕ → ℕ → ℤ) → (ℕ → ℤ) → (ℕ → ℤ) → ℕ → ℤ
corrections n a K q i = q i *ℤ sum n (λ j. a j i *ℤ K j)

module _ (m n : ℕ) (a : ℕ → ℕ → ℤ) (K q g x : ℕ → ℤ) (c G : ℤ) where
  abbrev v : ℕ → ℤ
  v = corrections n a K q

  -- what x has beyond c*v
  abbrev beyond : ℕ → ℤ
  beyond i = x i -ℤ c *ℤ v i

  module _ (gq : (i : ℕ) → i < m → g i *ℤ q i ≡ G) (rows : (j : ℕ) → j < n → sum m (λ i. a j i *ℤ x i) ≡ c *ℤ sum m (λ i. a j i *ℤ v i)) where
    unseen : (j : ℕ) → j < n → sum m (λ i. a j i *ℤ beyond i) ≡ pos 0
    unseen j h =
        sum_ext m (λ i. a j i *ℤ beyond i) (λ i. a j i *ℤ x i +ℤ neg_ℤ c *ℤ (a j i *ℤ v i)) (λ i k. spread (a j i) (x i) c (v i))
        ∙ sum_add m (λ i. a j i *ℤ x i) (λ i. neg_ℤ c *ℤ (a j i *ℤ v i))
        ∙ (λ t. rows j h t +ℤ sum_mul m (neg_ℤ c) (λ i. a j i *ℤ v i) t)
        ∙ cancelled c (sum m (λ i. a j i *ℤ v i))

    unseen_by : (j : ℕ) → j < n → sum m (λ i. beyond i *ℤ (a j i *ℤ K j)) ≡ pos 0
    unseen_by j h =
        sum_ext m (λ i. beyond i *ℤ (a j i *ℤ K j)) (λ i. K j *ℤ (a j i *ℤ beyond i)) (λ i k. turned (beyond i) (a j i) (K j))
        ∙ sum_mul m (K j) (λ i. a j i *ℤ beyond i) ∙ ap (λ (z : ℤ). K j *ℤ z) (unseen j h) ∙ *ℤ-zero (K j)

    cross_term : (i : ℕ) → i < m → g i *ℤ (v i *ℤ beyond i) ≡ G *ℤ sum n (λ j. beyond i *ℤ (a j i *ℤ K j))
    cross_term i h =
        gathered (g i) (q i) (sum n (λ j. a j i *ℤ K j)) (beyond i)
        ∙ (λ t. gq i h t *ℤ sym (sum_mul n (beyond i) (λ j. a j i *ℤ K j)) t)

    orthogonal : sum m (λ i. g i *ℤ (v i *ℤ beyond i)) ≡ pos 0
    orthogonal =
        sum_ext m (λ i. g i *ℤ (v i *ℤ beyond i)) (λ i. G *ℤ sum n (λ j. beyond i *ℤ (a j i *ℤ K j))) cross_term
        ∙ sum_mul m G (λ i. sum n (λ j. beyond i *ℤ (a j i *ℤ K j)))
        ∙ ap (λ (z : ℤ). G *ℤ z)
        (sum_swap m n (λ i j. beyond i *ℤ (a j i *ℤ K j)) ∙ sum_ext n (λ j. sum m (λ i. beyond i *ℤ (a j i *ℤ K j))) (λ j. pos 0) unseen_by ∙ sum_zero n)
        ∙ *ℤ-zero G

    -- sum of g*x*x = c*c * sum of g*v*v + sum of g*beyond*beyond
    split : sum m (λ i. g i *ℤ (x i *ℤ x i)) ≡ c *ℤ c *ℤ sum m (λ i. g i *ℤ (v i *ℤ v i)) +ℤ sum m (λ i. g i *ℤ (beyond i *ℤ beyond i))
    split =
        sum_ext m (λ i. g i *ℤ (x i *ℤ x i)) (λ i. c *ℤ c *ℤ (g i *ℤ (v i *ℤ v i)) +ℤ (pos 2 *ℤ c *ℤ (g i *ℤ (v i *ℤ beyond i)) +ℤ g i *ℤ (beyond i *ℤ beyond i))) (λ i k. squared (g i) (x i) c (v i))
        ∙ sum_add m (λ i. c *ℤ c *ℤ (g i *ℤ (v i *ℤ v i))) (λ i. pos 2 *ℤ c *ℤ (g i *ℤ (v i *ℤ beyond i)) +ℤ g i *ℤ (beyond i *ℤ beyond i))
        ∙ (λ t. sum_mul m (c *ℤ c) (λ i. g i *ℤ (v i *ℤ v i)) t +ℤ sum_add m (λ i. pos 2 *ℤ c *ℤ (g i *ℤ (v i *ℤ beyond i))) (λ i. g i *ℤ (beyond i *ℤ beyond i)) t)
        ∙ ap (λ (z : ℤ). c *ℤ c *ℤ sum m (λ i. g i *ℤ (v i *ℤ v i)) +ℤ (z +ℤ sum m (λ i. g i *ℤ (beyond i *ℤ beyond i))))
        (sum_mul m (pos 2 *ℤ c) (λ i. g i *ℤ (v i *ℤ beyond i)) ∙ ap (λ (z : ℤ). pos 2 *ℤ c *ℤ z) orthogonal ∙ *ℤ-zero (pos 2 *ℤ c))
        ∙ ap (λ (z : ℤ). c *ℤ c *ℤ sum m (λ i. g i *ℤ (v i *ℤ v i)) +ℤ z) (+ℤ_idl (sum m (λ i. g i *ℤ (beyond i *ℤ beyond i))))

    module _ (g_pos : (i : ℕ) → i < m → pos 0 <ℤ g i) where
      beyond_square : (i : ℕ) → i < m → pos 0 ≤ℤ (g i *ℤ (beyond i *ℤ beyond i))
      beyond_square i h = mul_nonneg (lt_le (g_pos i h)) (square_nonneg (beyond i))

      pub least : (c *ℤ c *ℤ sum m (λ i. g i *ℤ (v i *ℤ v i))) ≤ℤ sum m (λ i. g i *ℤ (x i *ℤ x i))
      least = not_below (sum m (λ i. g i *ℤ (beyond i *ℤ beyond i))) split (sum_nonneg m (λ i. g i *ℤ (beyond i *ℤ beyond i)) beyond_square)

      pub only : sum m (λ i. g i *ℤ (x i *ℤ x i)) ≡ c *ℤ c *ℤ sum m (λ i. g i *ℤ (v i *ℤ v i)) → (i : ℕ) → i < m → x i ≡ c *ℤ v i
      only e i h =
          no_square (x i) (c *ℤ v i) (g i) (g_pos i h)
          (sum_zeros m (λ i. g i *ℤ (beyond i *ℤ beyond i)) beyond_square
          (nothing_added (c *ℤ c *ℤ sum m (λ i. g i *ℤ (v i *ℤ v i))) (sum m (λ i. g i *ℤ (beyond i *ℤ beyond i))) (sym e ∙ split)) i h)
