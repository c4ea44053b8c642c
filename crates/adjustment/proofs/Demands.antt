-- Demand 3, from the rules: of the corrections of any correlates, and so of every accepted table. Assumes nothing.
--   remainder_forms         R by N and K is R by a and V
--   printed_miss            the printed corrections miss a condition by at most the remainder and half of the scale for each unit of its coefficients
--   weights                 2,520/q times q is 2,520, and 2,520/q is above 0
--   demand_3                all of demand 3, of correlates whose remainders are within 50,000,000
--   demand_ext              demand 3 of lists that hold those numbers
use mathlib.Core.Path.{◌≡◌, refl, sym, ◌∙◌, ap, subst}
use mathlib.Core.List.{[], ◌∷◌}
use Prim.Native.Nat.{ℕ, ◌*◌, ◌/◌, ◌≤◌, ◌<◌}
use native.Mathlib.Nat.{mul-le-mul_left, mul_comm}
use native.Mathlib.Omega.{arith}
use lib.IntN.{ℤ, pos, negsuc, nat_abs, ◌+ℤ◌, ◌-ℤ◌, ◌*ℤ◌}
use lib.Signed.{◌≤ℤ◌, ◌<ℤ◌, ≤ℤ_refl}
use Rattle.exact.specs.Sum.{sum}
use Rattle.exact.specs.Nearest.{nearest}
use Rattle.exact.proofs.Linear.{unknowns, linear, orders, one_sided, le_by, lt_by}
use Rattle.exact.proofs.Identity.{letters, polynomials, ring_by}
use Rattle.exact.proofs.Order.{le_trans, add_le}
use Rattle.exact.proofs.Bound.{abs_add, abs_mul}
use Rattle.exact.proofs.Sum.{sum_ext, sum_add, sum_mul, sum_swap, sum_le, sum_abs_sum}
use Rattle.exact.proofs.Rounding.{nearest_error}
use Rattle.exact.proofs.Weights.{weight_exact, weight_pos}
use Rattle.exact.proofs.LeastSquares as squares
use Rattle.doolittle.specs.Table.{Table, inverse_weight}
use Rattle.doolittle.specs.Solution.{N}
use Rattle.adjustment.specs.Corrections.{V_of, R_of, u_of, Q_of}
use Rattle.adjustment.specs.Demand.{seen, weighted, SameRemainders, Demand3}
use Rattle.adjustment.specs.Inner.{closing}

-- ---- R by N and K is R by a and V
gather : (q a b k : ℤ) → (q *ℤ a *ℤ b) *ℤ k ≡ (a *ℤ q) *ℤ (b *ℤ k)
gather q a b k = let ρ = q ∷ a ∷ b ∷ k ∷ [] in let e = letters ρ in ring_by ρ (search polynomials) (search polynomials) refl

spread : (a q s : ℤ) → (a *ℤ q) *ℤ s ≡ a *ℤ (q *ℤ s)
spread a q s = let ρ = a ∷ q ∷ s ∷ [] in let e = letters ρ in ring_by ρ (search polynomials) (search polynomials) refl

turn : (k x : ℤ) → x *ℤ k ≡ k *ℤ x
turn k x = let ρ = k ∷ x ∷ [] in let e = letters ρ in ring_by ρ (search polynomials) (search polynomials) refl

-- for any factors f of the directions, the same in N and in V
module _ (m n : ℕ) (a : ℕ → ℕ → ℤ) (f k : ℕ → ℤ) (j : ℕ) where
  -- one entry with its correlate, spread over the directions
  entry : (h : ℕ) → sum m (λ i. f i *ℤ a j i *ℤ a h i) *ℤ k h ≡ sum m (λ i. (a j i *ℤ f i) *ℤ (a h i *ℤ k h))
  entry h =
      turn (k h) (sum m (λ i. f i *ℤ a j i *ℤ a h i)) ∙ sym (sum_mul m (k h) (λ i. f i *ℤ a j i *ℤ a h i))
      ∙ sum_ext m (λ i. k h *ℤ (f i *ℤ a j i *ℤ a h i)) (λ i. (a j i *ℤ f i) *ℤ (a h i *ℤ k h))
      (λ i l. sym (turn (k h) (f i *ℤ a j i *ℤ a h i)) ∙ gather (f i) (a j i) (a h i) (k h))

  by_direction : sum n (λ h. sum m (λ i. f i *ℤ a j i *ℤ a h i) *ℤ k h) ≡ sum m (λ i. a j i *ℤ (f i *ℤ sum n (λ h. a h i *ℤ k h)))
  by_direction =
      sum_ext n (λ h. sum m (λ i. f i *ℤ a j i *ℤ a h i) *ℤ k h) (λ h. sum m (λ i. (a j i *ℤ f i) *ℤ (a h i *ℤ k h))) (λ h l. entry h)
      ∙ sum_swap n m (λ h i. (a j i *ℤ f i) *ℤ (a h i *ℤ k h))
      ∙ sum_ext m (λ i. sum n (λ h. (a j i *ℤ f i) *ℤ (a h i *ℤ k h))) (λ i. a j i *ℤ (f i *ℤ sum n (λ h. a h i *ℤ k h)))
      (λ i l. sum_mul n (a j i *ℤ f i) (λ h. a h i *ℤ k h) ∙ spread (a j i) (f i) (sum n (λ h. a h i *ℤ k h)))

pub remainder_forms : (t : Table) (k : ℕ → ℤ) (j : ℕ) → R_of t k j ≡ closing t (V_of t k) j
unfolding R_of V_of N
remainder_forms t k j = ap (λ (z : ℤ). z +ℤ pos 10000000 *ℤ t.w j) (by_direction t.m t.n t.a (inverse_weight t) k j)

-- ---- the printed corrections: u(i) is V(i)/S rounded, so S*u(i) is within half of S of V(i)
module _ (m : ℕ) (a v u : ℕ → ℤ) (S : ℤ) (half : ℕ) (near : (i : ℕ) → i < m → nat_abs (S *ℤ u i -ℤ v i) ≤ half) where
  abbrev miss : ℕ → ℤ
  miss i = a i *ℤ (S *ℤ u i -ℤ v i)

  one_term : (i : ℕ) → S *ℤ (a i *ℤ u i) ≡ a i *ℤ v i +ℤ miss i
  one_term i = identity S (a i) (u i) (v i)
    where
      identity : (s a u v : ℤ) → s *ℤ (a *ℤ u) ≡ a *ℤ v +ℤ a *ℤ (s *ℤ u -ℤ v)
      identity s a u v = let ρ = s ∷ a ∷ u ∷ v ∷ [] in let e = letters ρ in ring_by ρ (search polynomials depth 9) (search polynomials depth 9) refl

  split : S *ℤ sum m (λ i. a i *ℤ u i) ≡ sum m (λ i. a i *ℤ v i) +ℤ sum m miss
  split =
      sym (sum_mul m S (λ i. a i *ℤ u i)) ∙ sum_ext m (λ i. S *ℤ (a i *ℤ u i)) (λ i. a i *ℤ v i +ℤ miss i) (λ i l. one_term i)
      ∙ sum_add m (λ i. a i *ℤ v i) miss

  miss_size : pos (nat_abs (sum m miss)) ≤ℤ (pos half *ℤ sum m (λ i. pos (nat_abs (a i))))
  miss_size =
      le_trans (sum_abs_sum miss m)
      (subst (λ (z : ℤ). sum m (λ i. pos (nat_abs (miss i))) ≤ℤ z) (sum_mul m (pos half) (λ i. pos (nat_abs (a i))))
      (sum_le m (λ i. pos (nat_abs (miss i))) (λ i. pos half *ℤ pos (nat_abs (a i))) (λ i l. in_order (a i) (S *ℤ u i -ℤ v i) (near i l))))
    where
      in_order : (a e : ℤ) → nat_abs e ≤ half → pos (nat_abs (a *ℤ e)) ≤ℤ pos (half * nat_abs a)
      in_order a e h = le_by (search linear) (search linear) (omega (arith, abs_mul a e, mul-le-mul_left (nat_abs a) h, mul_comm (nat_abs a) half))

  pub printed_miss : (c : ℤ) → pos (nat_abs (S *ℤ sum m (λ i. a i *ℤ u i) +ℤ c)) ≤ℤ (pos (nat_abs (sum m (λ i. a i *ℤ v i) +ℤ c)) +ℤ pos half *ℤ sum m (λ i. pos (nat_abs (a i))))
  printed_miss c = joined (S *ℤ sum m (λ i. a i *ℤ u i)) (sum m (λ i. a i *ℤ v i)) (sum m miss) (pos half *ℤ sum m (λ i. pos (nat_abs (a i)))) split miss_size
    where
      swapped : (x y c : ℤ) → (x +ℤ y) +ℤ c ≡ (x +ℤ c) +ℤ y
      swapped x y c = let ρ = x ∷ y ∷ c ∷ [] in let e = letters ρ in ring_by ρ (search polynomials) (search polynomials) refl

      joined : (p x y z : ℤ) → p ≡ x +ℤ y → pos (nat_abs y) ≤ℤ z → pos (nat_abs (p +ℤ c)) ≤ℤ (pos (nat_abs (x +ℤ c)) +ℤ z)
      joined p x y z e h =
          let regroup : p +ℤ c ≡ (x +ℤ c) +ℤ y = ap (λ (w : ℤ). w +ℤ c) e ∙ swapped x y c in
          let v = unknowns (y ∷ z ∷ []) in
          le_by (search linear) (search linear) (omega (arith, orders, abs_add (x +ℤ c) y, ap nat_abs regroup))

-- ---- the weights
module _ (q : ℤ) (low : pos 1 ≤ℤ q) (high : nat_abs q ≤ 10) where
  weight_range : 0 < nat_abs q
  weight_range = let v = unknowns (q ∷ []) in omega (arith, orders, one_sided)

  as_size : (q : ℤ) → pos 1 ≤ℤ q → q ≡ pos (nat_abs q)
  as_size (pos n) l = refl
  as_size (negsuc n) l = absurd l.le

  pub weights : pos (2520 / nat_abs q) *ℤ q ≡ pos 2520
  weights = ap (λ (z : ℤ). pos (2520 / nat_abs q) *ℤ z) (as_size q low) ∙ ap pos (weight_exact (nat_abs q) weight_range high)

  pub weights_pos : pos 0 <ℤ pos (2520 / nat_abs q)
  weights_pos = let h = weight_pos (nat_abs q) weight_range high in lt_by (search linear) (search linear) (omega arith)

-- ---- demand 3
module _ (t : Table) (k : ℕ → ℤ) (q-low : (i : ℕ) → i < t.m → pos 1 ≤ℤ t.q i) (q-high : (i : ℕ) → i < t.m → nat_abs (t.q i) ≤ 10) (close : (j : ℕ) → j < t.n → nat_abs (R_of t k j) ≤ 50000000) where
  abbrev g : ℕ → ℤ
  g i = pos (2520 / nat_abs (t.q i))

  rounding : (i : ℕ) → nat_abs (pos 100000 *ℤ u_of t k i -ℤ V_of t k i) ≤ 50000
  unfolding u_of
  rounding i = omega (arith, nearest_error (V_of t k i) (pos 100000) (record { lt = tt }))

  printed_within : (j : ℕ) → j < t.n → pos (nat_abs (Q_of t k j)) ≤ℤ (pos 50000000 +ℤ pos 50000 *ℤ sum t.m (λ i. pos (nat_abs (t.a j i))))
  unfolding Q_of
  printed_within j l =
      le_trans (printed_miss t.m (t.a j) (V_of t k) (u_of t k) (pos 100000) 50000 (λ i h. rounding i) (pos 10000000 *ℤ t.w j))
      (add_le (at_most (closing t (V_of t k) j) (subst (λ (z : ℤ). nat_abs z ≤ 50000000) (remainder_forms t k j) (close j l))) (≤ℤ_refl (pos 50000 *ℤ sum t.m (λ i. pos (nat_abs (t.a j i))))))
    where
      at_most : (z : ℤ) → nat_abs z ≤ 50000000 → pos (nat_abs z) ≤ℤ pos 50000000
      at_most z h = le_by (search linear) (search linear) (omega arith)

  gq : (i : ℕ) → i < t.m → g i *ℤ t.q i ≡ pos 2520
  gq i l = weights (t.q i) (q-low i l) (q-high i l)

  g_pos : (i : ℕ) → i < t.m → pos 0 <ℤ g i
  g_pos i l = weights_pos (t.q i) (q-low i l) (q-high i l)

  pub demand_3 : Demand3 t (V_of t k) (u_of t k) (R_of t k) (Q_of t k)
  unfolding V_of u_of Q_of
  demand_3 = record {
    met = λ j l. sym (remainder_forms t k j);
    close = close;
    rounded = λ i l. refl;
    missed = λ j l. refl;
    printed = printed_within;
    least = λ x c h same. squares.least t.m t.n t.a k t.q g x c (pos 2520) gq same g_pos;
    only = λ x c h same e. squares.only t.m t.n t.a k t.q g x c (pos 2520) gq same g_pos e;
  }

-- ---- demand 3 reads V and u below m, and R and Q below n
module _ (t : Table) where
  seen_ext : (x x' : ℕ → ℤ) → ((i : ℕ) → i < t.m → x i ≡ x' i) → (j : ℕ) → seen t j x ≡ seen t j x'
  seen_ext x x' same j = sum_ext t.m (λ i. t.a j i *ℤ x i) (λ i. t.a j i *ℤ x' i) (λ i l. ap (λ (z : ℤ). t.a j i *ℤ z) (same i l))

module _ (t : Table) (v v' u u' r r' Q Q' : ℕ → ℤ) (same-v : (i : ℕ) → i < t.m → v i ≡ v' i) (same-u : (i : ℕ) → i < t.m → u i ≡ u' i) (same-r : (j : ℕ) → j < t.n → r j ≡ r' j) (same-Q : (j : ℕ) → j < t.n → Q j ≡ Q' j) where
  weighted_ext : weighted t v ≡ weighted t v'
  weighted_ext =
      sum_ext t.m (λ i. pos (2520 / nat_abs (t.q i)) *ℤ (v i *ℤ v i)) (λ i. pos (2520 / nat_abs (t.q i)) *ℤ (v' i *ℤ v' i))
      (λ i l. ap (λ (z : ℤ). pos (2520 / nat_abs (t.q i)) *ℤ (z *ℤ z)) (same-v i l))

  pub demand_ext : Demand3 t v u r Q → Demand3 t v' u' r' Q'
  demand_ext d = record {
    met = λ j l. ap (λ (z : ℤ). z +ℤ pos 10000000 *ℤ t.w j) (sym (seen_ext t v v' same-v j)) ∙ d.met j l ∙ same-r j l;
    close = λ j l. rw (same-r j l) at (d.close j l);
    rounded = λ i l. sym (same-u i l) ∙ d.rounded i l ∙ ap (λ (z : ℤ). nearest z (pos 100000)) (same-v i l);
    missed = λ j l. ap (λ (z : ℤ). pos 100000 *ℤ z +ℤ pos 10000000 *ℤ t.w j) (sym (seen_ext t u u' same-u j)) ∙ d.missed j l ∙ same-Q j l;
    printed = λ j l. rw (same-Q j l) at (d.printed j l);
    least = λ x c h same. rw weighted_ext at (d.least x c h (back_to x c same));
    only = λ x c h same e i l. d.only x c h (back_to x c same) (e ∙ ap (λ (z : ℤ). c *ℤ c *ℤ z) (sym weighted_ext)) i l ∙ ap (λ (z : ℤ). c *ℤ z) (same-v i l);
  }
    where
      back_to : (x : ℕ → ℤ) (c : ℤ) → SameRemainders t v' x c → SameRemainders t v x c
      back_to x c same j l = same j l ∙ ap (λ (z : ℤ). c *ℤ z) (sym (seen_ext t v v' same-v j))
