-- No averaging across the zero of the circle can go wrong. Assumes nothing.
--   centred_only            the one number within half a circle of 0 that differs from z by whole circles is z brought there
--   near_every_pair         an accepted direction, doubled, is within 240,001 of the doubled direction of every pair that entered it, going round the circle
use mathlib.Core.Path.{◌≡◌, refl, sym, ◌∙◌, ap, subst}
use mathlib.Core.Bool.{Bool, true, false, cond, ◌&&◌}
use mathlib.Core.List.{List, [], ◌∷◌}
use mathlib.Core.Logic.{◌⊎◌, inl, inr}
use Prim.Native.Nat.{ℕ, ◌<◌, ◌≤◌}
use native.Mathlib.Omega.{arith}
use borrow.Author.Tests.{ltb-false}
use lib.Dec.{T, ltb}
use lib.IntN.{ℤ, pos, neg_ℤ, nat_abs, ◌+ℤ◌, ◌-ℤ◌, ◌*ℤ◌}
use lib.Signed.{◌≤ℤ◌, ◌<ℤ◌}
use Rattle.exact.specs.Circle.{C, floor, modulo}
use Rattle.exact.proofs.Circles.{floor_low, floor_high, modulo_only}
use Rattle.exact.proofs.Identity.{letters, polynomials, ring_by}
use Rattle.exact.proofs.Linear.{unknowns, linear, orders, one_sided, eq_by, le_by, lt_by, abs_by, le_of, lt_of}
use Rattle.exact.proofs.Order.{lt_or_le, lt_le, le_antisym, mul_le_left, lt_yes}
use Rattle.exact.proofs.Sum.{sum_le, sum_mul}
use Rattle.station.specs.Sightings.{Book}
use Rattle.station.specs.SumWhere.{sum_where}
use Rattle.station.specs.Table.{one, counts, readings}
use Rattle.station.specs.Means.{centred, seen, g, base, e, spread_fault, P, sum_of_e, t, direction}
use Rattle.station.specs.Replies.{reply_of}
use Rattle.station.proofs.Accepting.{passed}
use Rattle.station.proofs.Figures.{twice_above}
use Rattle.station.proofs.Selecting.{chosen, where_nonneg, where_zero}
use Rattle.std.specs.Prelude.{Ok}

-- ---- whole circles
-- z is what is left of it and whole circles
centred_turns : (z half : ℤ) → z ≡ pos 2 *ℤ half *ℤ floor (z +ℤ half) (pos 2 *ℤ half) +ℤ centred z half
unfolding centred modulo
centred_turns z half = apart z half (floor (z +ℤ half) (pos 2 *ℤ half))
  where
    apart : (z h f : ℤ) → z ≡ pos 2 *ℤ h *ℤ f +ℤ (z +ℤ h -ℤ pos 2 *ℤ h *ℤ f -ℤ h)
    apart z h f = let ρ = z ∷ h ∷ f ∷ [] in let l = letters ρ in ring_by ρ (search polynomials depth 12) (search polynomials depth 12) refl

pub centred_only : (z half q r : ℤ) → pos 0 <ℤ half → z ≡ pos 2 *ℤ half *ℤ q +ℤ r → nat_abs r < nat_abs half → centred z half ≡ r
unfolding centred
centred_only z half q r h e l =
    ap (λ (x : ℤ). x -ℤ half) (modulo_only (z +ℤ half) (pos 2 *ℤ half) q (r +ℤ half) (twice_above half h) (ap (λ (x : ℤ). x +ℤ half) e ∙ moved (pos 2 *ℤ half *ℤ q)) low high) ∙ back
  where
    moved : (x : ℤ) → x +ℤ r +ℤ half ≡ x +ℤ (r +ℤ half)
    moved x = let v = unknowns (x ∷ r ∷ half ∷ []) in eq_by (search linear) (search linear) (omega arith)

    low : pos 0 ≤ℤ (r +ℤ half)
    low = let v = unknowns (r ∷ half ∷ []) in le_by (search linear) (search linear) (omega (arith, orders, one_sided))

    high : (r +ℤ half) <ℤ (pos 2 *ℤ half)
    high = let v = unknowns (r ∷ half ∷ []) in lt_by (search linear) (search linear) (omega (arith, orders, one_sided))

    back : r +ℤ half -ℤ half ≡ r
    back = let v = unknowns (r ∷ half ∷ []) in eq_by (search linear) (search linear) (omega arith)

-- ---- a factor above 0 taken away from both sides
cancel : (p x y : ℤ) → pos 0 <ℤ p → (p *ℤ x) ≤ℤ (p *ℤ y) → x ≤ℤ y
cancel p x y h l = by_order (lt_or_le y x)
  where
    by_order : ((y <ℤ x) ⊎ (x ≤ℤ y)) → x ≤ℤ y
    by_order (inr k) = k
    by_order (inl k) =
        let v = unknowns (p ∷ x ∷ y ∷ []) in
        let next : (y +ℤ pos 1) ≤ℤ x = le_by (search linear) (search linear) (omega (arith, orders)) in
        let more = le_of (mul_le_left p (lt_le h) next) (search linear) (search linear) in
        absurd (omega (arith, orders, le_of l (search linear) (search linear)))

-- ---- the mean of numbers within B of b is within B + 1 of b, doubled
module _ (p b s k B : ℤ) (h : pos 0 <ℤ p) (least : (pos 2 *ℤ p *ℤ k) ≤ℤ (p *ℤ b +ℤ s +ℤ p)) (most : (p *ℤ b +ℤ s +ℤ p) <ℤ (pos 2 *ℤ p *ℤ k +ℤ pos 2 *ℤ p))
    (low : neg_ℤ (p *ℤ B) ≤ℤ s) (high : s ≤ℤ (p *ℤ B)) where
  not_above : (pos 2 *ℤ k) ≤ℤ (b +ℤ B +ℤ pos 1)
  not_above =
      cancel p (pos 2 *ℤ k) (b +ℤ B +ℤ pos 1) h
      (let v = unknowns (p ∷ b ∷ s ∷ k ∷ B ∷ []) in le_by (search linear) (search linear) (omega (arith, le_of least (search linear) (search linear), le_of high (search linear) (search linear))))

  not_below : (b -ℤ B -ℤ pos 1) ≤ℤ (pos 2 *ℤ k)
  not_below =
      cancel p (b -ℤ B -ℤ pos 1) (pos 2 *ℤ k) h
      (let v = unknowns (p ∷ b ∷ s ∷ k ∷ B ∷ []) in le_by (search linear) (search linear) (omega (arith, lt_of most (search linear) (search linear), le_of low (search linear) (search linear))))

-- ---- a sum of chosen terms, each within B, is within B times their number
module _ (test : ℕ → Bool) (v : ℕ → ℤ) (B n : ℕ) (small : (i : ℕ) → i < n → test i ≡ true → nat_abs (v i) ≤ B) where
  term_high : (t : Bool) (z : ℤ) → (t ≡ true → nat_abs z ≤ B) → cond t z (pos 0) ≤ℤ (pos B *ℤ cond t (pos 1) (pos 0))
  term_high true z h = let u = unknowns (z ∷ []) in let k = h refl in le_by (search linear) (search linear) (omega arith)
  term_high false z h = le_by (search linear) (search linear) (omega arith)

  term_low : (t : Bool) (z : ℤ) → (t ≡ true → nat_abs z ≤ B) → (neg_ℤ (pos B) *ℤ cond t (pos 1) (pos 0)) ≤ℤ cond t z (pos 0)
  term_low true z h = let u = unknowns (z ∷ []) in let k = h refl in le_by (search linear) (search linear) (omega arith)
  term_low false z h = le_by (search linear) (search linear) (omega arith)

  abbrev number : ℤ
  number = sum_where n test one

  turned_round : (x : ℤ) → pos B *ℤ x ≡ x *ℤ pos B
  turned_round x = let u = unknowns (x ∷ []) in eq_by (search linear) (search linear) (omega arith)

  turned_down : (x : ℤ) → neg_ℤ (pos B) *ℤ x ≡ neg_ℤ (x *ℤ pos B)
  turned_down x = let u = unknowns (x ∷ []) in eq_by (search linear) (search linear) (omega arith)

  where_high : sum_where n test v ≤ℤ (number *ℤ pos B)
  where_high =
      subst (λ (x : ℤ). sum_where n test v ≤ℤ x) (sum_mul n (pos B) (chosen test one) ∙ turned_round number)
      (sum_le n (chosen test v) (λ i. pos B *ℤ cond (test i) (pos 1) (pos 0)) (λ i l. term_high (test i) (v i) (small i l)))

  where_low : neg_ℤ (number *ℤ pos B) ≤ℤ sum_where n test v
  where_low =
      subst (λ (x : ℤ). x ≤ℤ sum_where n test v) (sum_mul n (neg_ℤ (pos B)) (chosen test one) ∙ turned_down number)
      (sum_le n (λ i. neg_ℤ (pos B) *ℤ cond (test i) (pos 1) (pos 0)) (chosen test v) (λ i l. term_low (test i) (v i) (small i l)))

-- ---- the direction of an accepted list
above_zero : (z : ℤ) → pos 0 ≤ℤ z → (z ≡ pos 0 → ⊥) → pos 0 <ℤ z
above_zero z h n = by_order (lt_or_le (pos 0) z)
  where
    by_order : ((pos 0 <ℤ z) ⊎ (z ≤ℤ pos 0)) → pos 0 <ℤ z
    by_order (inl k) = k
    by_order (inr k) = absurd (n (le_antisym k h))

-- an object that a position has is one with a pair
some_pair : (n : List ℤ) (i j : ℕ) → i < 16 → seen n i j ≡ true → pos 0 <ℤ P n j
unfolding P
some_pair n i j l e =
    above_zero (P n j) (where_nonneg (λ k. seen n k j) 16) (λ z. subst T (sym e ∙ where_zero (λ k. seen n k j) 16 z i l) tt)

-- e of a position that passed 26
e_within : (n r : List ℤ) (i j : ℕ) → seen n i j ≡ true → spread_fault n r i j ≡ false → nat_abs (e n r i j) ≤ 120000
unfolding spread_fault
e_within n r i j s f = ltb-false 120000 (nat_abs (e n r i j)) ((λ t. sym s t && ltb 120000 (nat_abs (e n r i j))) ∙ f)

-- twice a direction less g, where the direction is k less whole circles, and g is b, e and whole double circles
apart : (k b o f m c g : ℤ) → g -ℤ b ≡ pos 2 *ℤ c *ℤ m +ℤ o → pos 2 *ℤ (k -ℤ c *ℤ f) -ℤ g ≡ pos 2 *ℤ c *ℤ (neg_ℤ f -ℤ m) +ℤ (pos 2 *ℤ k -ℤ b -ℤ o)
apart k b o f m c g q = regrouped g ∙ ap (λ (x : ℤ). pos 2 *ℤ (k -ℤ c *ℤ f) -ℤ b -ℤ x) q ∙ joined
  where
    regrouped : (g : ℤ) → pos 2 *ℤ (k -ℤ c *ℤ f) -ℤ g ≡ pos 2 *ℤ (k -ℤ c *ℤ f) -ℤ b -ℤ (g -ℤ b)
    regrouped g = let ρ = k ∷ c ∷ f ∷ g ∷ b ∷ [] in let l = letters ρ in ring_by ρ (search polynomials depth 12) (search polynomials depth 12) refl

    joined : pos 2 *ℤ (k -ℤ c *ℤ f) -ℤ b -ℤ (pos 2 *ℤ c *ℤ m +ℤ o) ≡ pos 2 *ℤ c *ℤ (neg_ℤ f -ℤ m) +ℤ (pos 2 *ℤ k -ℤ b -ℤ o)
    joined = let ρ = k ∷ c ∷ f ∷ b ∷ m ∷ o ∷ [] in let l = letters ρ in ring_by ρ (search polynomials depth 12) (search polynomials depth 12) refl

off_by : (k b o : ℤ) → (pos 2 *ℤ k) ≤ℤ (b +ℤ pos 120000 +ℤ pos 1) → (b -ℤ pos 120000 -ℤ pos 1) ≤ℤ (pos 2 *ℤ k) → nat_abs o ≤ 120000 → nat_abs (pos 2 *ℤ k -ℤ b -ℤ o) ≤ 240001
off_by k b o h l s =
    let v = unknowns (k ∷ b ∷ o ∷ []) in
    abs_by (pos 2 *ℤ k -ℤ b -ℤ o) (search linear) (omega (arith, le_of h (search linear) (search linear), le_of l (search linear) (search linear)))

module _ (n r : List ℤ) (i j : ℕ) (li : i < 16) (here : seen n i j ≡ true) (agree : (k : ℕ) → k < 16 → spread_fault n r k j ≡ false) where
  abbrev pairs : ℤ
  pairs = P n j

  above : pos 0 <ℤ pairs
  above = some_pair n i j li here

  -- the floor, before whole circles are taken away
  abbrev mean : ℤ
  mean = floor (t n r j +ℤ pairs) (pos 2 *ℤ pairs)

  floor_below : (pos 2 *ℤ pairs *ℤ mean) ≤ℤ (t n r j +ℤ pairs)
  floor_below = floor_low (t n r j +ℤ pairs) (pos 2 *ℤ pairs) (twice_above pairs above)

  floor_above : (t n r j +ℤ pairs) <ℤ (pos 2 *ℤ pairs *ℤ mean +ℤ pos 2 *ℤ pairs)
  floor_above = floor_high (t n r j +ℤ pairs) (pos 2 *ℤ pairs) (twice_above pairs above)

  is_mean : direction n r j ≡ mean -ℤ C *ℤ floor mean C
  unfolding direction modulo
  is_mean = rw (lt_yes (pos 0) pairs above)

  small : (k : ℕ) → k < 16 → seen n k j ≡ true → nat_abs (e n r k j) ≤ 120000
  small k l s = e_within n r k j s (agree k l)

  es_low : neg_ℤ (pairs *ℤ pos 120000) ≤ℤ sum_of_e n r j
  unfolding P sum_of_e
  es_low = where_low (λ k. seen n k j) (λ k. e n r k j) 120000 16 small

  es_high : sum_of_e n r j ≤ℤ (pairs *ℤ pos 120000)
  unfolding P sum_of_e
  es_high = where_high (λ k. seen n k j) (λ k. e n r k j) 120000 16 small

  mean_high : (pos 2 *ℤ mean) ≤ℤ (base n r j +ℤ pos 120000 +ℤ pos 1)
  mean_high =
      not_above pairs (base n r j) (sum_of_e n r j) mean (pos 120000) above floor_below floor_above
      es_low es_high

  mean_low : (base n r j -ℤ pos 120000 -ℤ pos 1) ≤ℤ (pos 2 *ℤ mean)
  mean_low =
      not_below pairs (base n r j) (sum_of_e n r j) mean (pos 120000) above floor_below floor_above
      es_low es_high

  pub near_pair : nat_abs (centred (pos 2 *ℤ direction n r j -ℤ g r i j) C) ≤ 240001
  unfolding e
  near_pair =
      let m = floor (g r i j -ℤ base n r j +ℤ C) (pos 2 *ℤ C) in
      let o = e n r i j in
      let off = off_by mean (base n r j) o mean_high mean_low (small i li here) in
      rw (is_mean, centred_only (pos 2 *ℤ (mean -ℤ C *ℤ floor mean C) -ℤ g r i j) C (neg_ℤ (floor mean C) -ℤ m) (pos 2 *ℤ mean -ℤ base n r j -ℤ o) (record { lt = tt }) (apart mean (base n r j) o (floor mean C) m C (g r i j) (centred_turns (g r i j -ℤ base n r j) C)) (omega (arith, off)))
      off

-- for every pair that entered the direction of an object of an accepted list
pub near_every_pair : (b : Book) (d p : ℕ) → reply_of b d p ≡ Ok tt → (i j : ℕ) → i < 16 → j < 16 → seen (counts b) i j ≡ true →
    nat_abs (centred (pos 2 *ℤ direction (counts b) (readings b) j -ℤ g (readings b) i j) C) ≤ 240001
near_every_pair b d p accepted i j li lj here = near_pair (counts b) (readings b) i j li here (λ k l. (passed b d p accepted).agree k j l lj)
