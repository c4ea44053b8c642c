-- What chains over the pairs of an object, by position, answer. Assumes nothing.
--   column                  the pairs of object j in n positions from a on
--   column_found            the first of them at which a test holds
--   lowest_found            where the object was sighted first
use mathlib.Core.Path.{◌≡◌, refl, sym, ◌∙◌, ap, subst}
use mathlib.Core.Bool.{Bool, true, false, cond}
use mathlib.Core.List.{List, map}
use Prim.Native.Nat.{ℕ, zero, suc, ◌+◌, ◌<◌, ◌≤◌}
use native.Mathlib.Omega.{arith}
use lib.IntN.{ℤ}
use Rattle.std.specs.Prelude.{Option, Some, None, MatchOption}
use Rattle.std.specs.Option.{option_map}
use Rattle.std.specs.List.{find, range_with_len}
use Rattle.exact.specs.First.{first}
use Rattle.exact.proofs.Searching.{first_ext}
use Rattle.station.specs.declared.table.PairAt.{PairAt}
use Rattle.station.specs.Means.{seen, lowest}

abbrev pub column : (j a n : ℕ) → List (ℕ × ℕ)
column j a n = map (λ i. (i, j)) (range_with_len a n)

-- where a pair stands, as its two numbers
abbrev pub stand : PairAt → ℕ × ℕ
stand at = (at.position, at.object)

module _ (test : ℕ × ℕ → Bool) (j : ℕ) where
  abbrev Found : (a n : ℕ) → Option (ℕ × ℕ) → Type 0
  Found a n r = let k = first n (λ i. test (a + i, j)) in MatchOption r (k ≡ n) (λ p. (k < n) × (p ≡ (a + k, j)))

  pub column_found : (a n : ℕ) → Found a n (find test (column j a n))
  unfolding first
  column_found a zero = refl
  column_found a (suc n) = by_test (test (a, j)) (ap (λ (i : ℕ). test (i, j)) (omega arith)) (column_found (a + 1) n)
    where
      later : ℕ
      later = first n (λ i. test (a + suc i, j))

      same : first n (λ i. test (a + 1 + i, j)) ≡ later
      same = first_ext n _ _ (λ i l. ap (λ (k : ℕ). test (k, j)) (omega arith))

      further : (r : Option (ℕ × ℕ)) (k : ℕ) → MatchOption r (k ≡ n) (λ p. (k < n) × (p ≡ (a + 1 + k, j))) → MatchOption r (suc k ≡ suc n) (λ p. (suc k < suc n) × (p ≡ (a + suc k, j)))
      further None k e = ap suc e
      further (Some p) k e = (omega (arith, e.0), e.1 ∙ ap (λ (i : ℕ). (i, j)) (omega arith))

      by_test : (b : Bool) → test (a + 0, j) ≡ b → Found (a + 1) n (find test (column j (a + 1) n)) → Found a (suc n) (cond b (Some (a, j)) (find test (column j (a + 1) n)))
      by_test true e f = rw e (omega arith, ap (λ (i : ℕ). (i, j)) (omega arith))
      by_test false e f =
          let r = find test (column j (a + 1) n) in
          rw e (further r later (subst (λ (k : ℕ). MatchOption r (k ≡ n) (λ p. (k < n) × (p ≡ (a + 1 + k, j)))) same f))

-- ---- the pairs that were seen
module _ (n : List ℤ) (j : ℕ) where
  abbrev pub is_seen : ℕ × ℕ → Bool
  is_seen p = seen n p.0 p.1

  pub lowest_found : (r : Option PairAt) → option_map stand r ≡ find is_seen (column j 0 16) → MatchOption r (16 ≤ lowest n j) (λ at. (lowest n j < 16) × ((at.position ≡ lowest n j) × (at.object ≡ j)))
  unfolding lowest
  lowest_found r e = by_case r (subst (λ (o : Option (ℕ × ℕ)). Found is_seen j 0 16 o) (sym e) (column_found is_seen j 0 16))
    where
      same : first 16 (λ i. seen n (0 + i) j) ≡ first 16 (λ i. seen n i j)
      same = first_ext 16 _ _ (λ i l. ap (λ (k : ℕ). seen n k j) (omega arith))

      by_case : (r : Option PairAt) → Found is_seen j 0 16 (option_map stand r) → MatchOption r (16 ≤ first 16 (λ i. seen n i j)) (λ at. (first 16 (λ i. seen n i j) < 16) × ((at.position ≡ first 16 (λ i. seen n i j)) × (at.object ≡ j)))
      by_case None f = omega (arith, f, same)
      by_case (Some at) f =
          let here = ap (λ (p : ℕ × ℕ). p.0) f.1 in
          (omega (arith, f.0, same), (omega (arith, here, same), ap (λ (p : ℕ × ℕ). p.1) f.1))
