-- Demand 3, in whole numbers, of the corrections V of a table with remainders R, and of the printed corrections u with printed remainders Q.
use Rattle.std.specs.Prelude.{◌≡◌, ℕ, ◌≤◌, ◌<◌, ◌/◌, ℤ, pos, nat_abs, ◌+ℤ◌, ◌*ℤ◌, ◌≤ℤ◌}
use Rattle.exact.specs.Sum.{sum}
use Rattle.exact.specs.Nearest.{nearest}
use Rattle.doolittle.specs.Table.{Table}

-- the sum over directions of a*x in condition j
abbrev pub seen : Table → ℕ → (ℕ → ℤ) → ℤ
seen t j x = sum t.m (λ i. t.a j i *ℤ x i)

-- the sum of 2,520*x*x/q: q runs from 1 to 10, so 2,520/q is whole
abbrev pub weighted : Table → (ℕ → ℤ) → ℤ
weighted t x = sum t.m (λ i. pos (2520 / nat_abs (t.q i)) *ℤ (x i *ℤ x i))

-- the corrections x(i)/c leave the same remainders as V where sum of a*x = c * sum of a*V in every condition
abbrev pub SameRemainders : Table → (v x : ℕ → ℤ) (c : ℤ) → Type 0
SameRemainders t v x c = (j : ℕ) → j < t.n → seen t j x ≡ c *ℤ seen t j v

pub record Demand3 (t : Table) (v u r Q : ℕ → ℤ) : Type 0 where
  -- V meets each condition to within R, and |R| is at most 50,000,000: 0.005 of the unit
  pub met : (j : ℕ) → j < t.n → seen t j v +ℤ pos 10000000 *ℤ t.w j ≡ r j
  pub close : (j : ℕ) → j < t.n → nat_abs (r j) ≤ 50000000
  -- the printed corrections are V to the nearest 10^5, and leave Q
  pub rounded : (i : ℕ) → i < t.m → u i ≡ nearest (v i) (pos 100000)
  pub missed : (j : ℕ) → j < t.n → pos 100000 *ℤ seen t j u +ℤ pos 10000000 *ℤ t.w j ≡ Q j
  -- so they miss each condition by at most 50,000,000 + 50,000 * (sum of the sizes of a)
  pub printed : (j : ℕ) → j < t.n → pos (nat_abs (Q j)) ≤ℤ (pos 50000000 +ℤ pos 50000 *ℤ sum t.m (λ i. pos (nat_abs (t.a j i))))
  -- no set with the same remainders has a smaller weighted sum of squares, and only V itself has an equal one
  pub least : (x : ℕ → ℤ) (c : ℤ) → pos 1 ≤ℤ c → SameRemainders t v x c → (c *ℤ c *ℤ weighted t v) ≤ℤ weighted t x
  pub only : (x : ℕ → ℤ) (c : ℤ) → pos 1 ≤ℤ c → SameRemainders t v x c → weighted t x ≡ c *ℤ c *ℤ weighted t v → (i : ℕ) → i < t.m → x i ≡ c *ℤ v i
