-- Sums of chosen terms.
use Rattle.std.specs.Prelude.{Bool, cond, ℕ, ℤ, pos}
use Rattle.exact.specs.Sum.{sum}

-- the sum of v i over those i below n at which the test holds
abbrev pub sum_where : ℕ → (ℕ → Bool) → (ℕ → ℤ) → ℤ
sum_where n test v = sum n (λ i. cond (test i) (v i) (pos 0))
