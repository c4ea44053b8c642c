-- The first of the numbers below n at which a test holds; n where it holds at none.
use Rattle.std.specs.Prelude.{Bool, cond, ℕ, zero, suc, ltb}

unfoldable pub first : ℕ → (ℕ → Bool) → ℕ
first zero p = 0
first (suc n) p = cond (p 0) 0 (suc (first n (λ i. p (suc i))))

-- the test holds at some number below n
abbrev pub some_below : ℕ → (ℕ → Bool) → Bool
some_below n p = ltb (first n p) n
