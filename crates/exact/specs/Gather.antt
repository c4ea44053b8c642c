-- The values at those of the numbers below n at which a test holds, in their order.
use Rattle.std.specs.Prelude.{Bool, cond, List, [], ◌∷◌, ◌++◌, ℕ, zero, suc}

unfoldable pub gather : {A : Type 0} → ℕ → (ℕ → Bool) → (ℕ → A) → List A
gather zero test f = []
gather (suc n) test f = gather n test f ++ cond (test n) (f n ∷ []) []
