-- A number as the listing writes it: its decimal digits, the most significant first, with a minus in front where it is below 0.
use Rattle.std.specs.Prelude.{cond, List, [], ◌∷◌, ◌++◌, ℕ, zero, suc, ◌+◌, ◌/◌, ◌%◌, ltb, ℤ, pos, negsuc}

-- the digits of n, at most `most` of them
unfoldable pub digits : ℕ → ℕ → List ℕ
digits zero n = []
digits (suc most) n = cond (ltb n 10) ((48 + n % 10) ∷ []) (digits most (n / 10) ++ ((48 + n % 10) ∷ []))

-- 20 digits hold every number of 64 bits
unfoldable pub digits_of : ℕ → List ℕ
digits_of n = digits 20 n

unfoldable pub written : ℤ → List ℕ
written (pos n) = digits_of n
written (negsuc n) = 45 ∷ digits_of (suc n)
