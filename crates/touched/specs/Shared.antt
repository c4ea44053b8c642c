-- Which conditions of a table share three or more directions: the rule, from the coefficients alone. They stand row by row, m to a row;
-- conditions and directions are counted from 0.
use Rattle.std.specs.Prelude.{Bool, cond, not, ◌&&◌, List, ℕ, zero, suc, ◌+◌, ◌*◌, leb, get_or, ℤ, pos}
use Rattle.exact.specs.Same.{same}
use Rattle.exact.specs.First.{some_below}

-- "The touched directions of a condition ..: those with a coefficient other than zero": condition j touches direction i
abbrev pub touches : List ℤ → (m j i : ℕ) → Bool
touches a m j i = not (same (get_or a (j * m + i) (pos 0)) (pos 0))

-- 1 where a test holds, else 0
abbrev pub one_if : Bool → ℕ
one_if b = cond b 1 0

-- how many of the numbers below n pass a test
unfoldable pub count : ℕ → (ℕ → Bool) → ℕ
count zero p = 0
count (suc n) p = count n p + one_if (p n)

-- "Shared ones are counted": the directions that condition j touches, and condition k too
abbrev pub shared_by : List ℤ → (m j k : ℕ) → ℕ
shared_by a m j k = count m (λ i. touches a m j i && touches a m k i)

-- "two conditions that share three or more directions": some j below n, with some k before it
unfoldable pub shares_three : List ℤ → (m n : ℕ) → Bool
shares_three a m n = some_below n (λ j. some_below j (λ k. leb 3 (shared_by a m j k)))
