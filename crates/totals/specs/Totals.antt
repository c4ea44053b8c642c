-- The sixteen totals of a season report, by their places from 0, and how they come of the nets' own shares.
--   0       nets
--   1       accepted; 2 to 10: refused under 1 to 9, so that place 1 + number counts the nets with that number
--   11, 12  angle conditions: the sum of the sizes of their misclosures, and the largest; 13, 14 the same of side conditions
--   15      nets with two conditions that share three or more directions
use Rattle.std.specs.Prelude.{Bool, cond, ◌||◌, List, [], ◌∷◌, ℕ, ◌+◌, max, eqb, get_or}
use Rattle.exact.specs.Tabulate.{tabulate}

-- "the sum of the sizes and the largest size": the places that hold a largest size; the others hold sums
unfoldable pub largest_at : ℕ → Bool
largest_at i = eqb i 12 || eqb i 14

-- two numbers of one place made one
unfoldable pub joined : (i x y : ℕ) → ℕ
joined i x y = cond (largest_at i) (max x y) (x + y)

-- "the two reports added, with the larger of the two largest"
unfoldable pub sum_of : (first second : List ℕ) → List ℕ
sum_of first second = tabulate 16 (λ i. joined i (get_or first i 0) (get_or second i 0))

-- "Each total equals the one defined from the list": a place's total over the nets' own shares; "the largest of none is 0"
unfoldable pub total : (i : ℕ) → (shares : List (List ℕ)) → ℕ
total i [] = 0
total i (share ∷ shares) = joined i (get_or share i 0) (total i shares)

unfoldable pub report_of : (shares : List (List ℕ)) → List ℕ
report_of shares = tabulate 16 (λ i. total i shares)
