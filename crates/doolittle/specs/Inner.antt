-- What the inner functions ask of each other: bounds under which no step overflows, and what a row of the code holds. No part of the promise.
use Rattle.std.specs.Prelude.{◌≡◌, Result, Ok, Err, List, [], false, ℕ, suc, ◌+◌, ◌-◌, ◌*◌, ◌≤◌, ◌<◌, ltb, length, get_or, ℤ, pos, neg_ℤ, nat_abs, ◌+ℤ◌, ◌*ℤ◌, ◌≤ℤ◌, ◌<ℤ◌}
use Rattle.exact.specs.Sum.{sum}
use Rattle.exact.specs.Nearest.{nearest}
use Rattle.exact.specs.First.{first}
use Rattle.doolittle.specs.Table.{Table, inverse_weight, at}
use Rattle.doolittle.specs.Solution.{D, L, M, carried, weak, K}

-- the first `count` numbers of a list are within B
abbrev pub Small : ℕ → List ℤ → ℕ → Type 0
Small B xs count = (i : ℕ) → i < count → nat_abs (get_or xs i (pos 0)) ≤ B

-- a list has so many numbers, each within B
abbrev pub HasSmall : ℕ → List ℤ → ℕ → Type 0
HasSmall B xs count = (count ≤ length xs) × Small B xs count

-- the numbers of a list from `at` on, `count` of them, are within B
abbrev pub Within : ℕ → List ℤ → ℕ → ℕ → Type 0
Within B xs at count = (i : ℕ) → i < count → nat_abs (get_or xs (at + i) (pos 0)) ≤ B

-- a table that has passed its input checks
pub record Sound (qs cs ws : List ℤ) : Type 0 where
  pub m_most : length qs ≤ 64
  pub n_most : length ws ≤ 24
  pub long : length cs ≡ length ws * length qs
  pub q_least : (i : ℕ) → i < length qs → pos 1 ≤ℤ get_or qs i (pos 0)
  pub q_most : Small 10 qs (length qs)
  pub a_most : (j : ℕ) → j < length ws → Within 2000 cs (j * length qs) (length qs)
  pub w_most : Small 1000000 ws (length ws)

-- the place of a row's constant, after its coefficients
abbrev pub CONSTANT : ℕ
CONSTANT = 24

-- row i of a triangle; what stands at its place k
abbrev pub row_at : List (List ℤ) → ℕ → List ℤ
row_at rows i = get_or rows i []

abbrev pub cell : List (List ℤ) → ℕ → ℕ → ℤ
cell rows i k = at (row_at rows i) k

-- from place j to place n
abbrev pub From : ℕ → ℕ → (ℕ → Type 0) → Type 0
From j n P = (k : ℕ) → j ≤ k → k < n → P k

-- the places before j are as they were
abbrev pub Before : ℕ → List ℤ → List ℤ → Type 0
Before j row next = (k : ℕ) → k < j → at next k ≡ at row k

-- a row whose coefficients and constant are within B
pub record RowWithin (B j n : ℕ) (row : List ℤ) : Type 0 where
  pub coefficients : From j n (λ k. nat_abs (at row k) ≤ B)
  pub constant : nat_abs (at row CONSTANT) ≤ B

-- a row that holds the coefficients d from place j on, and the constant l
pub record Holds (j n : ℕ) (d : ℕ → ℤ) (l : ℤ) (row : List ℤ) : Type 0 where
  pub coefficients : From j n (λ k. at row k ≡ d k)
  pub constant : at row CONSTANT ≡ l

-- what direction i adds to N(j,k)
abbrev pub share : Table → (j k i : ℕ) → ℤ
share t j k i = inverse_weight t i *ℤ t.a j i *ℤ t.a k i

-- ---- the triangle: row j has the multipliers M(i,j) of the rows above it at places i before j, D(j,k) from place j on, and L(j) at the last place

-- 24 rows of 25 places, which in the code is their type
pub record Shaped (rows : List (List ℤ)) : Type 0 where
  pub long : length rows ≡ 24
  pub wide : (h : ℕ) → h < 24 → length (row_at rows h) ≡ 25

-- the first j rows are as they were, and in every row the places before j; of rows of any shape
pub record Stays (j : ℕ) (rows next : List (List ℤ)) : Type 0 where
  pub long : length next ≡ length rows
  pub above : (h : ℕ) → h < j → row_at next h ≡ row_at rows h
  pub left : (h k : ℕ) → k < j → cell next h k ≡ cell rows h k

-- the same, and there are 24 rows of 25 places
pub record Kept (j : ℕ) (rows next : List (List ℤ)) : Type 0 where
  pub shape : Shaped next
  pub long : length next ≡ length rows
  pub above : (h : ℕ) → h < j → row_at next h ≡ row_at rows h
  pub left : (h k : ℕ) → k < j → cell next h k ≡ cell rows h k

-- the number x of row j at place k with all rows above taken
abbrev pub with_above : ℤ → List (List ℤ) → ℕ → ℕ → ℤ
with_above x rows j k = x +ℤ sum j (λ i. carried (cell rows j i) (cell rows i k))

-- the first j reduced rows of a table, with their multipliers
pub record Rows (t : Table) (j : ℕ) (rows : List (List ℤ)) : Type 0 where
  pub reduced : (h : ℕ) → h < j → Holds h t.n (D t h) (L t h) (row_at rows h)
  pub multiplied : (h : ℕ) → h < j → From (suc h) t.n (λ k. cell rows k h ≡ M t h k)

-- the rows of a table, none of them weak
pub record Triangle (t : Table) (rows : List (List ℤ)) : Type 0 where
  pub all : Rows t t.n rows
  pub sound : (j : ℕ) → j < t.n → weak t j ≡ false

-- what `reduce` answers of a table: all its rows stand, and none is weak; or row j is the first weak one, counted from 0, and the rows before it stand
abbrev pub Reduced : Table → List (List ℤ) → Result (Unit {0}) ℕ → Type 0
Reduced t rows (Ok _) = Triangle t rows
Reduced t rows (Err j) = (j < t.n) × (first t.n (weak t) ≡ j) × Rows t j rows

-- row j of n rows and its multipliers, as far as the correlates read them
pub record BackWithin (j n : ℕ) (rows : List (List ℤ)) : Type 0 where
  pub constant : nat_abs (cell rows j CONSTANT) ≤ 4000000000
  pub pivot : pos 0 <ℤ cell rows j j
  pub multipliers : From (suc j) n (λ k. nat_abs (cell rows k j) ≤ 1000000000)

-- K(j) from its row, its multipliers and the correlates k of the rows below
abbrev pub back_of : (rows : List (List ℤ)) (k : List ℤ) (j n : ℕ) → ℤ
back_of rows k j n =
    nearest (neg_ℤ (pos 10000 *ℤ cell rows j CONSTANT)) (cell rows j j)
    +ℤ sum (n - suc j) (λ e. carried (cell rows (suc j + e) j) (at k (suc j + e)))

-- correlates in back order: all of them where `from` is 0; else row `from`, counted from 1, has the first that is too large
pub record Solves (t : Table) (k : List ℤ) (from : ℕ) : Type 0 where
  pub within : from ≤ t.n
  pub large : first t.n (λ b. ltb 100000000 (nat_abs (K t (t.n - suc b)))) ≡ t.n - from
  pub correlates : (j : ℕ) → from ≤ j → j < t.n → get_or k j (pos 0) ≡ K t j

-- what `correlates` answers of a table: all correlates stand; or that of a row, counted from 1, is the first that is too large, and those after it stand
abbrev pub Correlated : Table → List ℤ → Result (Unit {0}) ℕ → Type 0
Correlated t k (Ok _) = Solves t k 0
Correlated t k (Err row) = (0 < row) × Solves t k row
