-- A condition table: for each of m directions an inverse weight q, and for each of n conditions its coefficients a, one for every direction, and its misclosure w.
-- Directions and conditions are counted from 0 here, from 1 in replies.
use Rattle.std.specs.Prelude.{List, ℕ, ◌+◌, ◌*◌, length, get_or, ℤ, pos}

pub record Table : Type 0 where
  pub m : ℕ
  pub n : ℕ
  pub q : ℕ → ℤ
  -- a j i belongs to condition j and direction i
  pub a : ℕ → ℕ → ℤ
  pub w : ℕ → ℤ

-- "Inverse weight q: 1 to 10": what N and V multiply by at direction i
abbrev pub inverse_weight : Table → ℕ → ℤ
inverse_weight t i = t.q i

-- a list as the numbers at its places
abbrev pub at : List ℤ → ℕ → ℤ
at xs i = get_or xs i (pos 0)

-- the table in lent lists: the coefficients row by row, m to a row
abbrev pub table_of : List ℤ → List ℤ → List ℤ → Table
table_of qs cs ws = record {
  m = length qs;
  n = length ws;
  q = at qs;
  a = λ j i. get_or cs (j * length qs + i) (pos 0);
  w = at ws;
}
