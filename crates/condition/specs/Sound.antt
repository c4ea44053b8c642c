-- What the checks leave of the numbers that they accept: the bounds that the steps after them ask.
use Rattle.std.specs.Prelude.{◌≡◌, List, ℕ, ◌<◌, ◌≤◌, ℤ, pos, nat_abs, length, ◌≤ℤ◌, Option, Some, None}
use Rattle.condition.specs.declared.term.Letter.{Letter}
use Rattle.condition.specs.declared.term.Letter.TheVariants.{P, F, L, R}
use Rattle.condition.specs.declared.term.Term.{Term}

-- z is a direction number, from 0 to m
pub record Number (m : ℕ) (z : ℤ) : Type 0 where
  pub low : pos 0 ≤ℤ z
  pub high : nat_abs z ≤ m

pub record Ends (m : ℕ) (t : Term) : Type 0 where
  pub i : Number m t.i
  pub k : Number m t.k

pub record SideTerm (m : ℕ) (t : Term) : Type 0 where
  pub value : nat_abs t.value ≤ 200000000
  pub d : nat_abs t.d ≤ 2000
  pub ends : Ends m t

abbrev pub SoundOf : Option Letter → ℕ → Term → Type 0
SoundOf (Some P) m t = Ends m t
SoundOf (Some F) m t = nat_abs t.value ≤ 1296000000
SoundOf (Some L) m t = SideTerm m t
SoundOf (Some R) m t = SideTerm m t
SoundOf None m t = Unit {0}

-- a term that the checks accept among m directions
abbrev pub Sound : ℕ → Term → Type 0
Sound m t = SoundOf t.letter m t

-- field lists of one length, for 12 terms at most
pub record Fields (kinds values d i k : List ℤ) : Type 0 where
  pub few : length kinds ≤ 12
  pub as_values : length values ≡ length kinds
  pub as_d : length d ≡ length kinds
  pub as_i : length i ≡ length kinds
  pub as_k : length k ≡ length kinds

-- every term of the lists is sound among m directions
abbrev pub AllSound : ℕ → ℕ → (ℕ → Term) → Type 0
AllSound m n term = (j : ℕ) → j < n → Sound m (term j)
