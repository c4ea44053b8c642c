-- `reduce::multiply` meets its contract. Assumes nothing.
use mathlib.Core.Path.{◌≡◌}
use mathlib.Core.Bool.{Bool, ◌&&◌}
use mathlib.Core.List.{List}
use Prim.Native.Nat.{ℕ, suc}
use lib.Dec.{ltb}
use lib.IntN.{ℤ, nat_abs}
use Rattle.exact.proofs.Searching.{Failed}
use Rattle.doolittle.specs.Table.{at}
use Rattle.doolittle.specs.Solution.{multiplier}
use Rattle.doolittle.specs.Inner.{From, Kept, cell}
use Rattle.doolittle.proofs.reduce.multiply.Given as goal

-- M(j,k), and its test
abbrev pub factor : List ℤ → ℕ → ℕ → ℤ
factor row j k = multiplier (at row k) (at row j)

abbrev pub large : List ℤ → ℕ → ℕ → Bool
large row j k = ltb 1000000000 (nat_abs (factor row j k))

abbrev pub test : List ℤ → ℕ → ℕ → Bool
test row j k = ltb j k && large row j k

abbrev pub invariant-loop-k : goal.invariant-loop-k
invariant-loop-k l = Failed (test l.row l.j) l.k × Kept l.j l.initial.rows l.rows × From (suc l.j) l.k (λ h. cell l.rows h l.j ≡ factor l.row l.j h)
