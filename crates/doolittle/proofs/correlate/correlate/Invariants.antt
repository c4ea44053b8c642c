-- `correlate::correlate` meets its contract. Assumes nothing.
use mathlib.Core.Path.{◌≡◌}
use mathlib.Core.List.{List}
use Prim.Native.Nat.{ℕ, suc, ◌+◌, ◌-◌}
use lib.IntN.{ℤ, ◌+ℤ◌}
use Rattle.exact.specs.Sum.{sum}
use Rattle.doolittle.specs.Table.{at}
use Rattle.doolittle.specs.Solution.{carried}
use Rattle.doolittle.specs.Inner.{cell}
use Rattle.doolittle.proofs.correlate.correlate.Given as goal

-- what row j adds for the correlate of row suc j + e
abbrev pub part : List (List ℤ) → List ℤ → ℕ → ℕ → ℤ
part rows k j e = carried (cell rows (suc j + e) j) (at k (suc j + e))

abbrev pub invariant-loop-e : goal.invariant-loop-e
invariant-loop-e l = l.s ≡ l.initial.s +ℤ sum (l.e - suc l.j) (part l.rows l.k l.j)
