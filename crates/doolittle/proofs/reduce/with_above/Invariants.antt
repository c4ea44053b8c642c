-- `reduce::with_above` meets its contract. Assumes nothing.
use mathlib.Core.Path.{◌≡◌}
use mathlib.Core.List.{List}
use Prim.Native.Nat.{ℕ}
use lib.IntN.{ℤ, ◌+ℤ◌}
use Rattle.exact.specs.Sum.{sum}
use Rattle.doolittle.specs.Solution.{carried}
use Rattle.doolittle.specs.Inner.{cell}
use Rattle.doolittle.proofs.reduce.with_above.Given as goal

-- what row i adds
abbrev pub part : List (List ℤ) → ℕ → ℕ → ℕ → ℤ
part rows j k i = carried (cell rows j i) (cell rows i k)

abbrev pub invariant-loop-i : goal.invariant-loop-i
invariant-loop-i l = l.s ≡ l.x +ℤ sum l.i (part l.rows l.j l.k)
