-- `reduce::reduced` meets its contract. Assumes nothing.
use mathlib.Core.List.{List}
use Prim.Native.Nat.{ℕ}
use lib.IntN.{ℤ, pos}
use Rattle.exact.proofs.Filling.{Filled}
use Rattle.doolittle.specs.Table.{at}
use Rattle.doolittle.specs.Inner.{with_above}
use Rattle.doolittle.proofs.reduce.reduced.Given as goal

-- the number at place k with all rows above taken
abbrev pub taken : List ℤ → List (List ℤ) → ℕ → ℕ → ℤ
taken row rows j k = with_above (at row k) rows j k

abbrev pub invariant-loop-k : goal.invariant-loop-k
invariant-loop-k l = Filled (pos 0) (taken l.row l.rows l.j) l.j l.k l.initial.next l.next
