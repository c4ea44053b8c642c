-- `reduce::add_direction` meets its contract. Assumes nothing.
use mathlib.Core.Path.{◌≡◌}
use mathlib.Core.List.{List}
use Prim.Native.Nat.{ℕ, ◌*◌}
use lib.ListN.{length}
use lib.IntN.{ℤ, pos, ◌+ℤ◌}
use Rattle.exact.proofs.Filling.{Filled}
use Rattle.doolittle.specs.Table.{Table, at}
use Rattle.doolittle.specs.Lent.{table_in}
use Rattle.doolittle.specs.Inner.{share}
use Rattle.doolittle.proofs.reduce.add_direction.Given as goal

-- the entry at place k with the part of direction i
abbrev pub added : Table → ℕ → ℕ → List ℤ → ℕ → ℤ
added t j i row k = at row k +ℤ share t j k i

abbrev pub invariant-loop-k : goal.invariant-loop-k
invariant-loop-k l = (l.to ≡ l.k * length l.table.q.now) × Filled (pos 0) (added (table_in l.table) l.j l.i l.initial.row) l.j l.k l.initial.row l.row
