-- `reduce::reduce` meets its contract. Assumes nothing.
use Rattle.exact.proofs.Searching.{Failed}
use Rattle.doolittle.specs.Lent.{table_in}
use Rattle.doolittle.specs.Solution.{weak}
use Rattle.doolittle.specs.Inner.{Shaped, Rows}
use Rattle.doolittle.proofs.reduce.reduce.Given as goal

abbrev pub invariant-loop-j : goal.invariant-loop-j
invariant-loop-j l = Shaped l.rows × Failed (weak (table_in l.table)) l.j × Rows (table_in l.table) l.j l.rows
