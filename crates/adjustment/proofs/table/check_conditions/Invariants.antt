-- `table::check_conditions` meets its contract: the conditions before j are in range. Assumes nothing.
use Rattle.exact.proofs.Searching.{Failed}
use Rattle.doolittle.specs.Table.{table_of}
use Rattle.adjustment.proofs.Rows.{condition_fault}
use Rattle.adjustment.proofs.table.check_conditions.Given as goal

abbrev pub invariant-loop-j : goal.invariant-loop-j
invariant-loop-j l = Failed (condition_fault (table_of l.q l.a l.w)) l.j
