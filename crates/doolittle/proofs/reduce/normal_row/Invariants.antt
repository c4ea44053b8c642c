-- `reduce::normal_row` meets its contract. Assumes nothing.
use Rattle.doolittle.specs.Lent.{table_in}
use Rattle.doolittle.proofs.Reducing.{Formed}
use Rattle.doolittle.proofs.reduce.normal_row.Given as goal

abbrev pub invariant-loop-i : goal.invariant-loop-i
invariant-loop-i l = Formed (table_in l.table) l.j l.i l.row
