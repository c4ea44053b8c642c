-- `correct::print_remainders` meets its contract: the printed remainders before j stand in the list. Assumes nothing.
use Rattle.std.proofs.Common.{◌≡◌, ℕ, ◌<◌}
use Rattle.std.specs.Prelude.{pos, ◌+ℤ◌, ◌*ℤ◌}
use Rattle.doolittle.specs.Table.{at}
use Rattle.doolittle.specs.Lent.{table_in}
use Rattle.adjustment.specs.Demand.{seen}
use Rattle.adjustment.proofs.correct.print_remainders.Given as goal

abbrev pub invariant-loop-j : goal.invariant-loop-j
invariant-loop-j l = (h : ℕ) → h < l.j → at l.printed h ≡ pos 100000 *ℤ seen (table_in l.table) h (at l.u) +ℤ pos 10000000 *ℤ at l.table.w.now h
