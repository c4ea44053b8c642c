-- `correct::corrections` meets its contract: the corrections before i stand in the list. Assumes nothing.
use Rattle.std.proofs.Common.{◌≡◌, ℕ, ◌<◌}
use Rattle.doolittle.specs.Table.{at}
use Rattle.doolittle.specs.Lent.{table_in}
use Rattle.adjustment.specs.Corrections.{V_of}
use Rattle.adjustment.proofs.correct.corrections.Given as goal

abbrev pub invariant-loop-i : goal.invariant-loop-i
invariant-loop-i l = (h : ℕ) → h < l.i → at l.v h ≡ V_of (table_in l.table) (at l.k) h
