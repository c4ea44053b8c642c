-- `table::clear`: below k the part is cleared, from k on it is as it was.
use Rattle.std.proofs.Common.{cond, get_or, pos, ◌%◌}
use Rattle.exact.proofs.Filling.{Filled}
use Rattle.station.specs.Steps.{free}
use Rattle.station.proofs.table.clear.Given as goal

abbrev pub invariant-loop-k : goal.invariant-loop-k
invariant-loop-k l = Filled (pos 0) (λ i. cond (free l.why (i % 256)) (get_or l.initial.part i (pos 0)) (pos 0)) 0 l.k l.initial.part l.part
