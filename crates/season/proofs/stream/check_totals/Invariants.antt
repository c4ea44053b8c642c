-- `season::stream::check_totals` meets its contract: no total before i is at fault. Assumes nothing.
use Rattle.exact.proofs.Searching.{Failed}
use Rattle.season.specs.Stream.{total_amiss}
use Rattle.season.proofs.stream.check_totals.Given as goal

abbrev pub invariant-loop-i : goal.invariant-loop-i
invariant-loop-i l = Failed (total_amiss l.totals) l.i
