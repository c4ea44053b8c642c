-- `totals::check` meets its contract: no place before i is at fault. Assumes nothing.
use Rattle.exact.proofs.Searching.{Failed}
use Rattle.totals.specs.Promise.{too_large_at}
use Rattle.totals.proofs.check.Given as goal

abbrev pub invariant-loop-i : goal.invariant-loop-i
invariant-loop-i l = Failed (too_large_at l.first l.second) l.i
