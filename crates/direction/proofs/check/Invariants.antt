-- `direction::check`: the loop has found no fault before the direction that it is at.
use Rattle.exact.proofs.Searching.{Failed}
use Rattle.direction.specs.Ranges.{fault_at}
use Rattle.direction.proofs.check.Given as goal

abbrev pub invariant-loop-i : goal.invariant-loop-i
invariant-loop-i l = Failed (fault_at l.directions l.q) l.i
