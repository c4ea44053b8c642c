-- `precision::check`: the loop has found no fault before the direction that it is at.
use Rattle.exact.proofs.Searching.{Failed}
use Rattle.precision.specs.Promise.{out_of_range_at}
use Rattle.precision.proofs.check.Given as goal

abbrev pub invariant-loop-i : goal.invariant-loop-i
invariant-loop-i l = Failed (out_of_range_at l.u l.q) l.i
