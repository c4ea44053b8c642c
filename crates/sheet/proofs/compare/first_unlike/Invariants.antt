-- `compare::first_unlike` meets its contract: the lines before i have the numbers of the lists. Assumes nothing.
use Rattle.exact.proofs.Searching.{Failed}
use Rattle.sheet.specs.Inner.{pair_unlike}
use Rattle.sheet.proofs.compare.first_unlike.Given as goal

abbrev pub invariant-loop-i : goal.invariant-loop-i
invariant-loop-i l = Failed (pair_unlike l.x l.from l.a l.b) l.i
