-- `compare::take_correlates` meets its contract: the correlates before j are within 10^8 and stand in their list. Assumes nothing.
use lib.IntN.{pos}
use Rattle.exact.proofs.Searching.{Failed}
use Rattle.exact.proofs.Filling.{Filled}
use Rattle.sheet.proofs.Comparing.{correlate, large}
use Rattle.sheet.proofs.compare.take_correlates.Given as goal

abbrev pub invariant-loop-j : goal.invariant-loop-j
invariant-loop-j l = Failed (large l.x l.m) l.j × Filled (pos 0) (correlate l.x l.m) 0 l.j l.initial.k l.k
