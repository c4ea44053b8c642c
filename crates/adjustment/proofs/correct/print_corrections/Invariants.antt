-- `correct::print_corrections` meets its contract: the printed corrections before i are within one minute, and stand in the list. Assumes nothing.
use Rattle.std.proofs.Common.{◌≡◌, ℕ, ◌<◌}
use Rattle.exact.proofs.Searching.{Failed}
use Rattle.doolittle.specs.Table.{at}
use Rattle.adjustment.specs.Inner.{rounding}
use Rattle.adjustment.proofs.Solving.{beyond}
use Rattle.adjustment.proofs.correct.print_corrections.Given as goal

abbrev pub invariant-loop-i : goal.invariant-loop-i
invariant-loop-i l = record {
  within : Failed (beyond 60000 (rounding (at l.v))) l.i;
  stored : (h : ℕ) → h < l.i → at l.u h ≡ rounding (at l.v) h;
}
