-- `totals::add` meets its contract: the places before i hold the sums. Assumes nothing.
use Rattle.std.specs.Prelude.{get_or}
use Rattle.exact.proofs.Filling.{Filled}
use Rattle.totals.specs.Totals.{joined}
use Rattle.totals.proofs.add.Given as goal

abbrev pub invariant-loop-i : goal.invariant-loop-i
invariant-loop-i l = Filled 0 (λ k. joined k (get_or l.initial.totals k 0) (get_or l.more k 0)) 0 l.i l.initial.totals l.totals
