-- `network::terms::gather` meets its contract: what has been gathered and the terms of what is left are those at `start`. Assumes nothing.
use Prim.Native.Nat.{◌-◌}
use lib.ListN.{length}
use Rattle.network.proofs.Reading.{Gathering}
use Rattle.network.proofs.terms.gather.Given as goal

abbrev pub invariant-loop-letter : goal.invariant-loop-letter
invariant-loop-letter l = Gathering l.file l.start l.terms l.count l.at

abbrev pub decreases-loop-letter : goal.decreases-loop-letter
decreases-loop-letter l = length l.file - l.at
