-- `network::scan::scan` meets its contract: what is left of the file from `start` on has the reply of the whole. Assumes nothing.
use Prim.Native.Nat.{◌-◌}
use lib.ListN.{length}
use Rattle.network.proofs.Scanning.{ScannedTo}
use Rattle.network.proofs.scan.scan.Given as goal

abbrev pub invariant-loop-start : goal.invariant-loop-start
invariant-loop-start l = ScannedTo l.file l.start l.place l.counts

abbrev pub decreases-loop-start : goal.decreases-loop-start
decreases-loop-start l = length l.file - l.start
