-- `network::directions::read` meets its contract: what has been read and the directions of what is left are those of the file. Assumes nothing.
use Prim.Native.Nat.{◌-◌}
use lib.ListN.{length}
use Rattle.network.proofs.Reading.{ReadTo}
use Rattle.network.proofs.directions.read.Given as goal

abbrev pub invariant-loop-direction : goal.invariant-loop-direction
invariant-loop-direction l = ReadTo l.file l.directions l.q l.m l.start

abbrev pub decreases-loop-direction : goal.decreases-loop-direction
decreases-loop-direction l = length l.file - l.start
