-- `book::entries::Fields::read` meets its contract: what has been read is what the lines so far say. Assumes nothing.
use Prim.Native.Nat.{◌-◌}
use lib.ListN.{length}
use Rattle.book.proofs.Entering.{Begun, Filled}
use Rattle.book.proofs.entries.Fields.read.Given as goal

abbrev pub invariant-loop-start : goal.invariant-loop-start
invariant-loop-start l = Begun l.file l.start l.n × Filled l.file l.n l.self

abbrev pub decreases-loop-start : goal.decreases-loop-start
decreases-loop-start l = length l.file - l.start
