-- `season::archive::next_stop` meets its contract: the lines passed so far belong to the first part. Assumes nothing.
use mathlib.Core.Path.{◌≡◌}
use Prim.Native.Nat.{◌+◌, ◌-◌}
use lib.ListN.{length}
use Rattle.text.specs.Lines.{LF}
use Rattle.text.specs.Parts.{place_from}
use Rattle.season.proofs.Walking.{Walked}
use Rattle.season.proofs.archive.next_stop.Given as goal

abbrev pub invariant-loop-end : goal.invariant-loop-end
invariant-loop-end l = Walked l.archive l.start l.at × (l.end ≡ place_from LF l.archive l.at)

abbrev pub decreases-loop-end : goal.decreases-loop-end
decreases-loop-end l = length l.archive + 1 - l.at
