-- `season::archive::count_all` meets its contract: the totals so far and the nets still to come give the report of all. Assumes nothing.
use Prim.Native.Nat.{◌+◌, ◌-◌, ◌≤◌}
use lib.ListN.{length, drop}
use Rattle.season.specs.Archive.{parts_of}
use Rattle.season.specs.Season.{shares_of, shares_in}
use Rattle.season.specs.Inner.{Roomy, NextStop}
use Rattle.season.proofs.Leading.{Leads}
use Rattle.season.proofs.archive.count_all.Given as goal

abbrev pub invariant-loop-stop : goal.invariant-loop-stop
invariant-loop-stop l = Roomy l.totals × Leads (shares_of l.archive) l.totals (shares_in (parts_of (drop l.start l.archive))) × (l.start ≤ length l.archive) × NextStop l.archive l.start l.stop

abbrev pub decreases-loop-stop : goal.decreases-loop-stop
decreases-loop-stop l = length l.archive + 2 - l.start
