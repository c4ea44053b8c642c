-- `network::conditions::form_all` meets its contract: what has been formed and what the conditions left give are all. Assumes nothing.
use Prim.Native.Nat.{◌-◌}
use lib.ListN.{length}
use Rattle.network.proofs.Forming.{Formed}
use Rattle.network.proofs.conditions.form_all.Given as goal

abbrev pub invariant-loop-heading : goal.invariant-loop-heading
invariant-loop-heading l = Formed l.file l.fn.read.at l.directions l.q l.rows.a l.rows.w l.rows.kinds l.start l.turn l.at l.n

abbrev pub decreases-loop-heading : goal.decreases-loop-heading
decreases-loop-heading l = length l.file - l.start
