-- `steps::all` meets its contract: after each step the reasons and the tables are those of the rule. Assumes nothing.
use Rattle.std.proofs.Common.{arith, refl}
use Rattle.station.specs.Rescue.{step_check}
use Rattle.station.proofs.Sweeping.{stepped_none, stepped_more}
use Rattle.station.proofs.steps.all.Goals as goal

pub returns : goal.returns
unfolding step_check
returns c =
    let n = c.args.table.now.count in let r = c.args.table.now.sums in
    let a = c.step.ensures in let b = c.step-2.ensures in let d = c.step-3.ensures in let e = c.step-4.ensures in
    let one = stepped_more n r 0 (stepped_none n r (omega arith) (omega arith) _ refl) a.reasons a.counts a.sums in
    let two = stepped_more n r 1 one b.reasons b.counts b.sums in
    let three = stepped_more n r 2 two d.reasons d.counts d.sums in
    (stepped_more n r 3 three e.reasons e.counts e.sums).reasons_are
