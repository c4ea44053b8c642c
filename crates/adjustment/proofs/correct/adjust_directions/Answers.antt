-- `correct::adjust_directions` meets its contract. Assumes nothing.
use Rattle.std.proofs.Common.{pos, arith}
use Rattle.std.proofs.lemmas.Int.{to_z-of_z}
use Rattle.exact.proofs.Filling.{tabulate_is}
use Rattle.adjustment.proofs.Rows.{put_more}
use Rattle.adjustment.proofs.correct.adjust_directions.Goals as goal

pub loop-i-preserved : goal.loop-i-preserved
loop-i-preserved c =
    let d = c.requires.directions.1 c.loop-i.i (omega arith) in let u = c.requires.corrections.1 c.loop-i.i (omega arith) in
    put_more _ c.loop-i.adjusted c.loop-i.i _ (omega arith) c.loop-i.invariant (grind (arith, to_z-of_z))

pub returns : goal.returns
returns c = tabulate_is (pos 0) _ _ _ c.loop-i.auto.adjusted (λ i l. c.loop-i.invariant i (omega arith))
