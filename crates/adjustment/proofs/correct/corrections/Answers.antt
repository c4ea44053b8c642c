-- `correct::corrections` meets its contract. Assumes nothing.
use Rattle.std.proofs.Common.{arith}
use Rattle.std.proofs.lemmas.Int.{to_z-of_z}
use Rattle.adjustment.specs.Corrections.{V_of}
use Rattle.adjustment.proofs.Rows.{combined_size, put_more}
use Rattle.adjustment.proofs.correct.corrections.Goals as goal

pub weighted-requires : goal.weighted-requires
weighted-requires c =
    let a = c.args in let t = a.table in let i = c.loop-i.i in
    let s = combined_size t a.k.now c.requires.correlates.1 i c.loop-i-test.true in
    let q = t.sound.q_most i c.loop-i-test.true in
    (grind (arith, to_z-of_z), grind (arith, to_z-of_z))

pub loop-i-preserved : goal.loop-i-preserved
unfolding V_of
loop-i-preserved c =
    put_more _ c.loop-i.v c.loop-i.i _ (omega (arith, c.loop-i.auto.v, c.requires.room)) c.loop-i.invariant (grind (arith, to_z-of_z))
