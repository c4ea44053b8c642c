-- `correct::combined` meets its contract. Assumes nothing.
use Rattle.std.proofs.Common.{sym, arith}
use Rattle.std.proofs.lemmas.Int.{to_z-of_z}
use Rattle.exact.proofs.Sum.{sum_none, sum_more}
use Rattle.doolittle.specs.Table.{at}
use Rattle.doolittle.specs.Lent.{table_in}
use Rattle.adjustment.proofs.Rows.{terms_size}
use Rattle.adjustment.proofs.correct.combined.Goals as goal

pub loop-j-init : goal.loop-j-init
loop-j-init c = sym (sum_none _)

pub plus_product-s-requires : goal.plus_product-s-requires
plus_product-s-requires c =
    let p = c.requires in let j = c.loop-j.j in let a = c.args in
    let s = terms_size j (λ j. (table_in a.table).a j a.i) (at a.k.now) c.loop-j-test.true a.table.sound.n_most (λ h l. a.table.sound.a_most h l a.i p.direction) p.correlates.1 in
    let x = a.table.sound.a_most j c.loop-j-test.true a.i p.direction in let y = p.correlates.1 j c.loop-j-test.true in
    (grind (arith, to_z-of_z), grind (arith, to_z-of_z), grind (arith, to_z-of_z))

pub loop-j-preserved : goal.loop-j-preserved
loop-j-preserved c = grind (arith, to_z-of_z, sum_more)
