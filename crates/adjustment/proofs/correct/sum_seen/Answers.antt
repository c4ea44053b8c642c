-- `correct::sum_seen` meets its contract. Assumes nothing.
use Rattle.std.proofs.Common.{sym, arith}
use Rattle.std.proofs.lemmas.Int.{to_z-of_z}
use Rattle.exact.proofs.Sum.{sum_none, sum_more}
use Rattle.doolittle.specs.Table.{at}
use Rattle.doolittle.specs.Lent.{table_in}
use Rattle.adjustment.proofs.Rows.{products_size}
use Rattle.adjustment.proofs.correct.sum_seen.Goals as goal

pub loop-i-init : goal.loop-i-init
loop-i-init c = sym (sum_none _)

pub plus_product-s-requires : goal.plus_product-s-requires
plus_product-s-requires c =
    let a = c.args in let t = a.table in let i = c.loop-i.i in
    let s = products_size i ((table_in t).a a.j) (at a.x.now) c.loop-i-test.true t.sound.m_most (t.sound.a_most a.j c.requires.condition) c.requires.numbers.1 in
    let x = t.sound.a_most a.j c.requires.condition i c.loop-i-test.true in let y = c.requires.numbers.1 i c.loop-i-test.true in
    (grind (arith, to_z-of_z), grind (arith, to_z-of_z), grind (arith, to_z-of_z))

pub loop-i-preserved : goal.loop-i-preserved
loop-i-preserved c = grind (arith, to_z-of_z, sum_more)
