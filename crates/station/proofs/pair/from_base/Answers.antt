-- `pair::from_base` meets its contract: g and the base lie within two circles. Assumes nothing.
use Rattle.std.proofs.Common.{arith, rules}
use Rattle.std.proofs.lemmas.Int.{ints, to_z-of_z}
use Rattle.station.specs.Means.{lowest, e}
use Rattle.station.proofs.Figures.{g_size}
use Rattle.station.proofs.pair.from_base.Goals as goal

pub overflow_sub-doubled_direction : goal.overflow_sub-doubled_direction
overflow_sub-doubled_direction c = let a = c.args in let r = a.table.now.sums in omega (arith, ints, g_size r a.at.position a.at.object, g_size r (lowest a.table.now.count a.at.object) a.at.object)

pub centred-requires : goal.centred-requires
centred-requires c =
    let a = c.args in let r = a.table.now.sums in (omega (arith, ints, g_size r a.at.position a.at.object, g_size r (lowest a.table.now.count a.at.object) a.at.object), search rules)

pub returns : goal.returns
unfolding e
returns c = let a = c.args in let r = a.table.now.sums in grind (arith, to_z-of_z, g_size r a.at.position a.at.object, g_size r (lowest a.table.now.count a.at.object) a.at.object)
