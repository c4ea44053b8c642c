-- `pair::faces_differ` meets its contract: the two readings are within 512 circles, so their difference fits. Assumes nothing.
use Rattle.std.proofs.Common.{arith}
use Rattle.std.proofs.lemmas.Int.{to_z-of_z}
use Rattle.station.specs.Table.{slot}
use Rattle.station.specs.Means.{s}
use Rattle.station.proofs.pair.faces_differ.Goals as goal

pub returns : goal.returns
unfolding s
returns c = let a = c.args in let small = a.table.now.small in grind (arith, to_z-of_z, small (slot 0 a.at.position a.at.object), small (slot 1 a.at.position a.at.object))
