-- `table::Table::seen` meets its contract: two counts are few enough that their sum fits. Assumes nothing.
use Rattle.std.proofs.Common.{◌≡◌, arith, ap, pos, ◌+ℤ◌, to_z, of_z, w64}
use Rattle.std.proofs.lemmas.Int.{ints}
use lib.Signed.{lt_z}
use Rattle.station.specs.Table.{slot, entry}
use Rattle.station.specs.Means.{seen}
use Rattle.station.proofs.table.Table.seen.Goals as goal

pub returns : goal.returns
unfolding seen
returns c =
    let n = c.args.self.now.count in let i = c.args.at.position in let j = c.args.at.object in let few = c.args.self.now.few in
    let both : to_z w64 (of_z w64 (to_z w64 (of_z w64 c.left_count.result) +ℤ to_z w64 (of_z w64 c.right_count.result))) ≡ entry n 0 i j +ℤ entry n 1 i j = omega (arith, ints, few (slot 0 i j), few (slot 1 i j)) in
    ap (lt_z (pos 0)) both
