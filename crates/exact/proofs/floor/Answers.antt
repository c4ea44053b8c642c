-- `exact::floor` meets its contract, by the remainder of the machine's division (proofs/Circles). Assumes nothing.
use Rattle.std.proofs.Common.{arith}
use Rattle.std.proofs.lemmas.Int.{ints}
use Rattle.exact.proofs.Division.{divided}
use Rattle.exact.proofs.Circles.{floor_kept, floor_down}
use Rattle.exact.proofs.floor.Goals as goal

pub overflow_sub-result : goal.overflow_sub-result
overflow_sub-result c = let k = divided c.args.n c.args.d c.requires c.ranges.n c.ranges.d in grind (arith, ints)

pub returns-then-below : goal.returns-then-below
returns-then-below c =
    let k = divided c.args.n c.args.d c.requires c.ranges.n c.ranges.d in let f = overflow_sub-result c in
    grind (arith, ints, floor_down c.args.n c.args.d c.requires)

pub returns-else-below : goal.returns-else-below
returns-else-below c =
    let k = divided c.args.n c.args.d c.requires c.ranges.n c.ranges.d in
    grind (arith, ints, floor_kept c.args.n c.args.d c.requires)
