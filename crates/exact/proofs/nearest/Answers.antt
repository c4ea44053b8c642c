-- `exact::nearest` meets its contract, by the remainder of the machine's division (proofs/Rounding). Assumes nothing.
use Rattle.std.proofs.Common.{arith}
use Rattle.std.proofs.lemmas.Int.{ints}
use Rattle.exact.proofs.Division.{divided}
use Rattle.exact.proofs.Rounding.{nearest_below, nearest_above, nearest_kept_below, nearest_kept_above}
use Rattle.exact.proofs.nearest.Goals as goal

pub overflow_sub-result : goal.overflow_sub-result
overflow_sub-result c = let k = divided c.args.n c.args.d c.requires c.ranges.n c.ranges.d in grind (arith, ints)

pub overflow_add-result : goal.overflow_add-result
overflow_add-result c = let k = divided c.args.n c.args.d c.requires c.ranges.n c.ranges.d in grind (arith, ints)

pub returns-then-d-r : goal.returns-then-d-r
returns-then-d-r c =
    let k = divided c.args.n c.args.d c.requires c.ranges.n c.ranges.d in let f = overflow_sub-result c in
    grind (arith, ints, nearest_below c.args.n c.args.d c.requires)

pub returns-else-d-r : goal.returns-else-d-r
returns-else-d-r c =
    let k = divided c.args.n c.args.d c.requires c.ranges.n c.ranges.d in
    grind (arith, ints, nearest_kept_below c.args.n c.args.d c.requires)

pub returns-then-d-r-2 : goal.returns-then-d-r-2
returns-then-d-r-2 c =
    let k = divided c.args.n c.args.d c.requires c.ranges.n c.ranges.d in let f = overflow_add-result c in
    grind (arith, ints, nearest_above c.args.n c.args.d c.requires)

pub returns-else-d-r-2 : goal.returns-else-d-r-2
returns-else-d-r-2 c =
    let k = divided c.args.n c.args.d c.requires c.ranges.n c.ranges.d in
    grind (arith, ints, nearest_kept_above c.args.n c.args.d c.requires)
