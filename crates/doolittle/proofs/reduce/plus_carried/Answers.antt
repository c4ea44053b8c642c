-- `reduce::plus_carried` meets its contract. Assumes nothing.
use Rattle.std.proofs.Common.{◌≡◌, arith, rules, FitsSigned, w64}
use Rattle.std.proofs.lemmas.Int.{ints, to_z-of_z}
use Rattle.doolittle.specs.Solution.{carried}
use Rattle.doolittle.proofs.Sizes.{carried_size}
use Rattle.doolittle.proofs.reduce.plus_carried.Goals as goal
use Rattle.doolittle.proofs.reduce.plus_carried.Goals.{After-carried}

carried_is : (c : After-carried) → c.carried.result ≡ carried c.args.m c.args.x
carried_is c = let f = c.ranges.m in let g = c.ranges.x in simp to_z-of_z at c.carried.ensures

pub overflow_add-result : goal.overflow_add-result
overflow_add-result c =
    let f : FitsSigned w64 c.carried.result = search rules in
    omega (arith, ints, carried_is c, carried_size c.args.m c.args.x 4000000000 c.requires.1 c.requires.2)

pub returns : goal.returns
returns c = let f : FitsSigned w64 c.carried.result = search rules in let g = overflow_add-result c in omega (arith, ints, carried_is c)
