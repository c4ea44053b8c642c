-- `reduce::carried` meets its contract. Assumes nothing.
use Rattle.std.proofs.Common.{arith, rules, ◌*ℤ◌, FitsSigned, w64}
use Rattle.std.proofs.lemmas.Int.{ints, to_z-of_z}
use Rattle.doolittle.proofs.Sizes.{product_size}
use Rattle.doolittle.proofs.reduce.carried.Goals as goal

pub returns : goal.returns
returns c =
    let f = c.ranges.m in let g = c.ranges.x in let p = product_size c.args.m c.args.x c.requires.0 c.requires.1 in
    let k : FitsSigned w64 (c.args.m *ℤ c.args.x) = omega (arith, ints) in
    let r : FitsSigned w64 c.nearest.result = search rules in
    simp to_z-of_z (simp to_z-of_z at c.nearest.ensures)
