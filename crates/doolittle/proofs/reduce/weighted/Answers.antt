-- `reduce::weighted` meets its contract. Assumes nothing.
use Rattle.std.proofs.Common.{arith, ◌*ℤ◌, FitsSigned, w64}
use Rattle.std.proofs.lemmas.Int.{ints, to_z-of_z}
use Rattle.doolittle.proofs.Sizes.{product_size}
use Rattle.doolittle.proofs.reduce.weighted.Goals as goal

pub returns : goal.returns
returns c =
    let f = c.ranges.q in let g = c.ranges.x in let p = product_size c.args.q c.args.x c.requires.0 c.requires.1 in
    let h : FitsSigned w64 (c.args.q *ℤ c.args.x) = omega (arith, ints) in
    simp to_z-of_z
