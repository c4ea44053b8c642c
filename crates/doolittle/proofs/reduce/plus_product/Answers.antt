-- `reduce::plus_product` meets its contract. Assumes nothing.
use Rattle.std.proofs.Common.{arith, ◌+ℤ◌, ◌*ℤ◌, FitsSigned, w64}
use Rattle.std.proofs.lemmas.Int.{ints, to_z-of_z}
use Rattle.doolittle.proofs.Sizes.{product_size}
use Rattle.doolittle.proofs.reduce.plus_product.Goals as goal

pub overflow_add-result : goal.overflow_add-result
overflow_add-result c =
    let f = c.ranges.s in let g = c.ranges.x in let h = c.ranges.y in let p = product_size c.args.x c.args.y c.requires.1 c.requires.2 in
    let k : FitsSigned w64 (c.args.x *ℤ c.args.y) = omega (arith, ints) in
    simp to_z-of_z (omega (arith, ints))

pub returns : goal.returns
returns c =
    let f = c.ranges.s in let g = c.ranges.x in let h = c.ranges.y in let p = product_size c.args.x c.args.y c.requires.1 c.requires.2 in
    let k : FitsSigned w64 (c.args.x *ℤ c.args.y) = omega (arith, ints) in
    let l : FitsSigned w64 (c.args.s +ℤ c.args.x *ℤ c.args.y) = omega (arith, ints) in
    simp to_z-of_z
