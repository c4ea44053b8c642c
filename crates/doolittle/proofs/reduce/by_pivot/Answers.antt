-- `reduce::by_pivot` meets its contract. Assumes nothing.
use Rattle.std.proofs.Common.{arith, rules, neg_ℤ, ◌*ℤ◌, FitsSigned, w64}
use Rattle.std.proofs.lemmas.Int.{ints, to_z-of_z}
use Rattle.std.proofs.Math.IntN.{+ℤ_idl}
use Rattle.doolittle.proofs.Sizes.{product_size}
use Rattle.doolittle.proofs.reduce.by_pivot.Goals as goal

pub overflow_sub-factor : goal.overflow_sub-factor
overflow_sub-factor c =
    let f = c.ranges.factor in let g = c.ranges.x in let p = product_size c.args.factor c.args.x c.requires.0 c.requires.1 in
    let k : FitsSigned w64 (c.args.factor *ℤ c.args.x) = omega (arith, ints) in
    simp to_z-of_z (omega (arith, ints))

pub returns : goal.returns
returns c =
    let f = c.ranges.factor in let g = c.ranges.x in let h = c.ranges.pivot in
    let p = product_size c.args.factor c.args.x c.requires.0 c.requires.1 in
    let k : FitsSigned w64 (c.args.factor *ℤ c.args.x) = omega (arith, ints) in
    let l : FitsSigned w64 (neg_ℤ (c.args.factor *ℤ c.args.x)) = omega (arith, ints) in
    let m : FitsSigned w64 c.nearest.result = search rules in
    simp to_z-of_z (simp (to_z-of_z, +ℤ_idl) at c.nearest.ensures)
