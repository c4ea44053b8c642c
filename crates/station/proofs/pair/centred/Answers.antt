-- `pair::centred` meets its contract: the machine forms z + half, twice the half and the difference, which fit. Assumes nothing.
use Rattle.std.proofs.Common.{◌≡◌, ◌≤◌, arith, pos, nat_abs, ◌+ℤ◌, ◌*ℤ◌, ◌<ℤ◌, to_z, of_z, w64}
use Rattle.std.proofs.lemmas.Int.{ints, to_z-of_z}
use Rattle.exact.proofs.Circles.{modulo_size}
use Rattle.station.specs.Means.{centred}
use Rattle.station.proofs.pair.centred.Goals as goal
use Rattle.station.proofs.pair.centred.Goals.{After-modulo}

-- what is left lies within the circle
left_size : (c : After-modulo) → nat_abs c.modulo.result ≤ 2592000000
left_size c =
    let h = c.args.half in
    let circle : to_z w64 (of_z w64 (pos 2 *ℤ to_z w64 (of_z w64 h))) ≡ pos 2 *ℤ h = omega (arith, ints) in
    let above : pos 0 <ℤ to_z w64 (of_z w64 (pos 2 *ℤ to_z w64 (of_z w64 h))) = grind (arith, ints) in
    omega (arith, ints, modulo_size (to_z w64 (of_z w64 (to_z w64 (of_z w64 c.args.z) +ℤ to_z w64 (of_z w64 h)))) _ above)

pub overflow_sub-result : goal.overflow_sub-result
overflow_sub-result c = omega (arith, ints, left_size c)

pub returns : goal.returns
unfolding centred
returns c = grind (arith, to_z-of_z, left_size c)
