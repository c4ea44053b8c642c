-- `condition::closing::Directions::angle`: the difference of two directions of the circle, taken modulo C.
use Rattle.std.proofs.Common.{arith}
use Rattle.std.specs.Prelude.{nat_abs}
use Rattle.std.proofs.lemmas.Int.{to_z-of_z}
use Rattle.condition.specs.Terms.{angle}
use Rattle.condition.proofs.Parts.{direction_size}
use Rattle.condition.proofs.closing.Directions.angle.Goals as goal

pub returns : goal.returns
unfolding angle
returns c =
    let to = direction_size c.args.self.values.now c.args.self.small (nat_abs c.args.t.k) in
    let from = direction_size c.args.self.values.now c.args.self.small (nat_abs c.args.t.i) in
    grind (arith, to_z-of_z)
