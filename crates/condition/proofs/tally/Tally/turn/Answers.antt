-- `condition::tally::Tally::turn`: x less at i, and x more at k.
use Rattle.std.proofs.Common.{◌≡◌, ◌-ℤ◌, pos, to_z, of_z, w64, FitsSigned, arith, rules}
use Rattle.std.specs.Prelude.{neg_ℤ}
use Rattle.std.proofs.lemmas.Int.{ints, to_z-of_z}
use Rattle.condition.proofs.tally.Tally.turn.Goals as goal

pub returns : goal.returns
returns c n =
    let x = c.args.x in
    let x_fits = c.ranges.x in
    let i_fits : FitsSigned w64 c.args.t.i = search rules in
    let k_fits : FitsSigned w64 c.args.t.k = search rules in
    let turned : to_z w64 (of_z w64 (pos 0 -ℤ to_z w64 (of_z w64 x))) ≡ neg_ℤ x = omega (arith, ints, c.requires.small.1) in
    let less = rw turned at (c.add.ensures n) in
    omega (arith, ints, simp to_z-of_z at less, simp to_z-of_z at (c.add-2.ensures n))
