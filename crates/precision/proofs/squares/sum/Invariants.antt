-- `precision::squares::sum`: the directions passed are summed.
use Rattle.std.specs.Prelude.{◌≡◌, pos}
use Rattle.doolittle.specs.Table.{at}
use Rattle.precision.specs.Errors.{S}
use Rattle.precision.proofs.squares.sum.Given as goal

abbrev pub invariant-loop-i : goal.invariant-loop-i
invariant-loop-i l = pos l.s ≡ S l.i (at l.q) (at l.u)
