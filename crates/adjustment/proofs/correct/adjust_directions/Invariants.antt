-- `correct::adjust_directions` meets its contract: the adjusted directions before i stand in the list. Assumes nothing.
use Rattle.std.proofs.Common.{◌≡◌, ℕ, ◌<◌}
use Rattle.std.specs.Prelude.{◌+ℤ◌}
use Rattle.exact.specs.Circle.{C, modulo}
use Rattle.doolittle.specs.Table.{at}
use Rattle.adjustment.proofs.correct.adjust_directions.Given as goal

abbrev pub invariant-loop-i : goal.invariant-loop-i
invariant-loop-i l = (h : ℕ) → h < l.i → at l.adjusted h ≡ modulo (at l.directions h +ℤ at l.u h) C
