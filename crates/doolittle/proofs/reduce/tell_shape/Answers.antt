-- `reduce::tell_shape` meets its contract. Assumes nothing.
use Rattle.std.proofs.Common.{arith}
use borrow.Author.Count.{below_more}
use Rattle.doolittle.proofs.reduce.tell_shape.Goals as goal

pub loop-h-preserved : goal.loop-h-preserved
loop-h-preserved c = below_more _ _ c.loop-h.invariant c.tell_places.ensures

pub returns : goal.returns
returns c = record { long = c.told-rows; wide = λ h l. c.loop-h.invariant h (omega arith) }
