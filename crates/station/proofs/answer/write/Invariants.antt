-- `answer::write`: both lists are filled up to the object.
use Rattle.std.proofs.Common.{pos}
use Rattle.exact.proofs.Filling.{Filled}
use Rattle.station.specs.Means.{P, direction}
use Rattle.station.proofs.answer.write.Given as goal

abbrev pub invariant-loop-object : goal.invariant-loop-object
invariant-loop-object l = record {
  directions : Filled (pos 0) (direction l.table.count l.table.sums) 0 l.object l.initial.direction l.direction;
  counts : Filled (pos 0) (P l.table.count) 0 l.object l.initial.pairs l.pairs;
}
