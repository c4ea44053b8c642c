-- `answer::sum_from_base`: the total is the sum of e over the positions before i that have the object.
use Rattle.std.proofs.Common.{◌≡◌}
use Rattle.station.specs.SumWhere.{sum_where}
use Rattle.station.specs.Means.{seen, e}
use Rattle.station.proofs.answer.sum_from_base.Given as goal

abbrev pub invariant-loop-position : goal.invariant-loop-position
invariant-loop-position l = l.total ≡ sum_where l.position (λ k. seen l.table.count k l.object) (λ k. e l.table.count l.table.sums k l.object)
