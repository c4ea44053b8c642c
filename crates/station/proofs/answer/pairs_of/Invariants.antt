-- `answer::pairs_of`: as many pairs as positions before this one have the object.
use Rattle.std.proofs.Common.{◌≡◌, pos}
use Rattle.station.specs.SumWhere.{sum_where}
use Rattle.station.specs.Means.{seen}
use Rattle.station.proofs.answer.pairs_of.Given as goal

abbrev pub invariant-loop-position : goal.invariant-loop-position
invariant-loop-position l = l.pairs ≡ sum_where l.position (λ k. seen l.table.count k l.object) (λ k. pos 1)
