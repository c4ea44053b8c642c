-- `parting::keep`: the first n places hold the field of the kept ones among the first h.
use Rattle.std.proofs.Common.{pos, get_or}
use Rattle.exact.proofs.Gathering.{Gathered}
use Rattle.station.specs.Steps.{free}
use Rattle.station.proofs.parting.keep.Given as goal

abbrev pub invariant-loop-h : goal.invariant-loop-h
invariant-loop-h l = Gathered (free l.reason) (λ i. get_or l.field i (pos 0)) l.h l.initial.kept l.kept l.n
