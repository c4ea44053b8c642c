-- `parting::list_dropped`: the first n places hold the dropped ones among the first h.
use Rattle.std.proofs.Common.{not, ◌+◌, get_or}
use Rattle.exact.proofs.Gathering.{Gathered}
use Rattle.station.specs.Steps.{free}
use Rattle.station.proofs.parting.list_dropped.Given as goal

abbrev pub invariant-loop-h : goal.invariant-loop-h
invariant-loop-h l = record {
  ordinals : Gathered (λ i. not (free l.reason i)) (λ i. i + 1) l.h l.initial.ordinals l.ordinals l.n;
  reasons : Gathered (λ i. not (free l.reason i)) (λ i. get_or l.reason i 0) l.h l.initial.reasons l.reasons l.n;
}
