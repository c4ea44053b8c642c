-- `steps::note`: below k the reasons are noted, from k on they are as they were.
use Rattle.std.proofs.Common.{cond, get_or}
use Rattle.exact.proofs.Filling.{Filled}
use Rattle.station.specs.Replies.{fault}
use Rattle.station.proofs.steps.note.Given as goal

abbrev pub invariant-loop-k : goal.invariant-loop-k
invariant-loop-k l = Filled 0 (λ i. cond (fault l.check l.table.count l.table.sums i) l.step (get_or l.initial.why i 0)) 0 l.k l.initial.why l.why
