-- `steps::write_reasons`: below h the reasons are written.
use Rattle.std.proofs.Common.{get_or}
use Rattle.exact.proofs.Filling.{Filled}
use Rattle.station.specs.Bounds.{book_of}
use Rattle.station.specs.Rescue.{place_of}
use Rattle.station.proofs.steps.write_reasons.Given as goal

abbrev pub invariant-loop-h : goal.invariant-loop-h
invariant-loop-h l = Filled 0 (λ i. get_or l.why (place_of (book_of l.sightings.lists) i) 0) 0 l.h l.initial.reason l.reason
