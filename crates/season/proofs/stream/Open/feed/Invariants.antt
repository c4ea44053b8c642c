-- `stream::Open::feed` meets its contract: the bytes left, fed to the state as it is, give what all bytes give. Assumes nothing.
use Rattle.std.specs.Prelude.{◌≡◌, drop}
use Rattle.season.specs.Stream.{fed}
use Rattle.season.specs.Open.{state, GoesTo}
use Rattle.season.proofs.stream.Open.feed.Given as goal

abbrev pub invariant-loop-byte : goal.invariant-loop-byte
invariant-loop-byte l =
    (fed (drop l.byte-index l.bytes) (state l.self) ≡ fed l.bytes (state l.initial.self)) × GoesTo l.initial.self (state l.self) l.self
