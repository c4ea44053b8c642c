-- `totals::adding::next` meets its contract: the bytes that are left lead on from the state so far. Assumes nothing.
use Rattle.std.specs.Prelude.{◌≡◌, ◌≤◌, length, drop}
use Rattle.totals.specs.Adding.{after_bytes, stream_of}
use Rattle.totals.proofs.adding.next.Given as goal

abbrev pub invariant-loop-b : goal.invariant-loop-b
invariant-loop-b l =
    (length l.held ≡ 64) × (l.after.length ≤ 64)
    × (after_bytes (stream_of l.after l.held) (drop l.b-index l.bytes) ≡ after_bytes (stream_of l.initial.after l.initial.held) l.bytes)
