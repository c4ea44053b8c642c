-- `precision::root::root`: e is right in the bits above `bit`, which falls by one a turn.
use Rattle.std.proofs.Common.{◌+◌, ◌*◌, ◌≤◌, ◌<◌, ◌^◌}
use Rattle.precision.proofs.root.root.Given as goal

abbrev pub invariant-loop-bit : goal.invariant-loop-bit
invariant-loop-bit l = (l.bit ≤ 19) × (l.e * l.e * l.c ≤ l.s) × (l.s < (l.e + 2 ^ l.bit) * (l.e + 2 ^ l.bit) * l.c) × (l.e + 2 ^ l.bit ≤ 524288)

abbrev pub decreases-loop-bit : goal.decreases-loop-bit
decreases-loop-bit l = l.bit
