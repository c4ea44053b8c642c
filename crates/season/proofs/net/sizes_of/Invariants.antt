-- `season::net::sizes_of` meets its contract: the sum and the largest of the sizes before j. Assumes nothing.
use Rattle.std.specs.Prelude.{◌≡◌}
use Rattle.season.specs.Share.{sum_to, most_to, size_at}
use Rattle.season.proofs.net.sizes_of.Given as goal

abbrev pub invariant-loop-j : goal.invariant-loop-j
invariant-loop-j l =
    (l.sum ≡ sum_to l.j (size_at l.kind l.net.kinds.now l.net.w.now))
    × (l.most ≡ most_to l.j (size_at l.kind l.net.kinds.now l.net.w.now))
