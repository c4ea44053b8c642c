-- `table::Table::tally`: after h sightings the two parts are those of the first h.
use Rattle.std.proofs.Common.{◌≡◌}
use Rattle.station.specs.Bounds.{book_of}
use Rattle.station.specs.Sightings.{reading_at}
use Rattle.station.specs.Table.{one}
use Rattle.station.proofs.Tallying.{tallied}
use Rattle.station.proofs.table.Table.tally.Given as goal

abbrev pub invariant-loop-h : goal.invariant-loop-h
invariant-loop-h l =
    let b = book_of l.sightings.lists in
    (l.self.count ≡ tallied b one l.h) × (l.self.sums ≡ tallied b (reading_at b) l.h)
