-- `fields::Sightings::check`: all sightings before h are in range.
use Rattle.exact.proofs.Searching.{Failed}
use Rattle.station.specs.Bounds.{book_of}
use Rattle.station.specs.Sightings.{field_fault}
use Rattle.station.proofs.fields.Sightings.check.Given as goal

abbrev pub invariant-loop-h : goal.invariant-loop-h
invariant-loop-h l = Failed (field_fault (book_of l.self)) l.h
