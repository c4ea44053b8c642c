-- `steps::place_of` meets its contract: positions and objects are in their ranges. Assumes nothing.
use Rattle.std.proofs.Common.{arith}
use Rattle.std.proofs.lemmas.Int.{ints}
use Rattle.station.specs.Bounds.{book_of}
use Rattle.station.proofs.Tallying.{InFields, in_fields}
use Rattle.station.proofs.steps.place_of.Goals as goal
use Rattle.station.proofs.steps.place_of.Goals.{Start}

fields : (c : Start) → InFields (book_of c.args.sightings.now.lists) c.args.h
fields c = in_fields (book_of c.args.sightings.now.lists) c.args.h (c.args.sightings.now.sound.sound c.args.h c.requires)

pub slot_of-requires : goal.slot_of-requires
slot_of-requires c = let f = fields (goal.at.slot_of-requires c).Start in omega (arith, ints, f.positions.1, f.objects.1)

pub returns : goal.returns
returns c = let f = fields (goal.at.returns c).Start in omega (arith, ints, c.slot_of.ensures.place, f.positions.1, f.objects.1)
