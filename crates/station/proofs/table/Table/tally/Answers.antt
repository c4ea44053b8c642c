-- `table::Table::tally` meets its contract: each sighting has its own place, and what stands there is small. Assumes nothing.
use Rattle.std.proofs.Common.{◌≡◌, ◌∙◌, ap, arith, ◌+◌, pos, ◌+ℤ◌, get_or, set, length, to_z, of_z, w64}
use Rattle.std.proofs.lemmas.Int.{ints}
use Rattle.station.specs.Bounds.{book_of}
use Rattle.station.specs.Sightings.{Book, reading_at}
use Rattle.station.specs.Table.{one}
use Rattle.station.proofs.Tallying.{InFields, in_fields, slot_at, tallied, tallied_none, stored, counts_so_far, readings_so_far, tallied_all}
use Rattle.station.proofs.table.Table.tally.Goals as goal
use Rattle.station.proofs.table.Table.tally.Goals.{Start, In-loop-h, After-slot_of-k}

abbrev sighted : Start → Book
sighted s = book_of s.args.sightings.now.lists

pub loop-h-init : goal.loop-h-init
loop-h-init c = let b = sighted (goal.at.loop-h-init c).Start in (c.requires.0 ∙ tallied_none b one, c.requires.1 ∙ tallied_none b (reading_at b))

fields : (c : In-loop-h) → InFields (sighted (goal.at.In-loop-h c).Start) c.loop-h.h
fields c = in_fields (sighted (goal.at.In-loop-h c).Start) c.loop-h.h (c.args.sightings.now.sound.sound c.loop-h.h c.loop-h-test.true)

pub slot_of-k-requires : goal.slot_of-k-requires
slot_of-k-requires c = let f = fields (goal.at.slot_of-k-requires c).In-loop-h in omega (arith, ints, f.faces.1.1, f.positions.1, f.objects.1)

module _ (c : After-slot_of-k) where
  abbrev b : Book
  b = sighted (goal.at.After-slot_of-k c).Start

  place : c.slot_of-k.result ≡ slot_at b c.loop-h.h
  place = let f = fields (goal.at.After-slot_of-k c).In-loop-h in omega (arith, ints, c.slot_of-k.ensures.place, f.faces.1.1, f.positions.1, f.objects.1)

  -- the two parts with the sighting
  counted : set c.loop-h.self.count c.slot_of-k.result (to_z w64 (of_z w64 (to_z w64 (of_z w64 (get_or c.loop-h.self.count c.slot_of-k.result (pos 0))) +ℤ pos 1))) ≡ tallied b one (c.loop-h.h + 1)
  counted =
      let f = fields (goal.at.After-slot_of-k c).In-loop-h in
      stored b one c.loop-h.h f c.loop-h.invariant.0 place (omega (arith, ints, c.loop-h.self.few c.slot_of-k.result))

  summed : set c.loop-h.self.sums c.slot_of-k.result (to_z w64 (of_z w64 (to_z w64 (of_z w64 (get_or c.loop-h.self.sums c.slot_of-k.result (pos 0))) +ℤ to_z w64 (of_z w64 (reading_at b c.loop-h.h))))) ≡ tallied b (reading_at b) (c.loop-h.h + 1)
  summed =
      let f = fields (goal.at.After-slot_of-k c).In-loop-h in
      stored b (reading_at b) c.loop-h.h f c.loop-h.invariant.1 place (omega (arith, ints, c.loop-h.self.small c.slot_of-k.result, f.readings.1.1))

pub overflow_add-self-in-loop-h : goal.overflow_add-self-in-loop-h
overflow_add-self-in-loop-h c =
    let f = fields (goal.at.overflow_add-self-in-loop-h c).In-loop-h in
    omega (arith, ints, c.loop-h.self.small c.slot_of-k.result, f.readings.1.1)

pub invariant_of-self : goal.invariant_of-self
invariant_of-self c =
    let at = (goal.at.invariant_of-self c).After-slot_of-k in
    record {
      few = counts_so_far (b at) c.args.sightings.now.sound (c.loop-h.h + 1) (omega arith) (counted at);
      small = readings_so_far (b at) c.args.sightings.now.sound (c.loop-h.h + 1) (omega arith) (summed at);
    }

pub loop-h-preserved : goal.loop-h-preserved
loop-h-preserved c = let at = (goal.at.loop-h-preserved c).After-slot_of-k in (counted at, summed at)

pub returns : goal.returns
returns c =
    let b = sighted (goal.at.returns c).Start in let e : c.loop-h.h ≡ length c.args.sightings.now.lists.position.now = omega arith in (
      c.loop-h.invariant.0 ∙ ap (tallied b one) e ∙ tallied_all b one,
      c.loop-h.invariant.1 ∙ ap (tallied b (reading_at b)) e ∙ tallied_all b (reading_at b),
    )
