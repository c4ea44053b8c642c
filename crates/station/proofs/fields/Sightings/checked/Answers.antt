-- `fields::Sightings::checked` meets its contract: lists that pass both checks are in range. Assumes nothing.
use Rattle.std.proofs.Common.{◌∙◌, sym}
use Rattle.station.specs.Bounds.{book_of}
use Rattle.station.proofs.Deciding.{lengths_fit_lem, in_range}
use Rattle.station.proofs.fields.Sightings.checked.Goals as goal

pub check-requires : goal.check-requires
check-requires c =
    let f = lengths_fit_lem _ _ _ _ _ _ (sym c.fit.ensures ∙ c.if-not-fit.false) in (f.objects_fit, (f.faces_fit, f.readings_fit))

pub invariant_of-result : goal.invariant_of-result
invariant_of-result c =
    record { sound = in_range (book_of c.args.self.now) 16 16 (sym c.fit.ensures ∙ c.if-not-fit.false) (sym c.check.ensures ∙ c.in_ok-check.was) }
