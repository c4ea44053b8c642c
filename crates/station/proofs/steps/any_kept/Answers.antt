-- `steps::any_kept` meets its contract, by what `any` answers over a range. Assumes nothing.
use Rattle.std.proofs.Common.{refl, sym, ◌∙◌, arith, rules, tests, length}
use Rattle.std.proofs.lemmas.Iterator.{YieldsList-from_range}
use Rattle.std.proofs.lemmas.Iterator.Search.{any_from_yields_List}
use Rattle.exact.proofs.Searching.{some_in_range}
use Rattle.station.specs.Bounds.{book_of}
use Rattle.station.specs.Rescue.{place_of}
use Rattle.station.specs.Steps.{free}
use Rattle.station.proofs.steps.any_kept.Goals as goal

pub returns : goal.returns
returns c =
    let a = c.args in let n = length a.sightings.now.lists.position.now in
    any_from_yields_List (λ h. free a.why.now (place_of (book_of a.sightings.now.lists) h)) _ _ _ c.any.ensures.ran
    (YieldsList-from_range 0 n n refl (omega arith)) (λ x b q k. search (rules, tests)) ∙ sym (some_in_range n _)
