-- `steps::write_reasons` meets its contract: all reasons are written. Assumes nothing.
use Rattle.std.proofs.Common.{◌≡◌, arith, subst, get_or, length, ℕ}
use Rattle.exact.proofs.Filling.{Filled, filled_all}
use Rattle.station.specs.Bounds.{book_of}
use Rattle.station.specs.Rescue.{place_of}
use Rattle.station.proofs.steps.write_reasons.Goals as goal

pub returns : goal.returns
returns c =
    let a = c.args in let e : c.loop-h.h ≡ length a.sightings.now.lists.position.now = omega arith in
    filled_all 0 _ (length a.sightings.now.lists.position.now) a.reason.now c.loop-h.reason c.requires
    (subst (λ (h : ℕ). Filled 0 (λ i. get_or a.why.now (place_of (book_of a.sightings.now.lists) i) 0) 0 h a.reason.now c.loop-h.reason) e c.loop-h.invariant)
