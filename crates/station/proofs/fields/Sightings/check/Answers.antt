-- `fields::Sightings::check` meets its contract: what the loop has found is the first sighting at fault, or that there is none. Assumes nothing.
use Rattle.std.proofs.Common.{◌≡◌, sym, ◌+◌, length, true, arith}
use Rattle.std.proofs.lemmas.Grind.{common_steps}
use Rattle.exact.proofs.Searching.{Failed}
use Rattle.reply.specs.declared.Refusal.TheVariants.{Field}
use Rattle.reply.proofs.Checking.{refuse_at, refuse_none}
use Rattle.station.specs.Bounds.{book_of}
use Rattle.station.specs.Sightings.{field_fault}
use Rattle.station.proofs.fields.Sightings.check.Goals as goal

pub returns-then-out_of_range : goal.returns-then-out_of_range
returns-then-out_of_range c =
    let a = c.args in
    let at : field_fault (book_of a.self.now) c.loop-h.h ≡ true = grind (arith, common_steps) in
    sym (refuse_at _ _ (λ h. Field (h + 1)) c.loop-h.h c.loop-h-test.true c.loop-h.invariant at)

pub returns : goal.returns
returns c =
    let a = c.args in
    let all : Failed (field_fault (book_of a.self.now)) (length a.self.now.position.now) = λ h l. c.loop-h.invariant h (omega arith) in
    sym (refuse_none _ _ (λ h. Field (h + 1)) all)
