-- `condition::tally::Tally::add_terms`: what some of the terms add is small.
use Rattle.std.proofs.Common.{arith}
use Rattle.condition.proofs.Shares.{tally_size}
use Rattle.condition.proofs.tally.Tally.add_terms.Goals as goal

pub add_term-requires-clause-small : goal.add_term-requires-clause-small
add_term-requires-clause-small c h =
    rw (c.loop-j.invariant h) (tally_size 64 c.loop-j.j _ (omega (arith, c.args.terms.lists.few)) (λ i k. c.requires.sound i (omega arith)) h)
