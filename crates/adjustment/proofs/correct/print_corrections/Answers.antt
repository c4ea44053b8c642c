-- `correct::print_corrections` meets its contract. Assumes nothing.
use Rattle.std.proofs.Common.{sym, arith}
use Rattle.std.proofs.lemmas.Grind.{common_steps}
use Rattle.exact.proofs.Searching.{first_at, first_none}
use Rattle.adjustment.proofs.correct.print_corrections.Goals as goal

pub returns-then-magnitude-gt-MINUTE-clause-value : goal.returns-then-magnitude-gt-MINUTE-clause-value
returns-then-magnitude-gt-MINUTE-clause-value c =
    sym (first_at _ _ c.loop-i.i c.loop-i-test.true c.loop-i.invariant.within (grind (arith, common_steps)))

pub returns-clause-value : goal.returns-clause-value
returns-clause-value c = sym (first_none _ _ (λ h l. c.loop-i.invariant.within h (omega arith)))
