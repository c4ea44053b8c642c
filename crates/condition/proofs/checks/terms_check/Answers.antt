-- `condition::checks::terms_check`: the first term that is refused decides the reply.
use Rattle.std.proofs.Common.{arith, rules}
use Rattle.condition.specs.Listed.{count, listed}
use Rattle.condition.proofs.Turning.{terms_stop}
use Rattle.condition.proofs.checks.terms_check.Goals as goal

pub returns-in_err-check : goal.returns-in_err-check
returns-in_err-check c =
    let a = c.args in
    rw (terms_stop a.kind a.m (listed a.terms) (count a.terms) c.loop-j.j c.in_err-check.field-0.0 (omega arith) (search rules) (search rules)) (search rules)
