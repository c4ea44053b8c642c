-- `condition::checks::terms_check`: the terms before the one it is at are accepted.
use Rattle.std.specs.Prelude.{◌≡◌, Ok}
use Rattle.condition.specs.Rules.{terms_check}
use Rattle.condition.specs.Listed.{listed}
use Rattle.condition.proofs.checks.terms_check.Given as goal

abbrev pub invariant-loop-j : goal.invariant-loop-j
invariant-loop-j l = terms_check l.kind l.m l.j (listed l.terms) ≡ Ok tt
