-- `condition::closing::Directions::total`: the terms passed are summed.
use Rattle.std.specs.Prelude.{◌≡◌}
use Rattle.exact.specs.Sum.{sum}
use Rattle.condition.specs.Terms.{part}
use Rattle.condition.specs.Listed.{listed}
use Rattle.condition.proofs.closing.Directions.total.Given as goal

abbrev pub invariant-loop-j : goal.invariant-loop-j
invariant-loop-j l = l.total ≡ sum l.j (λ j. part l.self.values.now (listed l.terms j))
