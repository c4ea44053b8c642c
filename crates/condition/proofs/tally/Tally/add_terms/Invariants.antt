-- `condition::tally::Tally::add_terms`: the tally holds what the terms passed add.
use Rattle.std.specs.Prelude.{◌≡◌, ℕ, get_or, pos}
use Rattle.exact.specs.Sum.{sum}
use Rattle.condition.specs.Terms.{share}
use Rattle.condition.specs.Listed.{listed}
use Rattle.condition.proofs.tally.Tally.add_terms.Given as goal

abbrev pub invariant-loop-j : goal.invariant-loop-j
invariant-loop-j l = (n : ℕ) → get_or l.self.sums n (pos 0) ≡ sum l.j (λ j. share (listed l.terms j) n)
