-- `condition::tally::Tally::add_term`: a right side term turns the other way.
use Rattle.std.proofs.Common.{◌≡◌, ◌≤◌, ◌-ℤ◌, pos, to_z, of_z, w64, arith, rules}
use Rattle.std.specs.Prelude.{neg_ℤ, nat_abs}
use Rattle.std.proofs.lemmas.Int.{ints}
use Rattle.condition.specs.Terms.{share}
use Rattle.condition.proofs.tally.Tally.add_term.Goals as goal

pub returns-in-Some-R : goal.returns-in-Some-R
unfolding share
returns-in-Some-R c n =
    let d = c.args.t.d in
    let small : nat_abs d ≤ 2000 = search rules in
    let turned : to_z w64 (of_z w64 (pos 0 -ℤ to_z w64 (of_z w64 d))) ≡ neg_ℤ d = omega (arith, ints) in
    search (rules, turned, c.turn-in-Some-R.ensures n)
