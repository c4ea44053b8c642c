-- `condition::tally::Tally::coefficients`: a part of the list, number by number.
use Rattle.std.proofs.Common.{◌≡◌, refl, length, get_or, pos, arith, rules}
use Rattle.condition.proofs.Shares.{tally_of}
use Rattle.condition.proofs.tally.Tally.coefficients.Goals as goal

pub returns : goal.returns
returns c =
    let sums = c.args.self.now.sums in let long : length sums ≡ 65 = search rules in
    tally_of sums c.args.m (λ n. get_or sums n (pos 0)) (omega arith) (λ n. refl)
