-- `condition::term::read`: the code is that of one letter, or of none.
use Rattle.std.proofs.Common.{◌≡◌, pos, arith}
use Rattle.std.proofs.lemmas.Int.{ints}
use Rattle.exact.specs.Same.{same}
use Rattle.exact.proofs.Sameness.{same_no}
use Rattle.condition.specs.Terms.{letter_of}
use Rattle.condition.proofs.term.read.Goals as goal

pub returns-in-80 : goal.returns-in-80
unfolding letter_of same
returns-in-80 c = let h : c.args.code ≡ pos 80 = omega (arith, ints) in rw h

pub returns-in-70 : goal.returns-in-70
unfolding letter_of same
returns-in-70 c = let h : c.args.code ≡ pos 70 = omega (arith, ints) in rw h

pub returns-in-76 : goal.returns-in-76
unfolding letter_of same
returns-in-76 c = let h : c.args.code ≡ pos 76 = omega (arith, ints) in rw h

pub returns-in-82 : goal.returns-in-82
unfolding letter_of same
returns-in-82 c = let h : c.args.code ≡ pos 82 = omega (arith, ints) in rw h

pub returns-in_default : goal.returns-in_default
unfolding letter_of
returns-in_default c =
    let z = c.args.code in
    rw (
      same_no z (pos 80) (λ e. omega (arith, ints)),
      same_no z (pos 70) (λ e. omega (arith, ints)),
      same_no z (pos 76) (λ e. omega (arith, ints)),
      same_no z (pos 82) (λ e. omega (arith, ints)),
    )
