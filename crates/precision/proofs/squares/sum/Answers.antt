-- `precision::squares::sum`: the sum of some directions fits.
use Rattle.std.proofs.Common.{◌≡◌, ◌+◌, ap, arith, rules}
use Rattle.std.specs.Prelude.{nat_abs, pos}
use Rattle.doolittle.specs.Table.{at}
use Rattle.precision.specs.Errors.{S}
use Rattle.precision.proofs.Squaring.{S_more, S_most}
use Rattle.precision.proofs.squares.sum.Goals as goal

pub overflow_add-s : goal.overflow_add-s
overflow_add-s c =
    let i = c.loop-i.i in let qs = at c.args.q.now in let us = at c.args.u.now in
    let more : pos (c.loop-i.s + c.weighted_square-s.result) ≡ S (i + 1) qs us = rw (S_more i qs us) (search rules) in
    omega (arith, ap nat_abs more, S_most (i + 1) qs us (omega (arith, c.requires.u_len_bound.0)) (λ h k. c.requires.small.0 h (omega arith)))
