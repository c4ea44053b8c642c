-- `touched::with_direction` meets its contract. Assumes nothing.
use Rattle.std.proofs.Common.{◌∙◌, ap, arith, pos, bit_or}
use lib.Bits.{or_shifted_r}
use lib.Dec.{lit<}
use lib.Pow.{shl_exact}
use Rattle.exact.proofs.Bound.{numeral_fits}
use Rattle.exact.proofs.Sameness.{bits_same, bits_other}
use Rattle.touched.proofs.with_direction.Goals as goal

pub returns-then-x-eq0 : goal.returns-then-x-eq0
returns-then-x-eq0 c = rw (bits_same c.ranges.x (numeral_fits 0 tt) c.if-x-eq0.true) (omega arith)

pub returns-else-x-eq0 : goal.returns-else-x-eq0
returns-else-x-eq0 c =
    let i = c.args.i in
    rw (bits_other c.args.x (pos 0) c.if-x-eq0.false)
    (ap (bit_or c.args.word) (shl_exact 1 i 64 (lit< tt) (omega arith)) ∙ or_shifted_r 1 i c.args.word c.requires.1)
