-- `print` meets its contract. Assumes nothing.
use Rattle.std.proofs.Common.{refl, arith, rules}
use Rattle.text.proofs.Putting.{put_whole}
use Rattle.sheet.proofs.Promising.{no_answer, answered}
use Rattle.sheet.proofs.print.Goals as goal

pub returns-then-out-lt-ANSWER : goal.returns-then-out-lt-ANSWER
returns-then-out-lt-ANSWER c = let a = c.args in record {
  line = no_answer a.net.now a.listing.now a.out.now (omega (arith, c.if-out-lt-ANSWER.true));
  within = omega arith;
}

pub returns-clause-line : goal.returns-clause-line
returns-clause-line c =
    let a = c.args in
    let line = answered a.net.now a.listing.now a.out.now (omega (arith, c.if-out-lt-ANSWER.false)) c.check.ensures (put_whole refl c.put_answer.ensures) in
    search rules
