-- `touched::words` meets its contract: the loop has filled in the words of the conditions before j. Assumes nothing.
use Rattle.std.proofs.Common.{◌≡◌, ◌∙◌, arith, rules, length-set}
use Rattle.exact.proofs.Filling.{set_more}
use Rattle.touched.specs.Inner.{word_of}
use Rattle.touched.proofs.Touching.{word_row}
use Rattle.touched.proofs.words.Goals as goal

pub loop-j-preserved : goal.loop-j-preserved
loop-j-preserved c =
    let w = c.loop-j.all in let j = c.loop-j.j in (
      length-set w j c.touched.result ∙ c.loop-j.invariant.0,
      set_more (λ j w. w ≡ word_of c.args.a.now c.args.m j) 0 j w c.touched.result (omega arith) c.loop-j.invariant.1
          (c.touched.ensures ∙ word_row c.args.a.now c.args.m j (search rules)),
    )
