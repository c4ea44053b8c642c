-- `touched::touched` meets its contract: the loop has the word of the directions before i. Assumes nothing.
use Rattle.std.proofs.Common.{sym, ◌∙◌, arith, rules, pos, get_or, FitsSigned, w64}
use Rattle.std.proofs.lemmas.Int.{to_z-of_z}
use Rattle.touched.specs.Inner.{touches_in}
use Rattle.touched.proofs.Touching.{word_none, word_below, word_more}
use Rattle.touched.proofs.touched.Goals as goal

pub loop-i-init : goal.loop-i-init
loop-i-init c = sym (word_none _)

pub with_direction-word-requires : goal.with_direction-word-requires
with_direction-word-requires c = (omega arith, rw c.loop-i.invariant (word_below c.loop-i.i (touches_in c.args.row.now)))

pub loop-i-preserved : goal.loop-i-preserved
loop-i-preserved c =
    let row = c.args.row.now in let i = c.loop-i.i in
    let fits : FitsSigned w64 (get_or row i (pos 0)) = search rules in
    simp (to_z-of_z, c.loop-i.invariant) at c.with_direction-word.ensures ∙ sym (word_more i (touches_in row))
