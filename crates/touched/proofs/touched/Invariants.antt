-- `touched::touched` meets its contract: the loop has the word of the directions before i. Assumes nothing.
use Rattle.std.proofs.Common.{◌≡◌}
use Rattle.touched.specs.Inner.{word, touches_in}
use Rattle.touched.proofs.touched.Given as goal

abbrev pub invariant-loop-i : goal.invariant-loop-i
invariant-loop-i l = l.word ≡ word l.i (touches_in l.row)
