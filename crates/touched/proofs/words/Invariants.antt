-- `touched::words` meets its contract: the loop has filled in the words of the conditions before j. Assumes nothing.
use Rattle.std.proofs.Common.{◌≡◌, length}
use Rattle.touched.specs.Inner.{WordsOf}
use Rattle.touched.proofs.words.Given as goal

abbrev pub invariant-loop-j : goal.invariant-loop-j
invariant-loop-j l = (length l.all ≡ 24) × WordsOf l.a l.m l.j l.all
