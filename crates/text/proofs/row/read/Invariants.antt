-- `text::row::read` meets its contract: the numbers read so far and the row of what is left are the row. Assumes nothing.
use Rattle.text.proofs.Rowing.{Sofar}
use Rattle.text.proofs.row.read.Given as goal

abbrev pub invariant-loop-i : goal.invariant-loop-i
invariant-loop-i l = Sofar l.most l.file l.start l.count l.at l.i l.x
