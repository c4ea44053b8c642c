-- The word, and the counts behind it.
use Rattle.std.proofs.Common.{arith}
use Rattle.text.proofs.Putting.{puts_then, puts_most}
use Rattle.page.proofs.lines.put_heading.Goals as goal

pub returns : goal.returns
returns c = puts_most (omega arith) (puts_then c.word.ensures c.put_counts.ensures)
