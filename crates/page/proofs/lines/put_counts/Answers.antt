-- What was put, part by part.
use Rattle.std.proofs.Common.{arith}
use Rattle.text.proofs.Putting.{puts_then, puts_most}
use Rattle.page.proofs.lines.put_counts.Goals as goal

pub returns : goal.returns
returns c = puts_most (omega arith) (puts_then c.count.ensures (puts_then c.count-2.ensures c.byte.ensures))
