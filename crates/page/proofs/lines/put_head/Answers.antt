-- What was put, part by part.
use Rattle.std.proofs.Common.{arith}
use mir.ValLaws.{to_z-of_z}
use Rattle.text.proofs.Putting.{puts_then, puts_most}
use Rattle.page.proofs.lines.put_head.Goals as goal

pub returns : goal.returns
returns c =
    let f = c.ranges.first in let g = c.ranges.second in
    puts_most (omega arith) (puts_then c.byte.ensures (puts_then c.count.ensures (puts_then (simp to_z-of_z at c.signed.ensures) (simp to_z-of_z at c.signed-2.ensures))))
