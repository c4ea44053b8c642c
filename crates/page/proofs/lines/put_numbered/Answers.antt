-- The head, and the end of the line.
use mir.ValLaws.{to_z-of_z}
use Rattle.text.proofs.Putting.{puts_then}
use Rattle.page.proofs.lines.put_numbered.Goals as goal

pub returns : goal.returns
returns c = let f = c.ranges.first in let g = c.ranges.second in puts_then (simp to_z-of_z at c.put_head.ensures) c.byte.ensures
