-- The head of the line, and its last field.
use Rattle.std.proofs.lemmas.Int.{to_z-of_z}
use Rattle.std.proofs.Common.{arith}
use Rattle.text.proofs.Putting.{puts_then, puts_most}
use Rattle.listing.proofs.lines.put_k.Goals as goal

pub returns : goal.returns
returns c =
    let f = c.ranges.k in let g = c.ranges.r in let h = c.ranges.q in
    puts_most (omega arith) (puts_then (simp to_z-of_z at c.put_head.ensures) (puts_then (simp to_z-of_z at c.signed.ensures) c.byte.ensures))
