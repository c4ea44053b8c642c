-- One field after another.
use Rattle.std.proofs.lemmas.Int.{to_z-of_z}
use Rattle.std.proofs.Common.{arith}
use Rattle.text.proofs.Putting.{puts_then, puts_most}
use Rattle.listing.proofs.lines.put_e.Goals as goal

pub returns : goal.returns
returns c =
    let f = c.ranges.mean in let g = c.ranges.probable in
    puts_most (omega arith)
    (puts_then c.byte.ensures (puts_then (simp to_z-of_z at c.signed.ensures) (puts_then (simp to_z-of_z at c.signed-2.ensures) c.byte-2.ensures)))
