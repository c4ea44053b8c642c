-- One part after another.
use Rattle.std.proofs.Common.{arith}
use Rattle.text.proofs.Putting.{puts_then, puts_most}
use Rattle.listing.specs.File.{answers_listing}
use Rattle.listing.proofs.lines.put_accepted.Goals as goal

pub returns : goal.returns
unfolding answers_listing
returns c = puts_most (omega arith) (puts_then c.put_heading.ensures (puts_then c.put_vs.ensures c.put_ks.ensures))
