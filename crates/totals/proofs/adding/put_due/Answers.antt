-- The head, and the tab behind it.
use Rattle.std.proofs.Common.{refl, rules}
use Rattle.text.proofs.Putting.{puts_then, put_whole}
use Rattle.totals.proofs.adding.put_due.Goals as goal

pub returns-clause-text : goal.returns-clause-text
returns-clause-text c = let w = put_whole refl (puts_then c.put_head.ensures c.byte.ensures) in search rules
