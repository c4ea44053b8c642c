-- `season::stream::finish` meets its contract. Assumes nothing.
use Rattle.std.proofs.Common.{sym, subst}
use Rattle.season.specs.Inner.{IsShare}
use Rattle.season.proofs.Sharing.{left_is}
use Rattle.season.proofs.stream.finish.Goals as goal

pub count-counted-requires : goal.count-counted-requires
count-counted-requires c = (subst IsShare (sym c.left.ensures) left_is, c.requires)
