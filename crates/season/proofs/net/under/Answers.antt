-- `season::net::under` meets its contract. Assumes nothing.
use Rattle.season.proofs.Sharing.{under_is}
use Rattle.season.proofs.net.under.Goals as goal

pub returns : goal.returns
returns c = under_is c.args.number c.requires
