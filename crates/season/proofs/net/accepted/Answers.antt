-- `season::net::accepted` meets its contract. Assumes nothing.
use Rattle.std.proofs.Common.{◌≡◌, ◌∙◌, ap, Bool, true, false, refl, length}
use mir.Val.{bool_byte}
use Rattle.touched.specs.Shared.{one_if}
use Rattle.season.proofs.Sharing.{figures_put}
use Rattle.season.proofs.net.accepted.Goals as goal

counted : (b : Bool) → bool_byte b ≡ one_if b
counted true = refl
counted false = refl

pub returns : goal.returns
returns c =
    let net = c.args.net in let angles = c.sizes_of-angles.ensures in let sides = c.sizes_of-sides.ensures in
    figures_put net.kinds.now net.w.now net.a.now (length net.directions.now) c.under-one.ensures angles.sum angles.most sides.sum sides.most
    (c.from.ensures ∙ counted c.shares_three.result ∙ ap one_if c.shares_three.ensures)
