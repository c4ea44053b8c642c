-- `season::net::reply_to` meets its contract. Assumes nothing.
use Rattle.std.proofs.Common.{◌≡◌, sym, ◌∙◌, ap, Err, rules}
use Rattle.reply.specs.Reply.{Reply}
use Rattle.reply.specs.Checks.{figure_reply}
use Rattle.listing.proofs.Tabling.{given_answered}
use Rattle.season.proofs.net.reply_to.Goals as goal

pub returns-in_err-adjust : goal.returns-in_err-adjust
returns-in_err-adjust c =
    let e : ◌≡◌ {A = Reply} c.from_residual.result (Err c.in_err-adjust.field-0.0) = search rules in
    e ∙ ap figure_reply (sym c.in_err-adjust.was) ∙ sym (given_answered _ _ _ _ c.adjust.ensures)

pub returns : goal.returns
returns c = ap figure_reply (sym c.in_ok-adjust.was) ∙ sym (given_answered _ _ _ _ c.adjust.ensures)
