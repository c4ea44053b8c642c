-- `season::net::share` meets its contract. Assumes nothing.
use Rattle.std.proofs.Common.{sym, ◌∙◌, ap, ℕ, ◌*◌, length, arith}
use Rattle.reply.specs.Checks.{figure_reply}
use Rattle.season.proofs.Numbering.{few_refused, few_file}
use Rattle.season.proofs.Sharing.{share_refused, share_passed, share_accepted}
use Rattle.season.proofs.net.share.Goals as goal

-- ---- a net that is refused
pub under-requires : goal.under-requires
under-requires c = omega (arith, few_refused (few_file c.args.net.now) (sym c.accepted_table.ensures.reply ∙ ap figure_reply c.in-Err.is), c.number.ensures)

pub returns-in-Err : goal.returns-in-Err
returns-in-Err c = share_refused c.args.net.now c.in-Err.why (sym c.accepted_table.ensures.reply ∙ ap figure_reply c.in-Err.is) c.number.ensures c.under.ensures

-- ---- the table of another
pub accepted-requires : goal.accepted-requires
accepted-requires c =
    let net = c.in-Ok.table in
    let p = share_passed c.args.net.now (c.accepted_table.ensures.table net c.in-Ok.is) (sym c.accepted_table.ensures.reply ∙ ap figure_reply c.in-Ok.is) in
    record { w = p.sound.w_most; a = omega (arith, p.sound.long, ap (λ (m : ℕ). length net.w.now * m) p.directions) }

pub returns-in-Ok : goal.returns-in-Ok
returns-in-Ok c =
    share_accepted c.args.net.now (c.accepted_table.ensures.table c.in-Ok.table c.in-Ok.is) (sym c.accepted_table.ensures.reply ∙ ap figure_reply c.in-Ok.is)
    c.accepted.ensures
