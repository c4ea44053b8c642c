-- `solve::solve` meets its contract. Assumes nothing.
use Rattle.std.proofs.Common.{◌≡◌, refl, ◌∙◌, ap, Err, rules}
use Rattle.reply.specs.Checks.{figure_reply}
use Rattle.text.proofs.Putting.{rewrote, puts_then, put_whole}
use Rattle.page.specs.Page.{Listed}
use Rattle.page.proofs.Printing.{listed_refused, listed_accepted}
use Rattle.listing.proofs.Tabling.{given_answered, given_errors_accepted, given_table_accepted}
use Rattle.listing.proofs.solve.solve.Goals as goal

pub returns-in_err-answers : goal.returns-in_err-answers
returns-in_err-answers c =
    let e : ◌≡◌ {A = Listed} c.from_residual.result (Err c.in_err-answers.field-0.0) = search rules in
    rw e (listed_refused _ (given_answered _ _ _ _ c.adjust.ensures ∙ ap figure_reply c.in_err-answers.was))

pub put_errors-requires-clause-accepted : goal.put_errors-requires-clause-accepted
put_errors-requires-clause-accepted c = given_errors_accepted _ _ _ _ c.adjust.ensures c.in_ok-answers.was

pub returns : goal.returns
returns c =
    let done =
    listed_accepted (given_answered _ _ _ _ c.adjust.ensures ∙ ap figure_reply c.in_ok-answers.was)
    (rewrote (given_table_accepted _ _ _ _ c.adjust.ensures c.in_ok-answers.was c.args.sheet)
    (put_whole refl (puts_then c.put_accepted.ensures c.put_errors.ensures))) in
    search rules
