-- `network::conditions::form_at` meets its contract. Assumes nothing.
use borrow.Author.Rules.{rules}
use Rattle.std.proofs.lemmas.Result.{err_from_is_err_and}
use Rattle.exact.proofs.Bound.{read_at}
use Rattle.network.proofs.Forming.{closes, closing_stops}
use Rattle.network.proofs.conditions.form_at.Goals as goal

pub returns-in_err-w-clause-closed : goal.returns-in_err-w-clause-closed
returns-in_err-w-clause-closed c =
    let p = err_from_is_err_and c.from_residual.result c.from_residual.ensures.1 in
    rw (p.1, p.2) (closing_stops c.args.heading c.gather-read.ensures.terms _ _ _ (read_at c.args.heading.target (search rules)) c.form.ensures.figure c.in_err-w.was)

pub returns-clause-closed : goal.returns-clause-closed
returns-clause-closed c = (
  rw (read_at c.in_ok-w.w (search rules)) (closes c.args.heading c.gather-read.ensures.terms _ _ _ (read_at c.args.heading.target (search rules)) c.form.ensures.figure c.in_ok-w.was),
  c.gather-read.ensures.after,
)
