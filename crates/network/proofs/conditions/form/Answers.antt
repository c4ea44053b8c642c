-- `network::conditions::form` meets its contract. Assumes nothing.
use mathlib.Core.Path.{◌≡◌, sym, ◌∙◌}
use borrow.Author.Rules.{rules}
use Rattle.std.specs.Prelude.{Err}
use Rattle.exact.proofs.Bound.{read_at}
use Rattle.reply.specs.Reply.{Figure}
use Rattle.network.specs.Net.{lent_of}
use Rattle.network.proofs.Forming.{row_refused, closed}
use Rattle.network.proofs.conditions.form.Goals as goal

pub returns-in_err-or-clause-figure : goal.returns-in_err-or-clause-figure
unfolding lent_of
returns-in_err-or-clause-figure c =
    let target = read_at c.args.c.target (search rules) in let r : ◌≡◌ {A = Figure} c.from_residual.result (Err c.in_err-or.field-0.0) = search rules in
    r ∙ row_refused _ _ _ _ (c.coefficients-formed.ensures.answer ∙ rw c.requires (simp target)) (sym c.or.ensures ∙ c.in_err-or.was)

pub returns-in_err-or-clause-list : goal.returns-in_err-or-clause-list
unfolding lent_of
returns-in_err-or-clause-list c = c.coefficients-formed.ensures.list ∙ simp (read_at c.args.c.target (search rules))

pub returns-clause-figure : goal.returns-clause-figure
unfolding lent_of
returns-clause-figure c =
    let target = read_at c.args.c.target (search rules) in
    c.or-2.ensures
    ∙ closed _ _ _ _ (c.coefficients-formed.ensures.answer ∙ rw c.requires (simp target)) (sym c.or.ensures ∙ c.in_ok-or.was) (c.misclosure-closed.ensures.answer ∙ simp target)

pub returns-clause-list : goal.returns-clause-list
unfolding lent_of
returns-clause-list c = c.coefficients-formed.ensures.list ∙ simp (read_at c.args.c.target (search rules))
