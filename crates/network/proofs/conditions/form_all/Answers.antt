-- `network::conditions::form_all` meets its contract: what has been formed and what the conditions left give are all. Assumes nothing.
use mathlib.Core.Path.{refl, sym, ◌∙◌}
use native.Mathlib.Omega.{arith}
use borrow.Author.Rules.{rules}
use Rattle.std.proofs.lemmas.Result.{err_from_is_err_and}
use Rattle.exact.proofs.Bound.{read_at}
use Rattle.network.proofs.Forming.{ended, line, terms_stand, one_more_fits, room, stopped, onto}
use Rattle.network.proofs.conditions.form_all.Goals as goal

pub returns-in_default : goal.returns-in_default
returns-in_default c = ended c.loop-heading.invariant (sym c.heading_of.ensures ∙ c.in_default.is)

pub slice_bounds-form_at-end : goal.slice_bounds-form_at-end
slice_bounds-form_at-end c =
    let f = c.loop-heading.invariant in
    omega (arith, room f (sym c.heading_of.ensures ∙ c.in-Some.is) c.requires.first_len_bound.0 c.requires.first_in_bounds.1, f.so_far.a_long)

pub form_at-requires-clause-at_in_bounds : goal.form_at-requires-clause-at_in_bounds
form_at-requires-clause-at_in_bounds c = terms_stand c.loop-heading.invariant (sym c.heading_of.ensures ∙ c.in-Some.is)

pub returns-in_err-closed : goal.returns-in_err-closed
returns-in_err-closed c =
    let p = err_from_is_err_and c.from_residual.result c.from_residual.ensures.1 in
    rw (p.1, p.2)
    (stopped c.loop-heading.invariant (sym c.heading_of.ensures ∙ c.in-Some.is) c.requires.first_len_bound.0 c.requires.first_in_bounds.1 c.in_err-closed.ensures.closed)

pub bounds-rows-n : goal.bounds-rows-n
bounds-rows-n c =
    let f = c.loop-heading.invariant in
    omega (arith, one_more_fits f (sym c.heading_of.ensures ∙ c.in-Some.is) c.requires.first_len_bound.0 c.requires.first_in_bounds.1, f.so_far.w_long)

pub bounds-rows-n-in-loop-heading : goal.bounds-rows-n-in-loop-heading
bounds-rows-n-in-loop-heading c =
    let f = c.loop-heading.invariant in
    omega (arith, one_more_fits f (sym c.heading_of.ensures ∙ c.in-Some.is) c.requires.first_len_bound.0 c.requires.first_in_bounds.1, f.so_far.kinds_long)

pub loop-heading-smaller : goal.loop-heading-smaller
loop-heading-smaller c =
    let k = c.in_ok-closed.ensures.closed in omega (arith, (line c.loop-heading.invariant (sym c.heading_of.ensures ∙ c.in-Some.is)).on, k.0.on, k.0.within)

pub loop-heading-preserved : goal.loop-heading-preserved
loop-heading-preserved c =
    let k = c.in_ok-closed.ensures.closed in
    onto c.loop-heading.invariant (sym c.heading_of.ensures ∙ c.in-Some.is) c.requires.first_len_bound.0 c.requires.first_in_bounds.1
    c.in_ok-closed.ensures.list k.0 k.1 (read_at c.in_ok-closed.closed.w (search rules)) refl
