-- `precision::probable_error` keeps its promise: counts and lengths, then ranges. Assumes nothing.
use Rattle.std.proofs.Common.{◌≡◌, sym, ◌∙◌, rules, arith, Err}
use Rattle.std.specs.Prelude.{Result}
use Rattle.std.proofs.lemmas.Grind.{common_steps}
use Rattle.reply.specs.declared.Refusal.{Refusal}
use Rattle.reply.specs.declared.Refusal.TheVariants.{Count}
use Rattle.precision.specs.declared.Errors.{Errors}
use Rattle.precision.specs.Promise.{errors_reply}
use Rattle.precision.proofs.Promising.{by_ranges, refused_finds, accepted_finds}
use Rattle.precision.proofs.probable_error.Goals as goal
use Rattle.precision.proofs.probable_error.Goals.{After-check}

pub returns-then-counts_amiss : goal.returns-then-counts_amiss
unfolding errors_reply
returns-then-counts_amiss c =
    let a = c.args in
    let why : errors_reply a.u.now a.q.now a.n ≡ Err (Count 0) = grind (arith, common_steps) in refused_finds a.u.now a.q.now a.n why

replies : (c : After-check) → errors_reply c.args.u.now c.args.q.now c.args.n ≡ c.check.result
unfolding errors_reply
replies c = let a = c.args in by_ranges a.u.now a.q.now a.n (search rules) c.if-q-u.false ∙ sym c.check.ensures

pub returns-in_err-check : goal.returns-in_err-check
returns-in_err-check c =
    let a = c.args in
    let e : ◌≡◌ {A = Result Errors Refusal} c.from_residual.result (Err c.in_err-check.field-0.0) = search rules in
    rw e (refused_finds a.u.now a.q.now a.n (replies (goal.at.returns-in_err-check c).After-check ∙ c.in_err-check.was))

pub estimate-requires : goal.estimate-requires
estimate-requires c = replies (goal.at.estimate-requires c).After-check ∙ c.in_ok-check.was

pub returns : goal.returns
returns c =
    let a = c.args in accepted_finds a.u.now a.q.now a.n (replies (goal.at.returns c).After-check ∙ c.in_ok-check.was) c.estimate.ensures
