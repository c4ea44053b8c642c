-- `compare::take_correlates` meets its contract: the correlates before j are within 10^8 and stand in their list. Assumes nothing.
use mathlib.Core.Path.{◌≡◌, sym, ◌∙◌, ap, subst}
use native.Mathlib.Omega.{arith}
use borrow.Author.Tests.{lt-ltb}
use borrow.Author.Rules.{rules}
use lib.IntN.{nat_abs}
use mir.Syntax.{w64}
use mir.Val.{SFits}
use Rattle.exact.proofs.Bound.{read}
use Rattle.exact.proofs.Searching.{Failed, first_at, first_none}
use Rattle.sheet.proofs.Comparing.{correlate, large}
use Rattle.sheet.proofs.compare.take_correlates.Goals as goal

pub returns-then-magnitude-gt100000000-clause-value : goal.returns-then-magnitude-gt100000000-clause-value
returns-then-magnitude-gt100000000-clause-value c =
    let x = c.args.x.now in let m = c.args.m in let j = c.loop-j.j in
    let fit : SFits w64 (correlate x m j) = search rules in
    sym (first_at c.args.n (large x m) j c.loop-j-test.true c.loop-j.invariant.0
    (lt-ltb 100000000 (nat_abs (correlate x m j)) (rw (c.magnitude.ensures ∙ ap nat_abs (read fit)) at c.if-magnitude-gt100000000.true)))

pub returns-clause-value : goal.returns-clause-value
returns-clause-value c =
    let test = large c.args.x.now c.args.m in let e : c.loop-j.j ≡ c.args.n = omega arith in
    sym (first_none c.args.n test (subst (Failed test) e c.loop-j.invariant.0))
