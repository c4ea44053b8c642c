-- `precision::check` meets its contract: what the loop has found is the first direction at fault, or that there is none. Assumes nothing.
use Rattle.std.proofs.Common.{◌≡◌, sym, ◌+◌, length, true, arith}
use Rattle.std.proofs.lemmas.Grind.{common_steps}
use Rattle.exact.proofs.Searching.{Failed}
use Rattle.reply.specs.declared.Refusal.TheVariants.{OutOfRange}
use Rattle.reply.proofs.Checking.{refuse_at, refuse_none}
use Rattle.precision.specs.Promise.{out_of_range_at}
use Rattle.precision.proofs.check.Goals as goal

pub returns-then-magnitude-gt-MINUTE : goal.returns-then-magnitude-gt-MINUTE
returns-then-magnitude-gt-MINUTE c =
    let at : out_of_range_at c.args.u.now c.args.q.now c.loop-i.i ≡ true = grind (arith, common_steps) in
    sym (refuse_at _ _ (λ i. OutOfRange (i + 1)) c.loop-i.i c.loop-i-test.true c.loop-i.invariant at)

pub returns : goal.returns
returns c =
    let all : Failed (out_of_range_at c.args.u.now c.args.q.now) (length c.args.u.now) = λ h l. c.loop-i.invariant h (omega arith) in
    sym (refuse_none _ _ (λ i. OutOfRange (i + 1)) all)
