-- `totals::check` meets its contract: what the loop has found is the first place at fault, or that there is none. Assumes nothing.
use Rattle.std.proofs.Common.{sym, ◌∙◌, ◌+◌}
use native.Mathlib.Omega.{arith}
use Rattle.exact.proofs.Searching.{Failed}
use Rattle.reply.specs.declared.Refusal.TheVariants.{OutOfRange}
use Rattle.reply.proofs.Checking.{refuse_at, refuse_none}
use Rattle.totals.specs.Promise.{too_large_at}
use Rattle.totals.proofs.check.Goals as goal

pub returns-then-too_large : goal.returns-then-too_large
returns-then-too_large c =
    sym (refuse_at 16 (too_large_at c.args.first.now c.args.second.now) (λ i. OutOfRange (i + 1)) c.loop-i.i (omega arith) c.loop-i.invariant
    (sym c.too_large.ensures ∙ c.if-too_large.true))

pub returns : goal.returns
returns c =
    let all : Failed (too_large_at c.args.first.now c.args.second.now) 16 = λ h l. c.loop-i.invariant h (omega arith) in
    sym (refuse_none 16 _ (λ i. OutOfRange (i + 1)) all)
