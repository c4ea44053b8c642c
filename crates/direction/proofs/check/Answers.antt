-- `direction::check` meets its contract: what the loop has found is the first direction at fault, or that there is none. Assumes nothing.
use Rattle.std.proofs.Common.{◌≡◌, sym, ◌+◌, length, true, arith}
use Rattle.std.proofs.lemmas.Grind.{common_steps}
use Rattle.exact.proofs.Searching.{Failed}
use Rattle.reply.specs.declared.Refusal.TheVariants.{OutOfRange}
use Rattle.reply.proofs.Unique.{replies}
use Rattle.reply.proofs.Checking.{refuse_at, refuse_none}
use Rattle.direction.specs.Ranges.{fault_at, directions_reply}
use Rattle.direction.proofs.check.Goals as goal

pub returns-then-out_of_range : goal.returns-then-out_of_range
unfolding directions_reply
returns-then-out_of_range c =
    let at : fault_at c.args.directions.now c.args.q.now c.loop-i.i ≡ true = grind (arith, common_steps) in
    replies (sym (refuse_at _ _ (λ i. OutOfRange (i + 1)) c.loop-i.i c.loop-i-test.true c.loop-i.invariant at))

pub returns : goal.returns
unfolding directions_reply
returns c =
    let all : Failed (fault_at c.args.directions.now c.args.q.now) (length c.args.directions.now) = λ h l. c.loop-i.invariant h (omega arith) in
    replies (sym (refuse_none _ _ (λ i. OutOfRange (i + 1)) all))
