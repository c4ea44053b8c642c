-- `season::stream::check_totals` meets its contract: what the loop has found is the first total at fault, or that there is none. Assumes nothing.
use Rattle.std.proofs.Common.{sym, ◌+◌, get_or, arith}
use Rattle.std.proofs.lemmas.Bool.{lt-ltb}
use Rattle.exact.proofs.Searching.{Failed}
use Rattle.reply.specs.declared.Refusal.TheVariants.{OutOfRange}
use Rattle.reply.proofs.Checking.{refuse_at, refuse_none}
use Rattle.season.specs.Stream.{most_at, total_amiss}
use Rattle.season.proofs.stream.check_totals.Goals as goal

pub returns-then-total-most_at : goal.returns-then-total-most_at
returns-then-total-most_at c =
    let totals = c.args.totals.now in let i = c.loop-i.i in
    sym (refuse_at 16 (total_amiss totals) (λ i. OutOfRange (i + 1)) i (omega arith) c.loop-i.invariant (lt-ltb (most_at i) (get_or totals i 0) (omega (arith, c.most_at.ensures))))

pub returns : goal.returns
returns c =
    let all : Failed (total_amiss c.args.totals.now) 16 = λ h l. c.loop-i.invariant h (omega arith) in
    sym (refuse_none 16 _ (λ i. OutOfRange (i + 1)) all)
