-- `totals::adding::next` meets its contract: the bytes that are left lead on from the state so far. Assumes nothing.
use Rattle.std.proofs.Common.{sym, ◌∙◌, arith}
use Rattle.totals.specs.Adding.{stream_of}
use Rattle.totals.proofs.Streaming.{bytes_more, bytes_done}
use Rattle.totals.proofs.adding.next.Goals as goal

pub loop-b-preserved : goal.loop-b-preserved
loop-b-preserved c =
    let l = c.loop-b in (
      omega arith,
      c.after_byte.ensures.within,
      bytes_more (stream_of l.after l.held) c.args.bytes.now l.b-index c.loop-b-test.true c.after_byte.ensures.stream ∙ l.invariant.2,
    )

pub returns-clause-stream : goal.returns-clause-stream
returns-clause-stream c =
    let l = c.loop-b in sym (bytes_done (stream_of l.after l.held) c.args.bytes.now l.b-index c.loop-b-test.false) ∙ l.invariant.2
