-- `stream::Open::feed` meets its contract: the bytes left, fed to the state as it is, give what all bytes give. Assumes nothing.
use Rattle.std.proofs.Common.{refl, sym, ◌∙◌, ap, ◌+◌, drop}
use Rattle.season.specs.Stream.{fed}
use Rattle.season.specs.Open.{state}
use Rattle.season.proofs.Streaming.{fed_past, fed_more, fed_end}
use Rattle.season.proofs.stream.Open.feed.Goals as goal

pub returns-then-self-eq1 : goal.returns-then-self-eq1
returns-then-self-eq1 c =
    let l = c.loop-byte in let i = l.invariant in
    record { goes = sym (fed_past (drop l.byte-index c.args.bytes.now) (state l.self) c.if-self-eq1.true) ∙ i.0; held = i.1.held; totals = i.1.totals }

pub loop-byte-preserved : goal.loop-byte-preserved
loop-byte-preserved c =
    let l = c.loop-byte in let i = l.invariant in let bytes = c.args.bytes.now in let took = c.take.ensures in (
      ap (fed (drop (l.byte-index + 1) bytes)) took.goes ∙ sym (fed_more bytes l.byte-index (state l.self) c.loop-byte-test.true c.if-self-eq1.false) ∙ i.0,
      record { goes = refl; held = took.held ∙ i.1.held; totals = took.totals ∙ i.1.totals },
    )

pub returns : goal.returns
returns c =
    let l = c.loop-byte in let i = l.invariant in
    record { goes = sym (fed_end c.args.bytes.now l.byte-index (state l.self) c.loop-byte-test.false) ∙ i.0; held = i.1.held; totals = i.1.totals }
