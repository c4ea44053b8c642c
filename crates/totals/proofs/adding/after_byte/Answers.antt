-- `totals::adding::after_byte` meets its contract. Assumes nothing.
use Rattle.std.proofs.Common.{◌≡◌, rules}
use Rattle.std.specs.Prelude.{take}
use Rattle.totals.specs.Adding.{stream_of, lengthened}
use Rattle.totals.proofs.Streaming.{held_more, held_full, byte_ended, byte_held}
use Rattle.totals.proofs.adding.after_byte.Goals as goal
use Rattle.totals.proofs.adding.after_byte.Goals.{then-length-lt-HELD, else-length-lt-HELD}

pub returns-then-b-eq-LF-clause-stream : goal.returns-then-b-eq-LF-clause-stream
returns-then-b-eq-LF-clause-stream c =
    let a = c.args in let l = c.if-length-lt-HELD in
    let line : take l.length l.held ≡ lengthened (take a.a.now.length a.held.now) a.b =
    elim l.branch [
      | then-length-lt-HELD w ↦ (held_more a.a.now.length a.held.now a.b l.length l.held (search rules) w.if-length-lt-HELD.true w.length-is w.held-is).text
      | else-length-lt-HELD w ↦ (held_full a.a.now.length a.held.now a.b l.length l.held (search rules) w.if-length-lt-HELD.false c.requires w.length-is w.held-is).text
    ] in
    byte_ended (stream_of a.a.now a.held.now) a.b line c.if-b-eq-LF.true c.after_line.ensures

pub returns-else-b-eq-LF-clause-stream : goal.returns-else-b-eq-LF-clause-stream
returns-else-b-eq-LF-clause-stream c =
    let a = c.args in let l = c.if-length-lt-HELD in
    let line : take l.length l.held ≡ lengthened (take a.a.now.length a.held.now) a.b =
    elim l.branch [
      | then-length-lt-HELD w ↦ (held_more a.a.now.length a.held.now a.b l.length l.held (search rules) w.if-length-lt-HELD.true w.length-is w.held-is).text
      | else-length-lt-HELD w ↦ (held_full a.a.now.length a.held.now a.b l.length l.held (search rules) w.if-length-lt-HELD.false c.requires w.length-is w.held-is).text
    ] in
    byte_held (stream_of a.a.now a.held.now) a.b line c.if-b-eq-LF.false
