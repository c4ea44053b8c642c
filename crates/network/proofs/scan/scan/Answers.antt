-- `network::scan::scan` meets its contract: what is left of the file from `start` on has the reply of the whole. Assumes nothing.
use mathlib.Core.Path.{sym, ◌∙◌, ap}
use native.Mathlib.Omega.{arith}
use Rattle.std.specs.Result.{result_ok}
use Rattle.network.proofs.Scanning.{scan_goes}
use Rattle.network.proofs.scan.scan.Goals as goal

pub loop-start-smaller : goal.loop-start-smaller
loop-start-smaller c =
    let said = sym c.read.ensures ∙ c.ok_or.ensures.ok_part ∙ ap result_ok c.in_ok-said.was in
    let s = scan_goes c.args.file.now (omega arith) c.loop-start.invariant said (sym c.line_reply.ensures ∙ c.in_ok-line_reply.was) c.counted-counts.ensures in
    omega (arith, s.1, s.0.within)

pub loop-start-preserved : goal.loop-start-preserved
loop-start-preserved c =
    let said = sym c.read.ensures ∙ c.ok_or.ensures.ok_part ∙ ap result_ok c.in_ok-said.was in
    (scan_goes c.args.file.now (omega arith) c.loop-start.invariant said (sym c.line_reply.ensures ∙ c.in_ok-line_reply.was) c.counted-counts.ensures).0
