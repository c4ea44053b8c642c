-- The lines before `line`, and one more.
use Rattle.text.proofs.Putting.{puts_start, puts_line}
use Rattle.totals.specs.Text.{line_of}
use Rattle.totals.proofs.report.put_lines.Goals as goal

pub loop-line-init : goal.loop-line-init
loop-line-init c = puts_start (line_of c.args.totals.now)

pub loop-line-preserved : goal.loop-line-preserved
loop-line-preserved c = puts_line c.loop-line.line 72 (line_of c.args.totals.now) c.loop-line.invariant c.put_line.ensures
