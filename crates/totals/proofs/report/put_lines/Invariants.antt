-- `totals::report::put_lines`: the lines before `line` have been put.
use Rattle.std.specs.Prelude.{◌*◌}
use Rattle.text.specs.Written.{in_order, Puts}
use Rattle.totals.specs.Text.{line_of}
use Rattle.totals.proofs.report.put_lines.Given as goal

abbrev pub invariant-loop-line : goal.invariant-loop-line
invariant-loop-line l = Puts l.initial.w (in_order l.line (line_of l.totals)) (l.line * 72) l.w
