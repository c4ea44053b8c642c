-- The line's head, its number and what stands behind it.
use Rattle.std.proofs.Common.{ap, ◌++◌, ℕ, get_or, arith}
use Rattle.text.specs.Written.{count_field}
use Rattle.text.proofs.Putting.{puts_then, puts_most, puts_as}
use Rattle.totals.specs.Text.{head_of, ending_of, line_of}
use Rattle.totals.proofs.report.put_line.Goals as goal

pub returns : goal.returns
unfolding line_of
returns c =
    let totals = c.args.totals.now in
    puts_as (ap (λ (k : ℕ). head_of c.args.line ++ (count_field (get_or totals k 0) ++ ending_of totals c.args.line)) c.place_of.ensures.place)
    (puts_most (omega arith) (puts_then c.put_head.ensures (puts_then c.count.ensures c.put_ending.ensures)))
