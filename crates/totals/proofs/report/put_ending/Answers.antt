-- The second number of a line of two, and the line's end.
use Rattle.std.proofs.Common.{sym, ◌∙◌, ap, ◌+◌, ℕ, ◌++◌, get_or, arith}
use Rattle.text.specs.Written.{count_field, line_end}
use Rattle.text.proofs.Putting.{puts_then, puts_most, puts_as}
use Rattle.totals.proofs.Printing.{ending_pair, ending_one}
use Rattle.totals.proofs.report.put_ending.Goals as goal
use Rattle.totals.proofs.report.put_ending.Goals.{then-pair_on, else-pair_on}

pub returns : goal.returns
returns c =
    let totals = c.args.totals.now in
    elim c.if-pair_on.branch [
      | then-pair_on w ↦
          puts_as
          (ap (λ (k : ℕ). count_field (get_or totals (k + 1) 0) ++ line_end) w.place_of.ensures.place
          ∙ ending_pair c.args.line totals (sym c.pair_on.ensures ∙ w.if-pair_on.true))
          (puts_most (omega arith) (puts_then w.count.ensures (rw w.w-is at c.byte.ensures)))
      | else-pair_on w ↦
          puts_as (ending_one c.args.line totals (sym c.pair_on.ensures ∙ w.if-pair_on.false)) (puts_most (omega arith) (rw w.w-is at c.byte.ensures))
    ]
