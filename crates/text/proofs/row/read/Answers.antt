-- `text::row::read` meets its contract: the numbers read so far and the row of what is left are the row. Assumes nothing.
use Rattle.std.proofs.Common.{arith, rules, ◌≡◌, ◌-◌}
use Rattle.exact.proofs.Bound.{read_at}
use Rattle.text.proofs.Rowing.{sofar_none, sofar_more, lost_field, lost_last, row_done, next_line, row_answer, no_row_answer}
use Rattle.text.proofs.row.read.Goals as goal

pub loop-i-init : goal.loop-i-init
loop-i-init c = sofar_none _ _ _ _ _ c.requires.1

pub returns-in_err-value : goal.returns-in_err-value
returns-in_err-value c =
    let r = no_row_answer _ _ _ _ (lost_field _ _ _ _ _ _ _ c.loop-i.invariant (omega arith) c.in_err-value.ensures) _ in
    rw c.from_residual.ensures (record { end = r.0; values = r.1; long = omega arith })

pub loop-i-preserved : goal.loop-i-preserved
loop-i-preserved c =
    sofar_more _ _ _ _ _ _ _ c.loop-i.invariant (omega arith) (omega arith) c.in_ok-value.ensures _ (read_at c.in_ok-value.field-0.value (search rules))

pub returns-in_err-value-2 : goal.returns-in_err-value-2
returns-in_err-value-2 c =
    let r = no_row_answer _ _ _ _ (lost_last _ _ _ _ _ _ _ c.loop-i.invariant (omega arith) c.in_err-value-2.ensures) _ in
    rw c.from_residual-in_err-value-2.ensures (record { end = r.0; values = r.1; long = omega arith })

pub returns : goal.returns
returns c =
    let i : c.args.count - 1 ≡ c.loop-i.i = omega arith in let z = c.in_ok-value-2.field-0 in let so = c.loop-i.invariant in
    let done = row_done _ _ _ _ _ _ _ so (omega arith) (omega arith) c.in_ok-value-2.ensures _ (read_at z.value (search rules)) in
    let r = row_answer _ _ _ _ done (next_line _ _ _ _ _ _ _ so (omega arith) c.in_ok-value-2.ensures) in
    rw i (record { end = r.0; values = r.1; long = search rules })
