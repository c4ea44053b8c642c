-- The line of each opinion.
use Rattle.std.proofs.Common.{◌≡◌, sym, ◌∙◌, ap, arith}
use Rattle.std.specs.Prelude.{Ok}
use Rattle.reply.specs.declared.Verdict.{Verdict}
use Rattle.text.proofs.Putting.{puts_as, puts_then, puts_most}
use Rattle.page.specs.Lines.{refused_line}
use Rattle.sheet.specs.declared.Opinion.TheVariants.{Yes, No}
use Rattle.sheet.specs.Answer.{answer_line}
use Rattle.sheet.proofs.put_answer.Goals as goal

pub returns-in-Ok-Yes : goal.returns-in-Ok-Yes
unfolding answer_line
returns-in-Ok-Yes c =
    let f = rw c.in-Ok-Yes.is at c.in-Ok-Yes.field-0-is in let e : c.args.opinion ≡ Ok Yes = cc in
    puts_as (ap answer_line (sym e)) (puts_most (omega arith) c.word.ensures)

pub returns-in-Ok-No : goal.returns-in-Ok-No
unfolding answer_line
returns-in-Ok-No c =
    let f = rw c.in-Ok-No.is at c.in-Ok-No.field-0-is in let e : c.args.opinion ≡ Ok (No c.in-Ok-No.line) = cc in
    puts_as (ap answer_line (sym e)) (puts_most (omega arith) (puts_then c.word-in-Ok-No.ensures (puts_then c.count.ensures c.byte.ensures)))

pub returns-in-Err : goal.returns-in-Err
unfolding answer_line
returns-in-Err c =
    puts_as (ap (λ (v : Verdict). refused_line v.number v.place) c.from.ensures ∙ ap answer_line (sym c.in-Err.is)) c.put_refused.ensures
