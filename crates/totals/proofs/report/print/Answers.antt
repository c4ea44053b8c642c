-- What is printed, by the totals and the buffer.
use Rattle.std.proofs.Common.{refl, length, rules}
use Rattle.text.proofs.Putting.{rewrote, puts_then, put_whole}
use Rattle.totals.specs.Text.{report_text}
use Rattle.totals.proofs.Printing.{no_totals, no_room, reported, nothing_wrote}
use Rattle.totals.proofs.report.print.Goals as goal

pub returns-in_default-clause-text : goal.returns-in_default-clause-text
returns-in_default-clause-text c =
    let a = c.args in rewrote (no_totals (length a.out.now) a.totals.now a.past c.in_default.ensures.cases) (nothing_wrote a.out.now 0)

pub returns-then-out-lt-REPORT-clause-text : goal.returns-then-out-lt-REPORT-clause-text
returns-then-out-lt-REPORT-clause-text c =
    let a = c.args in
    rewrote (no_room (length a.out.now) a.totals.now a.past c.in-Some.ensures.cases.long c.if-out-lt-REPORT.true) (nothing_wrote a.out.now 0)

pub returns-clause-text : goal.returns-clause-text
unfolding report_text
returns-clause-text c =
    let a = c.args in
    let lines = rw c.in-Some.ensures.cases.same at c.put_lines.ensures in
    let w = rewrote (reported (length a.out.now) a.totals.now a.past c.in-Some.ensures.cases.long c.if-out-lt-REPORT.false)
    (put_whole refl (puts_then lines c.put_last.ensures)) in
    search rules
