-- `totals::adding::end` meets its contract, by what is known. Assumes nothing.
use Rattle.std.proofs.Common.{◌≡◌, sym, ◌∙◌, ap, length, false, arith, rules}
use Rattle.text.proofs.Putting.{rewrote}
use Rattle.page.specs.Lines.{refused_line}
use Rattle.page.proofs.Printing.{line_in_room}
use Rattle.reply.specs.declared.Refusal.TheVariants.{Malformed, Nets}
use Rattle.totals.proofs.Printing.{reported, nothing_wrote}
use Rattle.totals.proofs.Streaming.{no_room, at_fault, ends_early, too_many, summed}
use Rattle.totals.proofs.adding.end.Goals as goal

pub returns-then-out-lt-REPORT-clause-text : goal.returns-then-out-lt-REPORT-clause-text
returns-then-out-lt-REPORT-clause-text c =
    let a = c.args in rewrote (no_room (length a.out.now) a.a.tally a.a.length c.if-out-lt-REPORT.true) (nothing_wrote a.out.now 0)

pub returns-in-Some-clause-text : goal.returns-in-Some-clause-text
returns-in-Some-clause-text c =
    let a = c.args in let room = length a.out.now in
    rewrote
    (line_in_room (Malformed c.in-Some.line) room c.from.ensures (omega arith)
    ∙ at_fault room a.a.tally a.a.length c.if-out-lt-REPORT.false c.in-Some.line c.in-Some.is) c.refused_line.ensures.line

pub returns-then-unfinished-clause-text : goal.returns-then-unfinished-clause-text
returns-then-unfinished-clause-text c =
    let a = c.args in let room = length a.out.now in
    rewrote
    (line_in_room (Malformed c.line_after.result) room c.from-then-unfinished.ensures (omega arith)
    ∙ ap (refused_line 1) c.line_after.ensures
    ∙ ends_early room a.a.tally a.a.length c.if-out-lt-REPORT.false c.in_default.is (sym c.unfinished.ensures ∙ c.if-unfinished.true))
    c.refused_line-then-unfinished.ensures.line

pub returns-then-t-clause-text : goal.returns-then-t-clause-text
returns-then-t-clause-text c =
    let a = c.args in let room = length a.out.now in
    rewrote
    (line_in_room (Nets 100001) room c.from-then-t.ensures (omega arith)
    ∙ too_many room a.a.tally a.a.length c.if-out-lt-REPORT.false c.in_default.is (sym c.unfinished.ensures ∙ c.if-unfinished.false) c.if-t.true)
    c.refused_line-then-t.ensures.line

pub returns-else-t : goal.returns-else-t
returns-else-t c =
    let a = c.args in let room = length a.out.now in let long : length a.a.tally.sum ≡ 16 = search rules in
    record {
      text = rewrote (sym (reported room a.a.tally.sum false long c.if-out-lt-REPORT.false)
          ∙ summed room a.a.tally a.a.length c.if-out-lt-REPORT.false c.in_default.is (sym c.unfinished.ensures ∙ c.if-unfinished.false) c.if-t.false)
          c.print.ensures.text;
      within = c.print.ensures.within;
    }
