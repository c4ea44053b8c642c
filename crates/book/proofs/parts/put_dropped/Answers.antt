-- The lines of the sightings before h, and one more or none.
use Rattle.std.proofs.Common.{sym, ◌∙◌, ap, ◌+◌, arith, rules}
use Rattle.text.proofs.Putting.{puts_as, puts_none, puts_most, puts_start, puts_line}
use Rattle.book.specs.Rescue.{x_line, dropped_by}
use Rattle.book.proofs.Parting.{dropped_line_lem, dropped_none}
use Rattle.book.proofs.parts.put_dropped.Goals as goal
use Rattle.book.proofs.parts.put_dropped.Goals.{then-why-ne0, else-why-ne0}

pub loop-h-init : goal.loop-h-init
loop-h-init c = puts_start (dropped_by c.args.reason.now)

pub put_line-requires : goal.put_line-requires
put_line-requires c =
    let h = c.loop-h.h in let taken = c.loop-h-test.true in
    let i = c.loop-h.invariant in
    (omega (arith, i.few, i.room, c.requires.0, c.requires.1, taken), omega (arith, c.requires.1, taken), omega (arith, c.requires.2 h taken, c.from.ensures))

pub loop-h-preserved : goal.loop-h-preserved
loop-h-preserved c =
    let xs = c.args.reason.now in let h = c.loop-h.h in
    elim c.if-why-ne0.branch [
      | then-why-ne0 w ↦
          rw w.w-is
          (puts_line h 8 (dropped_by xs) c.loop-h.invariant
          (puts_as (ap (x_line (h + 1)) w.from.ensures ∙ sym (dropped_line_lem xs h w.if-why-ne0.true)) w.put_line.ensures))
      | else-why-ne0 w ↦
          rw w.w-is
          (puts_line h 8 (dropped_by xs) c.loop-h.invariant (puts_as (sym (dropped_none xs h w.if-why-ne0.false)) (puts_most (omega arith) puts_none)))
    ]

pub returns : goal.returns
returns c = let p = puts_most {most = 4096} (omega (arith, c.requires.1)) c.loop-h.invariant in search rules
