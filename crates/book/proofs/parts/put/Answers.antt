-- `book::parts::put` meets its contract. Assumes nothing.
use mathlib.Core.Path.{sym, ◌∙◌, ap}
use native.Mathlib.Omega.{arith}
use Rattle.text.proofs.Putting.{puts_as, puts_most}
use Rattle.book.specs.declared.parts.Part.{Part}
use Rattle.book.specs.Rescue.{room_for, part_of}
use Rattle.book.proofs.Accepting.{few_lines, line_short}
use Rattle.book.proofs.Parting.{many_reasons, reasons_small, kept_by_lem, dropped_by_lem}
use Rattle.book.proofs.parts.put.Goals as goal

pub put_kept-requires : goal.put_kept-requires
unfolding room_for
put_kept-requires c =
    let file = c.args.file.now in let xs = c.args.reasons.now in let many = many_reasons file xs c.requires.2 in (
      omega (arith, c.requires.0, ap room_for c.in-Kept.is),
      omega (arith, many, few_lines file c.requires.1),
      many,
      line_short file c.requires.1,
    )

pub put_dropped-requires : goal.put_dropped-requires
unfolding room_for
put_dropped-requires c =
    let file = c.args.file.now in let xs = c.args.reasons.now in (
      omega (arith, c.requires.0, ap room_for c.in-Dropped.is),
      omega (arith, many_reasons file xs c.requires.2, few_lines file c.requires.1),
      reasons_small file xs c.requires.2,
    )

pub returns-in-Kept : goal.returns-in-Kept
unfolding room_for
returns-in-Kept c =
    let file = c.args.file.now in
    puts_most (omega (arith, ap room_for c.in-Kept.is))
    (puts_as (kept_by_lem file c.args.reasons.now c.requires.2 ∙ ap (λ (part : Part). part_of part file) (sym c.in-Kept.is)) c.put_kept.ensures)

pub returns-in-Dropped : goal.returns-in-Dropped
unfolding room_for
returns-in-Dropped c =
    let file = c.args.file.now in
    puts_most (omega (arith, ap room_for c.in-Dropped.is))
    (puts_as (dropped_by_lem file c.args.reasons.now c.requires.2 ∙ ap (λ (part : Part). part_of part file) (sym c.in-Dropped.is)) c.put_dropped.ensures)
