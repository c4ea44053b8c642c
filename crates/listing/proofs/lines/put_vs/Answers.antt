-- The lines of the directions before i, and one more.
use Rattle.std.proofs.Common.{◌≡◌, ◌+◌, ap₂, to_z, of_z, w64, arith}
use Rattle.std.proofs.lemmas.Int.{to_z-of_z}
use Rattle.doolittle.specs.Table.{at}
use Rattle.text.proofs.Putting.{puts_as, puts_start, puts_line}
use Rattle.listing.specs.Listing.{v_line, v_line_of}
use Rattle.listing.proofs.lines.put_vs.Goals as goal

pub loop-i-init : goal.loop-i-init
loop-i-init c = puts_start (v_line_of c.args.answers.printed.now c.args.answers.adjusted.now)

pub loop-i-preserved : goal.loop-i-preserved
loop-i-preserved c =
    let i = c.loop-i.i in
    let u : to_z w64 (of_z w64 (at c.args.answers.printed.now i)) ≡ at c.args.answers.printed.now i = grind (arith, to_z-of_z) in
    let a : to_z w64 (of_z w64 (at c.args.answers.adjusted.now i)) ≡ at c.args.answers.adjusted.now i = grind (arith, to_z-of_z) in
    puts_line i 68 (v_line_of c.args.answers.printed.now c.args.answers.adjusted.now) c.loop-i.invariant (puts_as (ap₂ (v_line (i + 1)) u a) c.put_numbered.ensures)
