-- The lines of the conditions before j, and one more.
use Rattle.std.proofs.Common.{◌≡◌, ◌+◌, ◌∙◌, ℤ, ap, ap₂, to_z, of_z, w64, arith}
use Rattle.std.proofs.lemmas.Int.{to_z-of_z}
use Rattle.doolittle.specs.Table.{at}
use Rattle.text.proofs.Putting.{puts_as, puts_start, puts_line}
use Rattle.listing.specs.Listing.{k_line, k_line_of}
use Rattle.listing.proofs.lines.put_ks.Goals as goal

pub loop-j-init : goal.loop-j-init
loop-j-init c = puts_start (k_line_of c.args.answers.correlates.now c.args.answers.remainders.now c.args.answers.misses.now)

pub loop-j-preserved : goal.loop-j-preserved
loop-j-preserved c =
    let j = c.loop-j.j in let a = c.args.answers in
    let k : to_z w64 (of_z w64 (at a.correlates.now j)) ≡ at a.correlates.now j = grind (arith, to_z-of_z) in
    let r : to_z w64 (of_z w64 (at a.remainders.now j)) ≡ at a.remainders.now j = grind (arith, to_z-of_z) in
    let q : to_z w64 (of_z w64 (at a.misses.now j)) ≡ at a.misses.now j = grind (arith, to_z-of_z) in
    puts_line j 90 (k_line_of a.correlates.now a.remainders.now a.misses.now) c.loop-j.invariant
    (puts_as (ap₂ (λ (x y : ℤ). k_line (j + 1) x y (to_z w64 (of_z w64 (at a.misses.now j)))) k r
    ∙ ap (k_line (j + 1) (at a.correlates.now j) (at a.remainders.now j)) q) c.put_k.ensures)
