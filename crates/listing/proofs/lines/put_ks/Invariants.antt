-- `lines::put_ks`: the lines of the conditions before j have been put.
use Rattle.std.specs.Prelude.{◌*◌}
use Rattle.text.specs.Written.{in_order, Puts}
use Rattle.listing.specs.Listing.{k_line_of}
use Rattle.listing.proofs.lines.put_ks.Given as goal

abbrev pub invariant-loop-j : goal.invariant-loop-j
invariant-loop-j l = Puts l.initial.w (in_order l.j (k_line_of l.answers.correlates.now l.answers.remainders.now l.answers.misses.now)) (l.j * 90) l.w
