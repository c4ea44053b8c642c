-- `lines::put_vs`: the lines of the directions before i have been put.
use Rattle.std.specs.Prelude.{◌*◌}
use Rattle.text.specs.Written.{in_order, Puts}
use Rattle.listing.specs.Listing.{v_line_of}
use Rattle.listing.proofs.lines.put_vs.Given as goal

abbrev pub invariant-loop-i : goal.invariant-loop-i
invariant-loop-i l = Puts l.initial.w (in_order l.i (v_line_of l.answers.printed.now l.answers.adjusted.now)) (l.i * 68) l.w
