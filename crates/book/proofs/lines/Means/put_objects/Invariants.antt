-- `book::lines::Means::put_objects`: the lines of the objects before j have been put.
use Rattle.std.specs.Prelude.{◌*◌}
use Rattle.text.specs.Written.{in_order, Puts}
use Rattle.book.specs.Listing.{object_line}
use Rattle.book.proofs.lines.Means.put_objects.Given as goal

abbrev pub invariant-loop-j : goal.invariant-loop-j
invariant-loop-j l = Puts l.initial.w (in_order l.j (object_line l.self.directions l.self.pairs)) (l.j * 68) l.w
