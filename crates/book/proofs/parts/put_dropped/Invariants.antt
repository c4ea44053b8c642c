-- `book::parts::put_dropped`: the lines of the sightings before h have been put.
use Rattle.std.specs.Prelude.{◌*◌}
use Rattle.text.specs.Written.{in_order, Puts}
use Rattle.book.specs.Rescue.{dropped_by}
use Rattle.book.proofs.parts.put_dropped.Given as goal

abbrev pub invariant-loop-h : goal.invariant-loop-h
invariant-loop-h l = Puts l.initial.w (in_order l.h (dropped_by l.reason)) (l.h * 8) l.w
