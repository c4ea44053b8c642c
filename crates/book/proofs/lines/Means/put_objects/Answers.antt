-- The lines of the objects before j, and one more.
use Rattle.text.proofs.Putting.{puts_start, puts_line}
use Rattle.book.specs.Listing.{object_line}
use Rattle.book.proofs.lines.Means.put_objects.Goals as goal

pub loop-j-init : goal.loop-j-init
loop-j-init c = puts_start (object_line c.args.self.now.directions c.args.self.now.pairs)

pub loop-j-preserved : goal.loop-j-preserved
loop-j-preserved c = puts_line c.loop-j.j 68 (object_line c.args.self.now.directions c.args.self.now.pairs) c.loop-j.invariant c.put_object.ensures
