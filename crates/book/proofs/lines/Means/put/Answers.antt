-- The heading, and the objects' lines behind it.
use Rattle.std.proofs.Common.{refl, ap, rules}
use Rattle.text.proofs.Putting.{puts_as, puts_then, put_whole}
use Rattle.book.specs.Listing.{sta_line}
use Rattle.book.proofs.lines.Means.put.Goals as goal

pub returns : goal.returns
returns c =
    let w = put_whole refl (puts_then (puts_as (ap (sta_line c.args.sightings) c.objects_seen.ensures) c.put_heading.ensures) c.put_objects.ensures) in
    search rules
