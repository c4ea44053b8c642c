-- The inspectorate's first question. Assumes nothing.
--   joined_rightly          in an accepted list left and right are joined only where position and object agree (specs/Pairs says in words what that means)
use mathlib.Core.Path.{◌≡◌}
use Prim.Native.Nat.{ℕ}
use native.Mathlib.Omega.{arith}
use Rattle.station.specs.Sightings.{Book}
use Rattle.station.specs.Pairs.{JoinedRightly}
use Rattle.station.specs.Replies.{reply_of}
use Rattle.station.proofs.Counting.{twice_the_pairs}
use Rattle.station.proofs.Pairing.{paired, is_seen, entered, pairs_counted, one_place}
use Rattle.std.specs.Prelude.{Ok}

pub joined_rightly : (b : Book) (d p : ℕ) → reply_of b d p ≡ Ok tt → JoinedRightly b
joined_rightly b d p accepted = record {
  made = paired b d p accepted;
  is_seen = λ i j li lj q. is_seen b i j li lj 0 q.left (omega arith) q.pair.left;
  enters = entered b d p accepted;
  one_left = λ x y. (one_place b x.left y.left).1;
  one_right = λ x y. (one_place b x.right y.right).1;
  one_face = λ x y. let z = (one_place b x.left y.right).0 in omega arith;
  counted = pairs_counted b d p accepted;
  all_counted = twice_the_pairs b d p accepted;
}
