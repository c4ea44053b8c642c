-- The promise leaves nothing open. Assumes nothing.
--   same_answers            two replies and two pairs of lists that keep the promise of `means` on one input are equal
--   one_rescue              two answers and two sets of lists that keep the promise of `rescue` on one input are equal
--   one_judgement           the same of `judge`
use mathlib.Core.Path.{◌≡◌, ◌∙◌}
use mathlib.Core.List.{List}
use Prim.Native.Nat.{ℕ}
use lib.IntN.{ℤ}
use Rattle.exact.specs.Tabulate.{tabulate}
use Rattle.exact.proofs.Unique.{only}
use Rattle.std.specs.Prelude.{Result}
use Rattle.reply.specs.Reply.{Reply}
use Rattle.reply.specs.declared.Refusal.{Refusal}
use Rattle.reply.specs.Checks.{leaves}
use Rattle.station.specs.declared.Rescued.{Rescued}
use Rattle.station.specs.Sightings.{Book, sightings}
use Rattle.station.specs.Table.{counts, readings}
use Rattle.station.specs.Means.{directions, pair_counts}
use Rattle.station.specs.Replies.{Answers}
use Rattle.station.specs.Rescue.{reason, Lent, Rescues, Judges}

pub same_answers : (b : Book) (d p : List ℤ) (r r' : Reply) (D D' P P' : List ℤ) → Answers b d p r D P → Answers b d p r' D' P' → (r ≡ r') × ((D ≡ D') × (P ≡ P'))
same_answers b d p r r' D D' P P' a a' =
    let q : r ≡ r' = only a.replied a'.replied in
    (q, (only (a.directions_are ∙ (λ i. leaves (q i) (directions (counts b) (readings b)) d)) a'.directions_are, only (a.pairs_are ∙ (λ i. leaves (q i) (pair_counts (counts b)) p)) a'.pairs_are))

pub one_rescue : (b : Book) (before : Lent) (r r' : Result Rescued Refusal) (after after' : Lent) → Rescues b before r after → Rescues b before r' after' → (r ≡ r') × (after ≡ after')
one_rescue b before r r' after after' a a' = (only a.answer a'.answer, only a.lists_are a'.lists_are)

pub one_judgement : (b : Book) (before : List ℕ) (r r' : Reply) (after after' : List ℕ) → Judges b before r after → Judges b before r' after' → (r ≡ r') × (after ≡ after')
one_judgement b before r r' after after' a a' =
    let q : r ≡ r' = only a.replied a'.replied in
    (q, only (a.reasons_are ∙ (λ i. leaves (q i) (tabulate (sightings b) (reason b)) before)) a'.reasons_are)
