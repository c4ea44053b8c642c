-- The promise of `means`, from what the rules say, and what it says of a refusal. Assumes nothing.
--   refusal_leaves_lists    a refusal that keeps the promise leaves both lent lists as they were
--   answers_kept            the rules' reply, with the lists that it leaves, keeps the promise
use mathlib.Core.Path.{◌≡◌, ap}
use mathlib.Core.List.{List}
use lib.IntN.{ℤ}
use lib.ListN.{length}
use Rattle.reply.specs.declared.Refusal.{Refusal}
use Rattle.reply.specs.Reply.{Reply}
use Rattle.reply.specs.Checks.{leaves}
use Rattle.reply.specs.Verdicts.{verdict_of}
use Rattle.station.specs.Sightings.{Book}
use Rattle.station.specs.Table.{counts, readings}
use Rattle.station.specs.Means.{directions, pair_counts}
use Rattle.station.specs.Replies.{reply_of, Answers}
use Rattle.std.specs.Prelude.{Err}

-- "A refusal returns number and place only; all lent lists stay as they were."
pub refusal_leaves_lists : (b : Book) (d p : List ℤ) (why : Refusal) (D P : List ℤ) → Answers b d p (Err why) D P → (D ≡ d) × (P ≡ p)
refusal_leaves_lists b d p why D P a = (a.directions_are, a.pairs_are)

pub answers_kept : {b : Book} {d p D P : List ℤ} {reply : Reply} → reply ≡ reply_of b (length d) (length p) →
    D ≡ leaves reply (directions (counts b) (readings b)) d → P ≡ leaves reply (pair_counts (counts b)) p → Answers b d p reply D P
answers_kept e f g = record { replied = e; verdict = ap verdict_of e; directions_are = f; pairs_are = g }
