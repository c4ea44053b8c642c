-- What a sighting book is refused for before its sightings are looked at: in its means and in its rescue alike. Assumes nothing.
--   too_long, broken, too_many      a book that is too long, has a malformed line or too many lines
use mathlib.Core.Path.{◌≡◌, ◌∙◌}
use mathlib.Core.List.{List}
use Prim.Native.Nat.{ℕ, ◌<◌, ◌≤◌}
use borrow.Author.Tests.{lt-ltb, le-ltb}
use lib.ListN.{length}
use Rattle.std.specs.Prelude.{Ok, Err}
use Rattle.reply.specs.declared.Refusal.{Refusal}
use Rattle.reply.specs.declared.Refusal.TheVariants.{Count, Sightings}
use Rattle.text.specs.Lines.{lines_in}
use Rattle.station.specs.Rescue.{rescue_reply}
use Rattle.book.specs.Lines.{lines_reply, book_reply}
use Rattle.book.specs.Rescue.{spoiled_reply}
use Rattle.book.proofs.Accepting.{by_rescue}
use Rattle.book.proofs.Filing.{by_station, misfit, over}

module _ (file : List ℕ) where
  abbrev Refused : Refusal → Type 0
  Refused why = (book_reply file ≡ Err why) × (spoiled_reply file ≡ Err why)

  pub too_long : 65535 < length file → Refused (Count 0)
  unfolding book_reply spoiled_reply
  too_long l = (rw (lt-ltb 65535 (length file) l), rw (lt-ltb 65535 (length file) l))

  module _ (l : length file ≤ 65535) where
    pub broken : (why : Refusal) → lines_reply file ≡ Err why → Refused why
    unfolding book_reply spoiled_reply
    broken why e = (rw (le-ltb 65535 (length file) l, e), rw (le-ltb 65535 (length file) l, e))

    pub too_many : lines_reply file ≡ Ok tt → 512 < lines_in file → Refused Sightings
    unfolding rescue_reply
    too_many e m = (by_station file l e ∙ over file m, by_rescue file l e ∙ rw (misfit file m))
