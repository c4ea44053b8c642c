-- What becomes of a sighting book: the reply to it, and its listing, byte for byte.
use Rattle.std.specs.Prelude.{◌≡◌, List, ℕ, length, IsOk}
use Rattle.reply.specs.declared.Refusal.TheVariants.{Sightings}
use Rattle.reply.specs.Reply.{Reply}
use Rattle.reply.specs.Verdicts.{verdict_of}
use Rattle.page.specs.Page.{Listed, ListedBy, in_room, printed, printed_in}
use Rattle.station.specs.Pairs.{JoinedRightly}
use Rattle.book.specs.Lines.{book_of, book_reply}
use Rattle.book.specs.Listing.{station_listing}
use Rattle.reply.specs.Checks.{figure_reply}

-- the listing of an accepted book
abbrev pub book_listing : List ℕ → List ℕ
book_listing file = station_listing (book_of file)

-- a buffer of fewer than 1,136 bytes could not hold the longest listing: a length that disagrees, 21 at 0, before all else
abbrev pub means_reply : (file : List ℕ) (room : ℕ) → Reply
means_reply file room = in_room Sightings 1136 room (book_reply file)

pub record MeansOf (file before : List ℕ) (listed : Listed) (after : List ℕ) : Type 0 where
  pub lists : ListedBy (means_reply file (length before)) (book_listing file) before listed after
  -- in the rules' numbers: number and place
  pub verdict : verdict_of (figure_reply listed) ≡ verdict_of (means_reply file (length before))
  -- and of every accepted book: left and right are joined only where position and object agree
  pub joined : IsOk listed → JoinedRightly (book_of file)

-- ---- for programs: the listing of any book, an accepted one's or the line of its refusal
unfoldable pub listing_of : List ℕ → List ℕ
listing_of file = printed (book_reply file) (book_listing file)

-- what goes into a lent buffer of so many bytes: nothing, where it could not hold the longest listing
unfoldable pub listing_in : (file : List ℕ) (room : ℕ) → List ℕ
listing_in file room = printed_in 1136 room (book_reply file) (book_listing file)
