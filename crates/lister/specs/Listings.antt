-- Which listing a file gets: that of a network file, with an E line or without; that of a sighting book, or of a spoiled one what is kept or what is dropped.
use Rattle.std.specs.Prelude.{List, ℕ}
use Rattle.listing.specs.declared.Sheet.TheVariants.{Plain, WithErrors}
use Rattle.listing.specs.File.{listing_in as net_listing}
use Rattle.book.specs.File.{listing_in as book_listing}
use Rattle.book.specs.declared.parts.Part.TheVariants.{Kept as KeptPart, Dropped as DroppedPart}
use Rattle.book.specs.Rescue.{rescue_listing_in}
use Rattle.lister.specs.declared.Files.{Files}
use Rattle.lister.specs.declared.Files.TheVariants.{Networks, NetworksWithErrors, Books, Rescued, Dropped}

abbrev pub listing_for : Files → (file : List ℕ) (room : ℕ) → List ℕ
listing_for Networks file room = net_listing Plain file room
listing_for NetworksWithErrors file room = net_listing WithErrors file room
listing_for Books file room = book_listing file room
listing_for Rescued file room = rescue_listing_in KeptPart file room
listing_for Dropped file room = rescue_listing_in DroppedPart file room
