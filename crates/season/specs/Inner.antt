-- What inner functions hand each other: what is known of a net's share, of the totals so far, and of the next full stop line.
use Rattle.std.specs.Prelude.{◌≡◌, List, [], ◌∷◌, ℕ, suc, ◌+◌, ◌*◌, ◌-◌, ◌≤◌, ◌<◌, length, get_or, take, drop}
use Rattle.totals.specs.Promise.{most_nets, most_total}
use Rattle.season.specs.Archive.{parts_of}
use Rattle.season.specs.Share.{sum_to}
use Rattle.season.specs.Stream.{Stream}
use Rattle.season.specs.declared.stream.Place.{Place}

-- sixteen numbers: one net, under one number, and no figure above that of 24 misclosures of 1,000,000
pub record IsShare (share : List ℕ) : Type 0 where
  pub long : length share ≡ 16
  pub net : get_or share 0 0 ≡ 1
  pub once : sum_to 10 (λ k. get_or share (suc k) 0) ≡ 1
  pub small : (i : ℕ) → get_or share i 0 ≤ 24000000

-- totals of at most 100,000 nets, each no more than its nets can have put to what was there before them
pub record Within (before : ℕ) (totals : List ℕ) : Type 0 where
  pub long : length totals ≡ 16
  pub nets : get_or totals 0 0 ≤ most_nets
  pub small : (i : ℕ) → i < 16 → get_or totals i 0 ≤ before + 24000000 * get_or totals 0 0

-- totals to which another share can be added
abbrev pub Roomy : (totals : List ℕ) → Type 0
Roomy totals = Within most_total totals

-- the first full stop line at or after a start, where a line starts; the end of the archive, where there is none
pub record NextStop (archive : List ℕ) (start stop : ℕ) : Type 0 where
  pub on : start ≤ stop
  pub within : stop ≤ length archive
  pub closed : stop < length archive → (stop + 2 ≤ length archive) × (parts_of (drop start archive) ≡ take (stop - start) (drop start archive) ∷ parts_of (drop (stop + 2) archive))
  pub left : length archive ≤ stop → parts_of (drop start archive) ≡ drop start archive ∷ []

-- a place that a stream can have: the counts are within their limits, and a full stop at the start of a line is a byte of the open net
pub record Stands (p : Place) : Type 0 where
  pub bytes : p.bytes ≤ 65537
  pub line : p.line ≤ 2
  pub past : p.past ≤ 1
  pub stop : p.line ≡ 1 → 1 ≤ p.bytes

-- a state that bytes can be fed to
pub record Sound (before : ℕ) (s : Stream) : Type 0 where
  pub long : length s.held ≡ 65536
  pub within : Within before s.totals
  pub stands : Stands s.place
