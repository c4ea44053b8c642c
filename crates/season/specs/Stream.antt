-- An archive that comes in parts, in fixed memory: what the three lent lists hold, and what a byte does to them. That this gives the report of the
-- archive, whatever the parts, is a theorem (proofs/Joining.antt).
use Rattle.std.specs.Prelude.{Bool, cond, ◌||◌, ◌&&◌, not, List, [], ◌∷◌, ℕ, ◌+◌, ◌-◌, eqb, ltb, length, get_or, set, take}
use Rattle.reply.specs.declared.Refusal.TheVariants.{Count, OutOfRange, Nets}
use Rattle.reply.specs.Reply.{Reply}
use Rattle.reply.specs.Checks.{refuse_if, refuse_first, ◌and_then◌}
use Rattle.text.specs.Lines.{LF}
use Rattle.totals.specs.Totals.{sum_of}
use Rattle.totals.specs.Promise.{most_nets, most_total}
use Rattle.season.specs.Archive.{STOP}
use Rattle.season.specs.Share.{share_of, left_share, long_share}
use Rattle.season.specs.declared.stream.Place.{Place}

-- room for the longest net and the full stop that closes it, and a count that says that a net has more
abbrev pub room : ℕ
room = 65536

abbrev pub over : ℕ
over = 65537

-- the lists: the bytes of the net that is open, as far as there is room; the totals of the nets before it; and where the stream stands
pub record Stream : Type 0 where
  pub held : List ℕ
  pub totals : List ℕ
  pub place : Place

abbrev pub stream : (held totals : List ℕ) → Place → Stream
stream held totals place = record { held = held; totals = totals; place = place }

abbrev pub place_at : (bytes line past : ℕ) → Place
place_at bytes line past = record { bytes = bytes; line = line; past = past }

-- ---- a net is counted, where 100,000 have not been
unfoldable pub counted_in : (share totals : List ℕ) → List ℕ
counted_in share totals = cond (ltb (get_or totals 0 0) most_nets) (sum_of totals share) totals

-- 30, where they have been
unfoldable pub count_reply : (totals : List ℕ) → Reply
count_reply totals = refuse_if (not (ltb (get_or totals 0 0) most_nets)) (Nets (most_nets + 1))

unfoldable pub past_after : (totals : List ℕ) → ℕ
past_after totals = cond (ltb (get_or totals 0 0) most_nets) 0 1

-- ---- a byte of the open net
unfoldable pub kept_in : (held : List ℕ) (bytes byte : ℕ) → List ℕ
kept_in held bytes byte = cond (ltb bytes room) (set held bytes byte) held

unfoldable pub kept_bytes : (bytes : ℕ) → ℕ
kept_bytes bytes = cond (ltb bytes over) (bytes + 1) bytes

-- where in its line the stream then stands: 0 at the start, 1 after a full stop at the start, 2 elsewhere
unfoldable pub line_after : (line byte : ℕ) → ℕ
line_after line byte = cond (eqb byte LF) 0 (cond (eqb line 0 && eqb byte STOP) 1 2)

-- ---- the open net without its full stop
unfoldable pub open_share : (held : List ℕ) (bytes : ℕ) → List ℕ
open_share held bytes = cond (ltb room bytes) long_share (share_of (take (bytes - 1) held))

-- ---- one byte: the LF of a full stop line closes the open net, any other byte belongs to it
unfoldable pub closes : (byte line : ℕ) → Bool
closes byte line = eqb byte LF && eqb line 1

-- its share is counted, and a new net begins
abbrev pub closed : Stream → Stream
closed s = stream s.held (counted_in (open_share s.held s.place.bytes) s.totals) (place_at 0 0 (past_after s.totals))

unfoldable pub taken : (byte : ℕ) → Stream → Stream
taken byte s =
    cond (closes byte s.place.line)
    (closed s)
    (stream (kept_in s.held s.place.bytes byte) s.totals (place_at (kept_bytes s.place.bytes) (line_after s.place.line byte) 0))

-- once a net past 100,000 has come, nothing changes
unfoldable pub fed_byte : (byte : ℕ) → Stream → Stream
fed_byte byte s = cond (eqb s.place.past 1) s (taken byte s)

unfoldable pub fed : (bytes : List ℕ) → Stream → Stream
fed [] s = s
fed (byte ∷ bytes) s = fed bytes (fed_byte byte s)

-- ---- the end: bytes left are a net too
unfoldable pub ended_totals : (totals : List ℕ) → Place → List ℕ
ended_totals totals p = cond (eqb p.bytes 0 || eqb p.past 1) totals (counted_in left_share totals)

unfoldable pub ended_place : (totals : List ℕ) → Place → Place
ended_place totals p = place_at 0 0 (cond (eqb p.bytes 0 || eqb p.past 1) p.past (past_after totals))

-- ---- the lists as they are lent
unfoldable pub place_of : (place : List ℕ) → Place
place_of place = place_at (get_or place 0 0) (get_or place 1 0) (get_or place 2 0)

unfoldable pub place_list : Place → List ℕ
place_list p = p.bytes ∷ p.line ∷ p.past ∷ []

abbrev pub stream_of : (held totals place : List ℕ) → Stream
stream_of held totals place = stream held totals (place_of place)

-- ---- the checks of a lent state: lengths, then what no stream has, by the ordinal in totals and place together
unfoldable pub lengths_amiss : (held totals place : ℕ) → Bool
lengths_amiss held totals place = not (eqb held room) || (not (eqb totals 16) || not (eqb place 3))

unfoldable pub most_at : (i : ℕ) → ℕ
most_at i = cond (eqb i 0) most_nets most_total

abbrev pub total_amiss : (totals : List ℕ) (i : ℕ) → Bool
total_amiss totals i = ltb (most_at i) (get_or totals i 0)

unfoldable pub line_amiss : (line bytes : ℕ) → Bool
line_amiss line bytes = ltb 2 line || (eqb line 1 && eqb bytes 0)

unfoldable pub place_reply : Place → Reply
place_reply p =
    refuse_if (ltb over p.bytes) (OutOfRange 17)
    and_then (refuse_if (line_amiss p.line p.bytes) (OutOfRange 18)
    and_then refuse_if (ltb 1 p.past) (OutOfRange 19))

abbrev pub totals_reply : (totals : List ℕ) → Reply
totals_reply totals = refuse_first 16 (total_amiss totals) (λ i. OutOfRange (i + 1))

unfoldable pub state_reply : (held totals place : List ℕ) → Reply
state_reply held totals place =
    refuse_if (lengths_amiss (length held) (length totals) (length place)) (Count 0)
    and_then (totals_reply totals and_then place_reply (place_of place))
