-- Laws of a stream's state, byte by byte. Assumes nothing.
--   open_is                            the open net's share is one net's
--   closed_is                          the open net is closed, as `close` leaves the lists
--   closes_by, taken_close, taken_kept a byte closes the open net, or belongs to it
--   closed_sound, kept_sound           a state that bytes can be fed to, and so is the next: after a net is closed, or a byte kept;
--   taken_sound, byte_sound            after any byte
--   fed_past, fed_more, fed_end        the bytes from a place on: none count any more, one more is taken, none is left
--   fed_sound, fed_joined              a state that has been fed; bytes and others after them
use mathlib.Core.Path.{◌≡◌, refl, sym, ◌∙◌, ap}
use mathlib.Core.Bool.{Bool, true, false, cond, ◌&&◌}
use mir.Val.{bool_byte}
use mathlib.Core.List.{List, [], ◌∷◌, ◌++◌}
use Prim.Native.Nat.{ℕ, suc, ◌+◌, ◌-◌, ◌≤◌, ◌<◌}
use native.Mathlib.Numerals.{add-one}
use native.Mathlib.Omega.{arith}
use borrow.Author.Tests.{eq-eqb, ne_eqb, eqb-true, ltb-true, ltb-false}
use lib.Dec.{eqb, ltb}
use lib.ListN.{length, get_or, set, take, drop, length-set, drop_of_length-le}
use lib.Seq.{drop-cons}
use Rattle.exact.proofs.Searching.{not_both}
use Rattle.text.specs.Lines.{LF}
use Rattle.totals.specs.Promise.{most_nets}
use Rattle.season.specs.Archive.{STOP}
use Rattle.season.specs.Share.{share_of, long_share}
use Rattle.season.specs.Stream.{Stream, stream, place_at, counted_in, count_reply, past_after, kept_in, kept_bytes, line_after, open_share, closes, closed, taken, fed_byte, fed}
use Rattle.season.specs.Inner.{IsShare, Sound}
use Rattle.season.proofs.Sharing.{share_is, long_is}
use Rattle.season.proofs.Leading.{past_told, counted_within}
use Rattle.reply.specs.Reply.{Reply}
use Rattle.std.specs.Result.{is_err}

pub open_is : (held : List ℕ) (bytes : ℕ) → IsShare (open_share held bytes)
unfolding open_share
open_is held bytes = by_length (ltb 65536 bytes)
  where
    by_length : (b : Bool) → IsShare (cond b long_share (share_of (take (bytes - 1) held)))
    by_length true = long_is
    by_length false = share_is (take (bytes - 1) held)

-- ---- a byte
both_true : (a b : Bool) → (a && b) ≡ true → (a ≡ true) × (b ≡ true)
both_true true b e = (refl, e)
both_true false b e = not_both (sym e)

pub closes_by : (byte line : ℕ) → closes byte line ≡ true → (byte ≡ LF) × (line ≡ 1)
unfolding closes
closes_by byte line e = let b = both_true (eqb byte LF) (eqb line 1) e in (eqb-true byte LF b.0, eqb-true line 1 b.1)

-- the open net is closed
module _ (s : Stream) {share totals : List ℕ} {reply : Reply} {past : ℕ} where
  pub closed_is : share ≡ open_share s.held s.place.bytes → reply ≡ count_reply s.totals → totals ≡ counted_in share s.totals → past ≡ bool_byte (is_err reply)
      → stream s.held totals (place_at 0 0 past) ≡ closed s
  closed_is n f t p = rw (p, f, t, n, past_told s.totals)

module _ (byte : ℕ) (s : Stream) where
  pub taken_close : closes byte s.place.line ≡ true → taken byte s ≡ closed s
  unfolding taken
  taken_close e = rw e

  pub taken_kept : closes byte s.place.line ≡ false
      → taken byte s ≡ stream (kept_in s.held s.place.bytes byte) s.totals (place_at (kept_bytes s.place.bytes) (line_after s.place.line byte) 0)
  unfolding taken
  taken_kept e = rw e

-- ---- a state that bytes can be fed to
kept_long : (held : List ℕ) (bytes byte : ℕ) → length (kept_in held bytes byte) ≡ length held
unfolding kept_in
kept_long held bytes byte = by_room (ltb bytes 65536)
  where
    by_room : (b : Bool) → length (cond b (set held bytes byte) held) ≡ length held
    by_room true = length-set held bytes byte
    by_room false = refl

kept_bytes_lem : (bytes : ℕ) → bytes ≤ 65537 → (kept_bytes bytes ≤ 65537) × (1 ≤ kept_bytes bytes)
unfolding kept_bytes
kept_bytes_lem bytes l = by_room (ltb bytes 65537) refl
  where
    by_room : (b : Bool) → ltb bytes 65537 ≡ b → (cond b (bytes + 1) bytes ≤ 65537) × (1 ≤ cond b (bytes + 1) bytes)
    by_room true e = (omega (arith, ltb-true bytes 65537 e), omega arith)
    by_room false e = (l, omega (arith, ltb-false bytes 65537 e))

line_most : (line byte : ℕ) → line_after line byte ≤ 2
unfolding line_after
line_most line byte = by_byte (eqb byte LF) (eqb line 0 && eqb byte STOP)
  where
    by_byte : (a b : Bool) → cond a 0 (cond b 1 2) ≤ 2
    by_byte true b = omega arith
    by_byte false true = omega arith
    by_byte false false = omega arith

past_most : (totals : List ℕ) → past_after totals ≤ 1
unfolding past_after
past_most totals = by_nets (ltb (get_or totals 0 0) most_nets)
  where
    by_nets : (b : Bool) → cond b 0 1 ≤ 1
    by_nets true = omega arith
    by_nets false = omega arith

module _ (before byte : ℕ) (s : Stream) (p : Sound before s) where
  pub closed_sound : Sound before (closed s)
  closed_sound = record {
    long = p.long;
    within = counted_within before (open_share s.held s.place.bytes) s.totals (open_is s.held s.place.bytes) p.within;
    stands = record { bytes = omega arith; line = omega arith; past = past_most s.totals; stop = λ e. absurd (omega (arith, e)) };
  }

  pub kept_sound : {held : List ℕ} {bytes line : ℕ} → held ≡ kept_in s.held s.place.bytes byte → bytes ≡ kept_bytes s.place.bytes → line ≡ line_after s.place.line byte
      → Sound before (stream held s.totals (place_at bytes line 0))
  kept_sound h b l = rw (h, b, l) (record {
    long = kept_long s.held s.place.bytes byte ∙ p.long;
    within = p.within;
    stands = record { bytes = (kept_bytes_lem s.place.bytes p.stands.bytes).0; line = line_most s.place.line byte; past = omega arith; stop = λ e. (kept_bytes_lem s.place.bytes p.stands.bytes).1 };
  })

  pub taken_sound : Sound before (taken byte s)
  unfolding taken
  taken_sound = by_close (closes byte s.place.line)
    where
      by_close : (b : Bool) → Sound before
          (cond b (closed s)
          (stream (kept_in s.held s.place.bytes byte) s.totals (place_at (kept_bytes s.place.bytes) (line_after s.place.line byte) 0)))
      by_close true = closed_sound
      by_close false = kept_sound refl refl refl

pub byte_sound : (before byte : ℕ) (s : Stream) → Sound before s → Sound before (fed_byte byte s)
unfolding fed_byte
byte_sound before byte s p = by_past (eqb s.place.past 1)
  where
    by_past : (b : Bool) → Sound before (cond b s (taken byte s))
    by_past true = p
    by_past false = taken_sound before byte s p

-- ---- the bytes from a place on
pub fed_past : (bytes : List ℕ) (s : Stream) → s.place.past ≡ 1 → fed bytes s ≡ s
unfolding fed fed_byte
fed_past [] s e = refl
fed_past (byte ∷ bytes) s e = rw (eq-eqb s.place.past 1 e) (fed_past bytes s e)

module _ (bytes : List ℕ) (i : ℕ) (s : Stream) where
  pub fed_more : i < length bytes → (s.place.past ≡ 1 → ⊥) → fed (drop i bytes) s ≡ fed (drop (i + 1) bytes) (taken (get_or bytes i 0) s)
  unfolding fed fed_byte
  fed_more l e =
      ap (λ (x : List ℕ). fed x s) (drop-cons bytes i 0 l)
      ∙ ap (λ (b : Bool). fed (drop (suc i) bytes) (cond b s (taken (get_or bytes i 0) s))) (ne_eqb s.place.past 1 e)
      ∙ ap (λ (n : ℕ). fed (drop n bytes) (taken (get_or bytes i 0) s)) (sym (add-one i))

  pub fed_end : length bytes ≤ i → fed (drop i bytes) s ≡ s
  unfolding fed
  fed_end l = rw (drop_of_length-le bytes l)

pub fed_sound : (before : ℕ) (bytes : List ℕ) (s : Stream) → Sound before s → Sound before (fed bytes s)
unfolding fed
fed_sound before [] s h = h
fed_sound before (byte ∷ bytes) s h = fed_sound before bytes (fed_byte byte s) (byte_sound before byte s h)

pub fed_joined : (bytes more : List ℕ) (s : Stream) → fed (bytes ++ more) s ≡ fed more (fed bytes s)
unfolding fed
fed_joined [] more s = refl
fed_joined (byte ∷ bytes) more s = fed_joined bytes more (fed_byte byte s)
