-- The report at a stream's end is the report of all the bytes that came, in whatever parts. Assumes nothing.
--   line_state, state_stop, state_after    where a stream stands in a line, and after a byte more
--   Holds, kept_holds, open_share_lem         the bytes of the open net that are held, and its share
--   unbroken_more                         a line so far has no LF
--   line_stop, line_other                 the parts from a line on, by whether it is a full stop line
--   Reading, reading_none                 the state holds the open net: its lines, and the line so far
--   Streams                               the state and the bytes to come give the report of all
--   stream_opens, stream_byte, stream_fed, stream_ends    at the start, after a byte, after many, at the end
--   stream_sound                          no state on the way is refused
--   Runs                                  the operations, by what they promise: begun, and then fed with parts of an archive, whatever they are
--   Ran, ran                              what their lists then hold
--   never_refused                         bytes are never refused
--   stream_report                         and at the end the reply and the report are those of all the bytes joined
use mathlib.Core.Path.{◌≡◌, refl, sym, ◌∙◌, ap, ap₂, subst}
use mathlib.Core.Bool.{Bool, true, false, cond, ◌&&◌}
use mathlib.Core.List.{List, [], ◌∷◌, ◌++◌, append_assoc, append-nil}
use Prim.Native.Nat.{ℕ, zero, suc, ◌+◌, ◌-◌, ◌≤◌, ◌<◌}
use native.Mathlib.Decide.{dec_le}
use native.Mathlib.Numerals.{add-one}
use native.Mathlib.Omega.{arith}
use borrow.Author.Tests.{eq-eqb, ne_eqb, lt-ltb, le-ltb, eqb-true, eqb-false}
use lib.Dec.{eqb, ltb}
use lib.ListN.{length, get_or, take, drop, length-append}
use lib.Seq.{take_at, drop_at, take-suc-set, take-take, append_snoc}
use Rattle.exact.proofs.Searching.{not_both}
use Rattle.std.proofs.lemmas.Bool.{or_right}
use Rattle.reply.specs.declared.Refusal.TheVariants.{Count, OutOfRange, Nets}
use Rattle.reply.specs.Reply.{Reply}
use Rattle.reply.specs.Checks.{leaves}
use Rattle.reply.proofs.Checking.{refuse_none, if_accepted}
use Rattle.text.specs.Lines.{LF}
use Rattle.text.specs.Parts.{bytes_before, onto}
use Rattle.text.proofs.Parting.{onto_none}
use Rattle.totals.specs.Totals.{report_of}
use Rattle.totals.specs.Promise.{most_nets}
use Rattle.season.specs.Archive.{stops, parts_of}
use Rattle.season.specs.Share.{share_of, long_share}
use Rattle.season.specs.Season.{left_shares, shares_in, shares_of, season_reply, season_report}
use Rattle.season.specs.Stream.{Stream, stream, place_at, counted_in, past_after, kept_in, kept_bytes, line_after, open_share, closes, taken, fed_byte, fed, ended_totals, ended_place, place_of, place_list, stream_of, lengths_amiss, most_at, total_amiss, line_amiss, totals_reply, place_reply, state_reply}
use Rattle.season.specs.Promise.{begin_reply, Begins, Feeds, past_reply, end_reply, Ends}
use Rattle.season.specs.declared.stream.Place.{Place}
use Rattle.season.proofs.Parting.{onto_onto, parts_left, stop_line, other_line}
use Rattle.season.proofs.Walking.{stop_byte, no_stop, stop_length}
use Rattle.season.proofs.Sharing.{share_is, left_is, long_net}
use Rattle.season.proofs.Leading.{shares_closed, shares_left, Leads, leads_none, leads_end, count_fits, count_full, turn_fits, turn_past, none_within}
use Rattle.season.proofs.Promising.{amiss, lengths_known}
use Rattle.season.specs.Inner.{Sound}
use Rattle.season.proofs.Streaming.{closes_by, taken_close, taken_kept, byte_sound, fed_sound}
use Rattle.std.specs.Prelude.{Ok, Err}

-- ---- where a stream stands in a line
unfoldable pub line_state : (line : List ℕ) → ℕ
line_state line = cond (eqb (length line) 0) 0 (cond (stops line) 1 2)

-- a full stop line, and no other, is one after which an LF closes the net
pub state_stop : (line : List ℕ) → line_state line ≡ 1 → stops line ≡ true
unfolding line_state
state_stop line e = by_length (eqb (length line) 0) (stops line) e
  where
    by_length : (a b : Bool) → ◌≡◌ {A = ℕ} (cond a 0 (cond b 1 2)) 1 → b ≡ true
    by_length true b f = absurd (omega (arith, f))
    by_length false true f = refl
    by_length false false f = absurd (omega (arith, f))

state_no_stop : (line : List ℕ) → (line_state line ≡ 1 → ⊥) → stops line ≡ false
unfolding line_state
state_no_stop line e = by_stop (stops line) refl
  where
    by_stop : (b : Bool) → stops line ≡ b → b ≡ false
    by_stop true f = absurd (e (rw (ne_eqb (length line) 0 (λ z. omega (arith, stop_length line f, z)), f)))
    by_stop false f = refl

-- a line that has begun and is no full stop
state_other : (line : List ℕ) → (length line ≡ 0 → ⊥) → stops line ≡ false → line_state line ≡ 2
unfolding line_state
state_other line e f = rw (ne_eqb (length line) 0 e, f)

state_some : (line : List ℕ) → (length line ≡ 0 → ⊥) → line_state line ≡ 0 → ⊥
unfolding line_state
state_some line e f = by_stop (stops line) (rw (ne_eqb (length line) 0 e) at f)
  where
    by_stop : (b : Bool) → ◌≡◌ {A = ℕ} (cond b 1 2) 0 → ⊥
    by_stop true g = omega (arith, g)
    by_stop false g = omega (arith, g)

after_inside : (state byte : ℕ) → (state ≡ 0 → ⊥) → (byte ≡ LF → ⊥) → line_after state byte ≡ 2
unfolding line_after
after_inside state byte e f = rw (ne_eqb byte LF f, ne_eqb state 0 e)

after_start : (byte : ℕ) → (byte ≡ LF → ⊥) → line_after 0 byte ≡ line_state (byte ∷ [])
unfolding line_after line_state
after_start byte e = rw (ne_eqb byte LF e, stop_byte (byte ∷ []) refl)

pub state_after : (line : List ℕ) (byte : ℕ) → (byte ≡ LF → ⊥) → line_state (line ++ (byte ∷ [])) ≡ line_after (line_state line) byte
unfolding line_state
state_after [] byte e = sym (after_start byte e)
state_after (x ∷ line) byte e =
    let l = length-append line (byte ∷ []) in
    state_other ((x ∷ line) ++ (byte ∷ [])) (λ f. omega (arith, f)) (no_stop ((x ∷ line) ++ (byte ∷ [])) (λ f. omega (arith, f, l)))
    ∙ sym (after_inside (line_state (x ∷ line)) byte (state_some (x ∷ line) (λ f. omega (arith, f))) e)

-- ---- the bytes of the open net
pub record Holds (held : List ℕ) (bytes : ℕ) (net : List ℕ) : Type 0 where
  pub few : length net ≤ 65536 → (bytes ≡ length net) × (take (length net) held ≡ net)
  pub many : 65536 < length net → bytes ≡ 65537

-- and one more
module _ (held net : List ℕ) (bytes byte : ℕ) (long : length held ≡ 65536) (h : Holds held bytes net) where
  abbrev more : List ℕ
  more = net ++ (byte ∷ [])

  more_long : length more ≡ length net + 1
  more_long = length-append net (byte ∷ [])

  kept_few : length more ≤ 65536 → (kept_bytes bytes ≡ length more) × (take (length more) (kept_in held bytes byte) ≡ more)
  unfolding kept_bytes kept_in
  kept_few l =
      let room : length net < 65536 = omega (arith, more_long) in let b = (h.few (omega arith)).0 in let below : bytes < 65536 = omega arith in (
        rw (lt-ltb bytes 65537 (omega arith)) (omega (arith, more_long)),
        rw (lt-ltb bytes 65536 below, b, more_long, add-one) (take-suc-set held (length net) byte (omega arith) ∙ ap (λ (x : List ℕ). x ++ (byte ∷ [])) (h.few (omega arith)).1),
      )

  kept_many : 65536 < length more → kept_bytes bytes ≡ 65537
  unfolding kept_bytes
  kept_many l = by_length (dec_le (length net) 65536)
    where
      last : length net ≤ 65536 → bytes ≡ 65536
      last f = omega (arith, (h.few f).0, more_long)

      beyond : ¬ (length net ≤ 65536) → bytes ≡ 65537
      beyond f = h.many (omega arith)

      by_length : Dec (length net ≤ 65536) → cond (ltb bytes 65537) (bytes + 1) bytes ≡ 65537
      by_length (yes f) = let e = last f in rw (lt-ltb bytes 65537 (omega arith), e)
      by_length (no f) = let e = beyond f in rw (le-ltb bytes 65537 (omega arith), e)

  pub kept_holds : Holds (kept_in held bytes byte) (kept_bytes bytes) more
  kept_holds = record { few = kept_few; many = kept_many }

-- the open net without its full stop is judged as it is, or by its length
pub open_share_lem : (held lines line : List ℕ) (bytes : ℕ) → Holds held bytes (lines ++ line) → length line ≡ 1 → open_share held bytes ≡ share_of lines
unfolding open_share
open_share_lem held lines line bytes h one = by_length (dec_le (length (lines ++ line)) 65536)
  where
    long : length (lines ++ line) ≡ length lines + 1
    long = length-append lines line ∙ ap (λ (n : ℕ). length lines + n) one

    few_share : length (lines ++ line) ≤ 65536 → cond (ltb 65536 bytes) long_share (share_of (take (bytes - 1) held)) ≡ share_of lines
    few_share l =
        let b = h.few l in let e : bytes - 1 ≡ length lines = omega (arith, b.0, long) in
        rw (le-ltb 65536 bytes (omega (arith, b.0)), e)
        (ap share_of (sym (take-take (length lines) (length (lines ++ line)) held (omega (arith, long))) ∙ ap (take (length lines)) b.1 ∙ take_at lines line (length lines) refl))

    many_share : ¬ (length (lines ++ line) ≤ 65536) → cond (ltb 65536 bytes) long_share (share_of (take (bytes - 1) held)) ≡ share_of lines
    many_share n = rw (lt-ltb 65536 bytes (omega (arith, h.many (omega arith)))) (sym (long_net lines (omega (arith, long))))

    by_length : Dec (length (lines ++ line) ≤ 65536) → cond (ltb 65536 bytes) long_share (share_of (take (bytes - 1) held)) ≡ share_of lines
    by_length (yes l) = few_share l
    by_length (no n) = many_share n

-- ---- a line so far has no LF
pub unbroken_more : (line : List ℕ) (byte : ℕ) → (byte ≡ LF → ⊥) → length line ≤ bytes_before LF line → length (line ++ (byte ∷ [])) ≤ bytes_before LF (line ++ (byte ∷ []))
unfolding bytes_before
unbroken_more [] byte e l = rw (ne_eqb byte LF e) (omega arith)
unbroken_more (x ∷ line) byte e l = by_byte (eqb x LF) l (unbroken_more line byte e)
  where
    by_byte : (b : Bool) → suc (length line) ≤ cond b 0 (suc (bytes_before LF line))
        → (length line ≤ bytes_before LF line → length (line ++ (byte ∷ [])) ≤ bytes_before LF (line ++ (byte ∷ [])))
        → suc (length (line ++ (byte ∷ []))) ≤ cond b 0 (suc (bytes_before LF (line ++ (byte ∷ []))))
    by_byte true h rec = absurd (omega arith)
    by_byte false h rec = omega (arith, rec (omega arith))

-- the first LF after it
broken_at : (line rest : List ℕ) → length line ≤ bytes_before LF line → bytes_before LF (line ++ (LF ∷ rest)) ≡ length line
unfolding bytes_before
broken_at [] rest l = refl
broken_at (x ∷ line) rest l = by_byte (eqb x LF) l (broken_at line rest)
  where
    by_byte : (b : Bool) → suc (length line) ≤ cond b 0 (suc (bytes_before LF line))
        → (length line ≤ bytes_before LF line → bytes_before LF (line ++ (LF ∷ rest)) ≡ length line)
        → cond b 0 (suc (bytes_before LF (line ++ (LF ∷ rest)))) ≡ suc (length line)
    by_byte true h rec = absurd (omega arith)
    by_byte false h rec = ap suc (rec (omega arith))

module _ (line rest : List ℕ) (l : length line ≤ bytes_before LF line) where
  abbrev text : List ℕ
  text = line ++ (LF ∷ rest)

  at_LF : bytes_before LF text ≡ length line
  at_LF = broken_at line rest l

  inside : bytes_before LF text < length text
  inside = omega (arith, at_LF, length-append line (LF ∷ rest))

  line_is : take (bytes_before LF text) text ≡ line
  line_is = rw at_LF (take_at line (LF ∷ rest) (length line) refl)

  rest_is : drop (bytes_before LF text + 1) text ≡ rest
  rest_is = rw (at_LF, add-one, ← append_snoc line LF rest) (drop_at (line ++ (LF ∷ [])) rest (suc (length line)) (length-append line (LF ∷ []) ∙ add-one (length line)))

  pub line_stop : stops line ≡ true → parts_of text ≡ [] ∷ parts_of rest
  line_stop e = stop_line text inside (ap stops line_is ∙ e) ∙ ap (λ (x : List ℕ). [] ∷ parts_of x) rest_is

  pub line_other : stops line ≡ false → parts_of text ≡ onto (line ++ (LF ∷ [])) (parts_of rest)
  line_other e = other_line text inside (ap stops line_is ∙ e) ∙ ap₂ (λ (x y : List ℕ). onto (x ++ (LF ∷ [])) (parts_of y)) line_is rest_is

-- ---- the open net: whole lines, and the line so far
pub record Reading (s : Stream) (lines line : List ℕ) : Type 0 where
  pub unbroken : length line ≤ bytes_before LF line
  pub stands : s.place.line ≡ line_state line
  pub holds : Holds s.held s.place.bytes (lines ++ line)

pub reading_none : (held totals : List ℕ) (past : ℕ) → Reading (stream held totals (place_at 0 0 past)) [] []
unfolding line_state
reading_none held totals past = record { unbroken = omega arith; stands = refl; holds = record { few = λ l. (refl, refl); many = λ l. absurd (omega arith) } }

-- ---- the state and the bytes to come give the report of all: while nets are counted, and once one is past 100,000
pub data Streams (shares : List (List ℕ)) (s : Stream) (rest : List ℕ) : Type 0 where
  going : (lines line : List ℕ) → s.place.past ≡ 0 → Reading s lines line → Leads shares s.totals (shares_in (onto lines (parts_of (line ++ rest)))) → Streams shares s rest
  gone : s.place.past ≡ 1 → s.totals ≡ season_report shares → season_reply shares ≡ Err (Nets 100001) → Streams shares s rest

pub stream_opens : (held archive : List ℕ) → Streams (shares_of archive) (stream held (report_of []) (place_at 0 0 0)) archive
unfolding shares_of
stream_opens held archive =
    going [] [] refl (reading_none held (report_of []) 0) (subst (λ (x : List (List ℕ)). Leads (shares_in (parts_of archive)) (report_of []) (shares_in x)) (sym (onto_none (parts_of archive))) (leads_none (shares_in (parts_of archive))))

module _ (shares : List (List ℕ)) (s : Stream) (byte : ℕ) (rest lines line : List ℕ) (long : length s.held ≡ 65536) (r : Reading s lines line)
    (l : Leads shares s.totals (shares_in (onto lines (parts_of (line ++ (byte ∷ rest)))))) where
  -- ---- the byte closes the open net
  module _ (e : closes byte s.place.line ≡ true) where
    is_stop : stops line ≡ true
    is_stop = state_stop line (sym r.stands ∙ (closes_by byte s.place.line e).1)

    -- the share of the net
    judged : open_share s.held s.place.bytes ≡ share_of lines
    judged = open_share_lem s.held lines line s.place.bytes r.holds (stop_length line is_stop)

    to_come : shares_in (onto lines (parts_of (line ++ (byte ∷ rest)))) ≡ share_of lines ∷ shares_in (parts_of rest)
    unfolding onto
    to_come =
        ap (λ (b : ℕ). shares_in (onto lines (parts_of (line ++ (b ∷ rest))))) (closes_by byte s.place.line e).0
        ∙ ap (λ (x : List (List ℕ)). shares_in (onto lines x)) (line_stop line rest r.unbroken is_stop)
        ∙ ap (λ (x : List ℕ). shares_in (x ∷ parts_of rest)) (append-nil lines)
        ∙ shares_closed lines rest

    here : Leads shares s.totals (share_of lines ∷ shares_in (parts_of rest))
    here = subst (λ (x : List (List ℕ)). Leads shares s.totals x) to_come l

    closed : (fits : Bool) → ltb (get_or s.totals 0 0) most_nets ≡ fits
        → Streams shares (stream s.held (counted_in (open_share s.held s.place.bytes) s.totals) (place_at 0 0 (past_after s.totals))) rest
    unfolding past_after
    closed true f =
        going [] [] (rw f) (reading_none s.held (counted_in (open_share s.held s.place.bytes) s.totals) (past_after s.totals))
        (subst (λ (x : List (List ℕ)). Leads shares (counted_in (open_share s.held s.place.bytes) s.totals) (shares_in x)) (sym (onto_none (parts_of rest)))
        (turn_fits here (ap (λ (x : List ℕ). counted_in x s.totals) judged) (share_is lines) (count_fits s.totals f)))
    closed false f =
        let p = turn_past here (ap (λ (x : List ℕ). counted_in x s.totals) judged) (count_full s.totals f) in gone (rw f) p.1 p.0

  -- ---- it belongs to the open net
  module _ (e : closes byte s.place.line ≡ false) where
    abbrev kept : Stream
    kept = stream (kept_in s.held s.place.bytes byte) s.totals (place_at (kept_bytes s.place.bytes) (line_after s.place.line byte) 0)

    held_more : Holds kept.held kept.place.bytes ((lines ++ line) ++ (byte ∷ []))
    held_more = kept_holds s.held (lines ++ line) s.place.bytes byte long r.holds

    -- the LF of another line
    no_stop_line : byte ≡ LF → stops line ≡ false
    unfolding closes
    no_stop_line f = state_no_stop line (λ g. not_both (rw (eq-eqb byte LF f, eq-eqb s.place.line 1 (r.stands ∙ g)) at e))

    ended_line : byte ≡ LF → Streams shares kept rest
    unfolding line_after line_state
    ended_line f =
        going (lines ++ (line ++ (LF ∷ []))) [] refl
        (record {
          unbroken = omega arith;
          stands = rw (eq-eqb byte LF f);
          holds = subst (Holds kept.held kept.place.bytes) (append_assoc lines line (byte ∷ []) ∙ ap (λ (b : ℕ). lines ++ (line ++ (b ∷ []))) f ∙ sym (append-nil (lines ++ (line ++ (LF ∷ []))))) held_more;
        })
        (subst (λ (x : List (List ℕ)). Leads shares s.totals (shares_in x))
        (ap (λ (b : ℕ). onto lines (parts_of (line ++ (b ∷ rest)))) f ∙ ap (onto lines) (line_other line rest r.unbroken (no_stop_line f)) ∙ onto_onto lines (line ++ (LF ∷ [])) (parts_of rest)) l)

    longer_line : (byte ≡ LF → ⊥) → Streams shares kept rest
    longer_line n =
        going lines (line ++ (byte ∷ [])) refl
        (record {
          unbroken = unbroken_more line byte n r.unbroken;
          stands = ap (λ (x : ℕ). line_after x byte) r.stands ∙ sym (state_after line byte n);
          holds = subst (Holds kept.held kept.place.bytes) (append_assoc lines line (byte ∷ [])) held_more;
        })
        (subst (λ (x : List ℕ). Leads shares s.totals (shares_in (onto lines (parts_of x)))) (sym (append_assoc line (byte ∷ []) rest)) l)

    by_byte : (b : Bool) → eqb byte LF ≡ b → Streams shares kept rest
    by_byte true f = ended_line (eqb-true byte LF f)
    by_byte false f = longer_line (eqb-false byte LF f)

  by_close : (b : Bool) → closes byte s.place.line ≡ b → Streams shares (taken byte s) rest
  by_close true e = subst (λ (x : Stream). Streams shares x rest) (sym (taken_close byte s e)) (closed e (ltb (get_or s.totals 0 0) most_nets) refl)
  by_close false e = subst (λ (x : Stream). Streams shares x rest) (sym (taken_kept byte s e)) (by_byte e (eqb byte LF) refl)

pub stream_byte : (shares : List (List ℕ)) (s : Stream) (byte : ℕ) (rest : List ℕ) → length s.held ≡ 65536 → Streams shares s (byte ∷ rest) → Streams shares (fed_byte byte s) rest
unfolding fed_byte
stream_byte shares s byte rest long (going lines line p r l) =
    rw (ne_eqb s.place.past 1 (λ e. omega (arith, p, e))) (by_close shares s byte rest lines line long r l (closes byte s.place.line) refl)
stream_byte shares s byte rest long (gone p t q) = rw (eq-eqb s.place.past 1 p) (gone p t q)

pub stream_fed : (shares : List (List ℕ)) (s : Stream) (bytes rest : List ℕ) → Sound 0 s → Streams shares s (bytes ++ rest) → Streams shares (fed bytes s) rest
unfolding fed
stream_fed shares s [] rest h t = t
stream_fed shares s (byte ∷ bytes) rest h t = stream_fed shares (fed_byte byte s) bytes rest (byte_sound 0 byte s h) (stream_byte shares s byte (bytes ++ rest) h.long t)

-- ---- the end
module _ (shares : List (List ℕ)) (s : Stream) where
  abbrev Answers : Type 0
  Answers = (ended_totals s.totals s.place ≡ season_report shares) × (past_reply (ended_place s.totals s.place) ≡ season_reply shares)

  module _ (lines line : List ℕ) (p : s.place.past ≡ 0) (r : Reading s lines line) (l : Leads shares s.totals (shares_in (onto lines (parts_of (line ++ []))))) where
    last : Leads shares s.totals (left_shares (lines ++ line))
    unfolding onto
    last =
        subst (λ (x : List (List ℕ)). Leads shares s.totals x)
        (ap (λ (x : List ℕ). shares_in (onto lines (parts_of x))) (append-nil line) ∙ ap (λ (x : List (List ℕ)). shares_in (onto lines x)) (parts_left line r.unbroken) ∙ shares_left (lines ++ line)) l

    not_past : eqb s.place.past 1 ≡ false
    not_past = ne_eqb s.place.past 1 (λ e. omega (arith, p, e))

    -- nothing is left
    none_left : length (lines ++ line) ≡ 0 → Answers
    unfolding ended_totals ended_place past_reply left_shares
    none_left e =
        let b : s.place.bytes ≡ 0 = (r.holds.few (omega arith)).0 ∙ e in
        let n = leads_end (rw (eq-eqb (length (lines ++ line)) 0 e) at last) in
        (rw (eq-eqb s.place.bytes 0 b) n.0, rw (eq-eqb s.place.bytes 0 b, not_past) (sym n.1))

    some_bytes : (length (lines ++ line) ≡ 0 → ⊥) → s.place.bytes ≡ 0 → ⊥
    some_bytes e f = by_length (dec_le (length (lines ++ line)) 65536)
      where
        by_length : Dec (length (lines ++ line) ≤ 65536) → ⊥
        by_length (yes h) = e (sym (r.holds.few h).0 ∙ f)
        by_length (no h) = omega (arith, r.holds.many (omega arith), f)

    some_left : (length (lines ++ line) ≡ 0 → ⊥) → (fits : Bool) → ltb (get_or s.totals 0 0) most_nets ≡ fits → Answers
    unfolding ended_totals ended_place past_reply left_shares past_after
    some_left e true f =
        let h = rw (ne_eqb (length (lines ++ line)) 0 e) at last in let b = ne_eqb s.place.bytes 0 (some_bytes e) in
        let n = leads_end (turn_fits h refl left_is (count_fits s.totals f)) in
        (rw (b, not_past) n.0, rw (b, not_past, f) (sym n.1))
    some_left e false f =
        let h = rw (ne_eqb (length (lines ++ line)) 0 e) at last in let b = ne_eqb s.place.bytes 0 (some_bytes e) in
        let n = turn_past h refl (count_full s.totals f) in
        (rw (b, not_past) n.1, rw (b, not_past, f) (sym n.0))

    by_left : (b : Bool) → eqb (length (lines ++ line)) 0 ≡ b → Answers
    by_left true e = none_left (eqb-true (length (lines ++ line)) 0 e)
    by_left false e = some_left (eqb-false (length (lines ++ line)) 0 e) (ltb (get_or s.totals 0 0) most_nets) refl

  past_ends : s.place.past ≡ 1 → s.totals ≡ season_report shares → season_reply shares ≡ Err (Nets 100001) → Answers
  unfolding ended_totals ended_place past_reply
  past_ends p t q = let b = or_right (eqb s.place.bytes 0) (eqb s.place.past 1) (eq-eqb s.place.past 1 p) in (rw b t, rw (b, p) (sym q))

  pub stream_ends : Streams shares s [] → Answers
  stream_ends (going lines line p r l) = by_left lines line p r l (eqb (length (lines ++ line)) 0) refl
  stream_ends (gone p t q) = past_ends p t q

-- ---- no state on the way is refused
pub stream_sound : (s : Stream) → Sound 0 s → state_reply s.held s.totals (place_list s.place) ≡ Ok tt
unfolding state_reply lengths_amiss place_reply place_list place_of line_amiss most_at
stream_sound s h =
    let p = s.place in
    rw (eq-eqb (length s.held) 65536 h.long, eq-eqb (length s.totals) 16 h.within.long, small, le-ltb 65537 p.bytes h.stands.bytes, le-ltb 2 p.line h.stands.line, no_lone (eqb p.line 1) refl, le-ltb 1 p.past h.stands.past)
  where
    within_most : (i : ℕ) → i < 16 → get_or s.totals i 0 ≤ most_at i
    within_most zero l = h.within.nets
    within_most (suc i) l = rw (ne_eqb (suc i) 0 (λ e. omega (arith, e))) (omega (arith, h.within.nets, h.within.small (suc i) l))

    small : totals_reply s.totals ≡ Ok tt
    small = refuse_none 16 (total_amiss s.totals) (λ i. OutOfRange (i + 1)) (λ i l. le-ltb (most_at i) (get_or s.totals i 0) (within_most i l))

    no_lone : (b : Bool) → eqb s.place.line 1 ≡ b → (b && eqb s.place.bytes 0) ≡ false
    no_lone true e = ne_eqb s.place.bytes 0 (λ f. omega (arith, h.stands.stop (eqb-true s.place.line 1 e), f))
    no_lone false e = refl

-- ---- the operations: begun, and then fed with the parts of an archive, whatever they are
pub data Runs : (held totals place archive : List ℕ) → Type 0 where
  opening : {held totals place totals' place' : List ℕ} → Begins held totals place (Ok tt) totals' place' → Runs held totals' place' []
  onward : {held totals place archive bytes held' totals' place' : List ℕ} {reply : Reply} → Runs held totals place archive
      → Feeds bytes held totals place reply held' totals' place' → Runs held' totals' place' (archive ++ bytes)

-- what the lists then hold
pub record Ran (held totals place archive : List ℕ) : Type 0 where
  pub place_is : place_list (place_of place) ≡ place
  pub sound : Sound 0 (stream_of held totals place)
  pub streams : (rest : List ℕ) → Streams (shares_of (archive ++ rest)) (stream_of held totals place) rest

placed : (p : Place) → place_of (place_list p) ≡ p
unfolding place_of place_list
placed p = refl

started : (held : List ℕ) → length held ≡ 65536 → Sound 0 (stream held (report_of []) (place_at 0 0 0))
started held l = record { long = l; within = none_within 0; stands = record { bytes = omega arith; line = omega arith; past = omega arith; stop = λ e. absurd (omega (arith, e)) } }

ran_begun : {held totals place totals' place' : List ℕ} → Begins held totals place (Ok tt) totals' place' → Ran held totals' place' []
unfolding begin_reply
ran_begun {held} {totals} {place} b =
    let long = (lengths_known held totals place (if_accepted (amiss held totals place) (Count 0) (sym b.answer))).0 in
    let at = ap₂ (λ (t p : List ℕ). stream held t (place_of p)) b.totals_are b.place_is ∙ ap (stream held (report_of [])) (placed (place_at 0 0 0)) in
    record {
      place_is = ap (λ (p : List ℕ). place_list (place_of p)) b.place_is ∙ ap place_list (placed (place_at 0 0 0)) ∙ sym b.place_is;
      sound = subst (Sound 0) (sym at) (started held long);
      streams = λ rest. subst (λ (s : Stream). Streams (shares_of rest) s rest) (sym at) (stream_opens held rest);
    }

-- a state that a stream has reached is never refused
ran_accepted : {held totals place archive : List ℕ} → Ran held totals place archive → state_reply held totals place ≡ Ok tt
ran_accepted {held} {totals} {place} r = ap (state_reply held totals) (sym r.place_is) ∙ stream_sound (stream_of held totals place) r.sound

ran_more : {held totals place archive bytes held' totals' place' : List ℕ} {reply : Reply} → Ran held totals place archive
    → Feeds bytes held totals place reply held' totals' place' → Ran held' totals' place' (archive ++ bytes)
ran_more {held} {totals} {place} {archive} {bytes} {held'} {totals'} {place'} {reply} r f =
    let e : reply ≡ Ok tt = f.answer ∙ ran_accepted r in
    let s = fed bytes (stream_of held totals place) in
    let h : held' ≡ s.held = f.held_is ∙ ap (λ (x : Reply). leaves x s.held held) e in
    let t : totals' ≡ s.totals = f.totals_are ∙ ap (λ (x : Reply). leaves x s.totals totals) e in
    let p : place' ≡ place_list s.place = f.place_is ∙ ap (λ (x : Reply). leaves x (place_list s.place) place) e in
    let at : stream_of held' totals' place' ≡ s = ap₂ (λ (x y : List ℕ). stream_of x y place') h t ∙ ap (λ (x : Place). stream s.held s.totals x) (ap place_of p ∙ placed s.place) in
    record {
      place_is = ap (λ (x : List ℕ). place_list (place_of x)) p ∙ ap place_list (placed s.place) ∙ sym p;
      sound = subst (Sound 0) (sym at) (fed_sound 0 bytes (stream_of held totals place) r.sound);
      streams = λ rest.
          subst (λ (x : Stream). Streams (shares_of ((archive ++ bytes) ++ rest)) x rest) (sym at)
          (subst (λ (x : List ℕ). Streams (shares_of x) s rest) (sym (append_assoc archive bytes rest))
          (stream_fed (shares_of (archive ++ (bytes ++ rest))) (stream_of held totals place) bytes rest r.sound (r.streams (bytes ++ rest))));
    }

pub ran : {held totals place archive : List ℕ} → Runs held totals place archive → Ran held totals place archive
ran (opening b) = ran_begun b
ran (onward r f) = ran_more (ran r) f

pub never_refused : {held totals place archive bytes held' totals' place' : List ℕ} {reply : Reply} → Runs held totals place archive
    → Feeds bytes held totals place reply held' totals' place' → reply ≡ Ok tt
never_refused r f = f.answer ∙ ran_accepted (ran r)

-- whatever parts the bytes come in, the report is the rule's of all of them joined
pub stream_report : {held totals place archive totals' place' : List ℕ} {reply : Reply} → Runs held totals place archive → Ends held totals place reply totals' place'
    → (reply ≡ season_reply (shares_of archive)) × (totals' ≡ season_report (shares_of archive))
unfolding end_reply
stream_report {held} {totals} {place} {archive} r f =
    let n = ran r in let a = ran_accepted n in
    let s = subst (λ (x : List ℕ). Streams (shares_of x) (stream_of held totals place) []) (append-nil archive) (n.streams []) in
    let w = stream_ends (shares_of archive) (stream_of held totals place) s in
    (f.answer ∙ rw a w.1, f.totals_are ∙ rw a w.0)
