-- The promises of the operations on an archive, from what their steps have said. Assumes nothing.
--   long_reports, short_reports           `report` keeps its promise: with sixteen totals, and with another number of them
--   amiss, amiss_any, none_amiss          whether the lengths of a state are amiss; lengths_known: what they are where not
--   by_lengths, by_checks                 the reply to a state whose lengths are amiss, and to one whose are not
--   Passed, passed_state                  a state that the checks accept: its lengths, totals with room, and a place where a stream can stand
--   refused_begins, begun                 `begin` keeps its promise, and so do `next` (refused_feeds, feeds) and `end` (refused_ends, ends)
use mathlib.Core.Path.{◌≡◌, refl, sym, ◌∙◌, ap, ap₂}
use mathlib.Core.Bool.{Bool, true, false, cond, not, ◌||◌}
use mathlib.Core.List.{List, []}
use Prim.Native.Nat.{ℕ, zero, suc, ◌+◌, ◌≤◌, ◌<◌}
use native.Mathlib.Omega.{arith}
use borrow.Author.Tests.{eq-eqb, ne_eqb, eqb-true, ltb-false, not-false}
use lib.Dec.{eqb, ltb}
use lib.ListN.{length, get_or}
use Rattle.exact.proofs.Searching.{not_both}
use Rattle.std.proofs.lemmas.Bool.{or_parts}
use Rattle.reply.specs.declared.Refusal.{Refusal}
use Rattle.reply.specs.declared.Refusal.TheVariants.{Count, OutOfRange}
use Rattle.reply.specs.Reply.{Reply}
use Rattle.reply.specs.Checks.{◌and_then◌}
use Rattle.reply.specs.Verdicts.{verdict_of}
use Rattle.reply.proofs.Checking.{both_accepted, if_accepted, none_refused}
use Rattle.totals.specs.Totals.{report_of}
use Rattle.totals.specs.Promise.{most_nets, most_total}
use Rattle.season.specs.Season.{shares_of, season_reply, season_report}
use Rattle.season.specs.Stream.{Stream, stream, place_at, place_of, place_list, stream_of, fed, ended_totals, ended_place, lengths_amiss, most_at, total_amiss, line_amiss, totals_reply, place_reply, state_reply}
use Rattle.season.specs.Inner.{Roomy, Stands}
use Rattle.season.specs.Promise.{report_reply, Reports, begin_reply, Begins, Feeds, past_reply, end_reply, Ends}
use Rattle.season.specs.declared.stream.Place.{Place}
use Rattle.std.specs.Prelude.{Ok, Err}

-- ---- `report`
module _ (archive lent : List ℕ) where
  pub short_reports : (length lent ≡ 16 → ⊥) → Reports archive lent (Err (Count 0)) lent
  unfolding report_reply
  short_reports e =
      let f = ne_eqb (length lent) 16 e in
      record { answer = rw f; verdict = rw f; totals = rw f }

  pub long_reports : length lent ≡ 16 → {reply : Reply} {left : List ℕ} → reply ≡ season_reply (shares_of archive) → left ≡ season_report (shares_of archive) → Reports archive lent reply left
  unfolding report_reply
  long_reports e {reply} {left} r t =
      let f = eq-eqb (length lent) 16 e in
      record { answer = rw f r; verdict = rw f (ap verdict_of r); totals = rw f t }

-- ---- a state that the checks accept
pub record Passed (held totals place : List ℕ) : Type 0 where
  pub held_long : length held ≡ 65536
  pub totals_long : length totals ≡ 16
  pub place_long : length place ≡ 3
  pub roomy : Roomy totals
  pub stands : Stands (place_of place)

most_le : (i : ℕ) → most_at i ≤ most_total
unfolding most_at
most_le i = by_place (eqb i 0)
  where
    by_place : (b : Bool) → cond b most_nets most_total ≤ most_total
    by_place true = omega arith
    by_place false = omega arith

roomy_totals : (totals : List ℕ) → length totals ≡ 16 → totals_reply totals ≡ Ok tt → Roomy totals
unfolding most_at
roomy_totals totals e a =
    let within : (i : ℕ) → i < 16 → get_or totals i 0 ≤ most_at i = λ i l. ltb-false (most_at i) (get_or totals i 0) (none_refused 16 (total_amiss totals) (λ i. OutOfRange (i + 1)) a i l) in
    record { long = e; nets = within 0 (omega arith); small = λ i l. omega (arith, within i l, most_le i) }

line_most : (line bytes : ℕ) → line_amiss line bytes ≡ false → line ≤ 2
unfolding line_amiss
line_most line bytes e = ltb-false 2 line (or_parts (ltb 2 line) _ e).0

-- a full stop is a byte
stop_amiss : (line bytes : ℕ) → line_amiss line bytes ≡ false → line ≡ 1 → 1 ≤ bytes
unfolding line_amiss
stop_amiss line zero e one = let t : line_amiss line zero ≡ true = rw one in not_both (sym t ∙ e)
stop_amiss line (suc bytes) e one = omega arith

-- ---- the lengths of a state
pub amiss_any : (a b c : ℕ) → (a ≡ 65536 → b ≡ 16 → c ≡ 3 → ⊥) → lengths_amiss a b c ≡ true
unfolding lengths_amiss
amiss_any a b c n = by_tests (eqb a 65536) (eqb b 16) (eqb c 3) refl refl refl
  where
    by_tests : (p q r : Bool) → eqb a 65536 ≡ p → eqb b 16 ≡ q → eqb c 3 ≡ r → (not p || (not q || not r)) ≡ true
    by_tests false q r e f g = refl
    by_tests true false r e f g = refl
    by_tests true true false e f g = refl
    by_tests true true true e f g = absurd (n (eqb-true a 65536 e) (eqb-true b 16 f) (eqb-true c 3 g))

pub none_amiss : {a b c : ℕ} → a ≡ 65536 → b ≡ 16 → c ≡ 3 → lengths_amiss a b c ≡ false
unfolding lengths_amiss
none_amiss {a} {b} {c} e f g = rw (eq-eqb a 65536 e, eq-eqb b 16 f, eq-eqb c 3 g)

module _ (held totals place : List ℕ) where
  abbrev pub amiss : Bool
  amiss = lengths_amiss (length held) (length totals) (length place)

  pub by_lengths : amiss ≡ true → state_reply held totals place ≡ Err (Count 0)
  unfolding state_reply
  by_lengths e = rw e

  module _ (e : amiss ≡ false) where
    pub lengths_known : (length held ≡ 65536) × (length totals ≡ 16) × (length place ≡ 3)
    unfolding lengths_amiss
    lengths_known =
        let a = or_parts (not (eqb (length held) 65536)) _ e in let b = or_parts (not (eqb (length totals) 16)) _ a.1 in
        (eqb-true (length held) 65536 (not-false _ a.0), eqb-true (length totals) 16 (not-false _ b.0), eqb-true (length place) 3 (not-false _ b.1))

    -- what the checks of totals and place say, of the lists as they were lent or as arrays
    pub by_checks : {reply : Reply} {totals' : List ℕ} {p : Place} → totals' ≡ totals → p ≡ place_of place
        → reply ≡ (totals_reply totals' and_then place_reply p) → reply ≡ state_reply held totals place
    unfolding state_reply
    by_checks f g r = rw e (r ∙ ap₂ (λ (xs : List ℕ) (q : Place). totals_reply xs and_then place_reply q) f g)

  pub passed_state : state_reply held totals place ≡ Ok tt → Passed held totals place
  unfolding state_reply place_reply
  passed_state e =
      let p = place_of place in
      let first = both_accepted _ (totals_reply totals and_then place_reply p) e in
      let second = both_accepted (totals_reply totals) (place_reply p) first.1 in
      let third = both_accepted _ _ second.1 in
      let fourth = both_accepted _ _ third.1 in
      let long = lengths_known (if_accepted amiss (Count 0) first.0) in
      record {
        held_long = long.0;
        totals_long = long.1;
        place_long = long.2;
        roomy = roomy_totals totals long.1 second.0;
        stands = record {
          bytes = ltb-false 65537 p.bytes (if_accepted _ (OutOfRange 17) third.0);
          line = line_most p.line p.bytes (if_accepted _ (OutOfRange 18) fourth.0);
          past = ltb-false 1 p.past (if_accepted _ (OutOfRange 19) fourth.1);
          stop = stop_amiss p.line p.bytes (if_accepted _ (OutOfRange 18) fourth.0);
        };
      }

  -- ---- `begin`
  pub refused_begins : amiss ≡ true → Begins held totals place (Err (Count 0)) totals place
  unfolding begin_reply
  refused_begins e = record { answer = rw e; verdict = rw e; totals_are = refl; place_is = refl }

  pub begun : amiss ≡ false → {totals' place' : List ℕ} → totals' ≡ report_of [] → place' ≡ place_list (place_at 0 0 0) → Begins held totals place (Ok tt) totals' place'
  unfolding begin_reply
  begun e t p = record { answer = rw e; verdict = rw e; totals_are = t; place_is = p }

  -- ---- `next`
  module _ (bytes : List ℕ) where
    pub refused_feeds : (why : Refusal) → state_reply held totals place ≡ Err why → Feeds bytes held totals place (Err why) held totals place
    refused_feeds why e = record { answer = sym e; verdict = ap verdict_of (sym e); held_is = refl; totals_are = refl; place_is = refl }

    pub feeds : state_reply held totals place ≡ Ok tt → {held' totals' place' : List ℕ} {p : Place}
        → stream held' totals' p ≡ fed bytes (stream_of held totals place) → place' ≡ place_list p → Feeds bytes held totals place (Ok tt) held' totals' place'
    feeds e {p = p} f q = record {
      answer = sym e;
      verdict = ap verdict_of (sym e);
      held_is = ap (λ (s : Stream). s.held) f;
      totals_are = ap (λ (s : Stream). s.totals) f;
      place_is = q ∙ ap (λ (s : Stream). place_list s.place) f;
    }

  -- ---- `end`
  pub refused_ends : (why : Refusal) → state_reply held totals place ≡ Err why → Ends held totals place (Err why) totals place
  unfolding end_reply
  refused_ends why e = record { answer = rw e; verdict = rw e; totals_are = rw e; place_is = rw e }

  pub ends : state_reply held totals place ≡ Ok tt → {reply : Reply} {totals' place' : List ℕ} → reply ≡ past_reply (ended_place totals (place_of place))
      → totals' ≡ ended_totals totals (place_of place) → place' ≡ place_list (ended_place totals (place_of place)) → Ends held totals place reply totals' place'
  unfolding end_reply
  ends e r t p = record { answer = rw e r; verdict = rw e (ap verdict_of r); totals_are = rw e t; place_is = rw e p }
