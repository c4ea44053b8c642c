-- The laws of what is answered and printed of a file, whatever its reply, its listing and the room for the longest listing are. Assumes nothing.
--   listed_refused, listed_accepted, relisted     what is left by a refusal, and by an accepted listing; the same by an equal rule
--   listed_reply, listed_ok, listed_given, refused_by_rule    what an answer that keeps the promise says of its rule: the reply, an acceptance,
--                                                 a length, a refusal
--   refusal_leaves                                a refusal that keeps the promise leaves the lent buffer as it was
--   one_listed                                    two answers that keep the promise are equal, and leave equal buffers
--   short, roomy, room_accepted                   the reply where the buffer is too short, and where it has room; what an acceptance says
--   line_in_room                                  the line that `refused_line` writes, in a buffer with room
--   one_refused_line, one_printed                 nothing else keeps the promise of `refused_line`, nor that of `print`
--   printed_most                                  what is printed of a file has no more bytes than the longest listing
--   nothing_printed, listed_printed               a listing for programs: with a buffer that is too short, and by an operation that lists and `print`
use mathlib.Core.Path.{◌≡◌, refl, sym, ◌∙◌, ap, subst}
use mathlib.Core.Bool.{cond}
use mathlib.Core.List.{List, []}
use Prim.Native.Nat.{ℕ, ◌≤◌, ◌<◌}
use native.Mathlib.Nat.{zero-add}
use native.Mathlib.Omega.{arith}
use borrow.Author.Tests.{lt-ltb, le-ltb}
use lib.Dec.{ltb}
use lib.ListN.{length}
use lib.Seq.{sets}
use Rattle.std.specs.Prelude.{Ok, Err, IsOk}
use Rattle.exact.proofs.Unique.{only}
use Rattle.reply.specs.declared.Refusal.{Refusal}
use Rattle.reply.specs.Reply.{Reply}
use Rattle.reply.specs.declared.Verdict.{Verdict}
use Rattle.reply.specs.Numbers.{number_of, place_of}
use Rattle.reply.specs.Checks.{refuse_if, figure_reply}
use Rattle.reply.specs.Verdicts.{refused}
use Rattle.reply.proofs.Checking.{both_accepted, figure_replied, figure_accepted, figure_given, figure_refused}
use Rattle.text.specs.Written.{Wrote}
use Rattle.text.proofs.Putting.{one_wrote}
use Rattle.page.specs.Lines.{refused_line}
use Rattle.page.specs.Page.{Listed, ListedBy, in_room, refused_line_in, printed, printed_in, Printed}
use Rattle.page.proofs.Composing.{refused_most}

-- ---- an operation that lists
pub listed_refused : {rule : Reply} {listing before : List ℕ} (why : Refusal) → rule ≡ Err why → ListedBy rule listing before (Err why) before
listed_refused why e = record { answer = rw e; buffer = rw e }

pub listed_accepted : {rule : Reply} {listing before after : List ℕ} {n : ℕ} → rule ≡ Ok tt → Wrote before 0 listing after n
    → ListedBy rule listing before (Ok n) after
listed_accepted {listing = listing} e w = record { answer = rw e (ap Ok (w.place ∙ zero-add (length listing))); buffer = rw e w.buffer }

-- by another rule, and with another listing, that are the same
pub relisted : {rule rule' : Reply} {listing listing' before after : List ℕ} {listed : Listed} → rule ≡ rule' → listing ≡ listing'
    → ListedBy rule listing before listed after → ListedBy rule' listing' before listed after
relisted {rule} {listing' = listing'} {before} {after} {listed} r l b =
    subst (λ (x : Reply). ListedBy x listing' before listed after) r (subst (λ (x : List ℕ). ListedBy rule x before listed after) l b)

-- ---- what its answer says
module _ {rule : Reply} {listing before after : List ℕ} {listed : Listed} (l : ListedBy rule listing before listed after) where
  pub listed_reply : figure_reply listed ≡ rule
  listed_reply = ap figure_reply l.answer ∙ figure_replied rule (length listing)

  pub listed_ok : IsOk listed → rule ≡ Ok tt
  listed_ok e = figure_accepted rule (length listing) (subst (λ (x : Listed). IsOk x) l.answer e)

  -- a length: the rule accepts, it is that of the listing, and the listing stands in the buffer
  pub listed_given : {n : ℕ} → listed ≡ Ok n → (rule ≡ Ok tt) × (n ≡ length listing) × (after ≡ sets before 0 listing)
  listed_given e = let g = figure_given rule (length listing) (sym l.answer ∙ e) in (g.0, g.1, rw g.0 at l.buffer)

  pub refused_by_rule : {why : Refusal} → listed ≡ Err why → rule ≡ Err why
  refused_by_rule e = figure_refused rule (length listing) (sym l.answer ∙ e)

pub refusal_leaves : {rule : Reply} {listing before after : List ℕ} {listed : Listed} (why : Refusal) → ListedBy rule listing before listed after
    → listed ≡ Err why → after ≡ before
refusal_leaves why l e = rw (refused_by_rule l e) at l.buffer

pub one_listed : {rule : Reply} {listing before after after' : List ℕ} (r r' : Listed) → ListedBy rule listing before r after
    → ListedBy rule listing before r' after' → (r ≡ r') × (after ≡ after')
one_listed r r' a b = (only a.answer b.answer, only a.buffer b.buffer)

-- ---- the room that is lent
module _ (why : Refusal) (most room : ℕ) (reply : Reply) where
  pub short : room < most → in_room why most room reply ≡ Err why
  unfolding in_room
  short l = rw (lt-ltb room most l)

  -- a buffer that has room changes nothing
  pub roomy : most ≤ room → in_room why most room reply ≡ reply
  unfolding in_room
  roomy l = rw (le-ltb room most l)

  pub room_accepted : in_room why most room reply ≡ Ok tt → reply ≡ Ok tt
  unfolding in_room
  room_accepted e = (both_accepted (refuse_if (ltb room most) why) reply e).1

-- a buffer of fewer bytes than are asked for stays as it was
none_written : (most : ℕ) (before bytes : List ℕ) → length before < most → Wrote before 0 (cond (ltb (length before) most) [] bytes) before 0
none_written most before bytes l = rw (lt-ltb (length before) most l) (record { buffer = refl; place = refl })

-- ---- `refused_line`
-- in a buffer with room
pub line_in_room : {v : Verdict} (why : Refusal) (room : ℕ) → v ≡ refused why → 52 ≤ room → refused_line_in v room ≡ refused_line (number_of why) (place_of why)
unfolding refused_line_in
line_in_room why room e l = rw (e, le-ltb room 52 l)

pub one_refused_line : (v : Verdict) (before : List ℕ) (r r' : ℕ) (after after' : List ℕ) → Wrote before 0 (refused_line_in v (length before)) after r
    → Wrote before 0 (refused_line_in v (length before)) after' r' → (r ≡ r') × (after ≡ after')
one_refused_line v before r r' after after' a b = one_wrote a b

-- ---- `print`
pub one_printed : (before : List ℕ) (listed : Listed) (r r' : ℕ) (after after' : List ℕ) → Printed before listed after r → Printed before listed after' r'
    → (r ≡ r') × (after ≡ after')
one_printed before (Ok size) r r' after after' a b = (only (a.stands size refl).1 (b.stands size refl).1, only (a.stands size refl).0 (b.stands size refl).0)
one_printed before (Err why) r r' after after' a b = one_wrote (a.line why refl) (b.line why refl)

-- ---- a listing for programs
module _ (most : ℕ) (reply : Reply) (listing : List ℕ) where
  -- a buffer that holds the longest listing holds any REFUSED line
  pub printed_most : 52 ≤ most → (reply ≡ Ok tt → length listing ≤ most) → length (printed reply listing) ≤ most
  unfolding printed
  printed_most line small = by_reply reply refl
    where
      by_reply : (x : Reply) → reply ≡ x → length (printed x listing) ≤ most
      by_reply (Ok _) e = small e
      by_reply (Err why) e = omega (arith, line, refused_most (number_of why) (place_of why))

  module _ (before : List ℕ) where
    pub nothing_printed : length before < most → Wrote before 0 (printed_in most (length before) reply listing) before 0
    unfolding printed_in
    nothing_printed l = none_written most before (printed reply listing) l

    pub listed_printed : (short-why : Refusal) {listed : Listed} {after last : List ℕ} {n : ℕ} → 52 ≤ most → (reply ≡ Ok tt → length listing ≤ most)
        → most ≤ length before
        → ListedBy (in_room short-why most (length before) reply) listing before listed after → Printed after listed last n
        → Wrote before 0 (printed_in most (length before) reply listing) last n × (n ≤ length before)
    unfolding printed_in printed refused_line_in
    listed_printed short-why {listed} {after} {last} {n} line small l a p = let w = by_answer listed refl in (w, omega (arith, w.place, within, l))
      where
        room : in_room short-why most (length before) reply ≡ reply
        room = roomy short-why most (length before) reply l

        by_answer : (x : Listed) → listed ≡ x → Wrote before 0 (printed_in most (length before) reply listing) last n
        by_answer (Ok size) e =
            let g = listed_given a e in
            rw (le-ltb (length before) most l, sym room ∙ g.0)
            (record { buffer = (p.stands size e).0 ∙ g.2; place = omega (arith, (p.stands size e).1, g.1) })
        by_answer (Err why) e =
            rw (le-ltb (length before) most l, sym room ∙ refused_by_rule a e)
            (rw (le-ltb (length before) 52 (omega (arith, line, l)))
            at (subst (λ (x : List ℕ). Wrote x 0 (refused_line_in (refused why) (length x)) last n) (refusal_leaves why a e) (p.line why e)))

        within : length (printed_in most (length before) reply listing) ≤ most
        within = rw (le-ltb (length before) most l) (printed_most line small)
