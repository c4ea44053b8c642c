-- W-207, the rescue of a spoiled list of sightings: four steps, each a filter of the list as the last one left it. "The rescue drops every sighting of a
-- position and object whose face is missing or doubled, then every position left without object 1, then pairs with faces over 60,000 apart, then
-- positions left without object 1 again. It returns the kept sightings in their old order, and for each dropped one its ordinal and which of these
-- reasons came first."
use Rattle.std.specs.Prelude.{◌≡◌, Bool, true, not, cond, ◌&&◌, List, ℕ, zero, suc, ◌+◌, ◌-◌, eqb, ℤ, pos, nat_abs, length, get_or, Result}
use Rattle.std.proofs.lemmas.List.Edits.{sets}
use Rattle.exact.specs.First.{first, some_below}
use Rattle.exact.specs.Gather.{gather}
use Rattle.exact.specs.Tabulate.{tabulate}
use Rattle.reply.specs.Checks.{refuse_if, ◌and_then◌, leaves, figure_reply, figure_of}
use Rattle.reply.specs.Verdicts.{verdict_of}
use Rattle.reply.specs.declared.Refusal.TheVariants.{Sightings, NothingLeft}
use Rattle.reply.specs.Reply.{Reply}
use Rattle.station.specs.declared.Rescued.{Rescued}
use Rattle.station.specs.declared.checks.Check.{Check}
use Rattle.station.specs.declared.checks.Check.TheVariants.{PairsWhole, InitialSeen, FacesClose}
use Rattle.station.specs.Sightings.{Book, book, sightings, position_at, object_at, face_at, reading_at}
use Rattle.station.specs.Table.{slot, counts, readings}
use Rattle.station.specs.Replies.{fault, lengths_reply, fields_reply}
use Rattle.reply.specs.declared.Refusal.{Refusal}

-- the sightings that a test leaves of a list, in their old order
abbrev pub left : Book → (ℕ → Bool) → Book
left b stays =
    book (gather (sightings b) stays (position_at b)) (gather (sightings b) stays (object_at b)) (gather (sightings b) stays (face_at b)) (gather (sightings b) stays (reading_at b))

-- the place of a sighting's position and object in the order of the checks, "by position then object"
abbrev pub place_in : (positions objects : List ℤ) → ℕ → ℕ
place_in positions objects h = slot 0 (nat_abs (get_or positions h (pos 0)) - 1) (nat_abs (get_or objects h (pos 0)) - 1)

abbrev pub place_of : Book → ℕ → ℕ
place_of b h = place_in b.position b.object h

-- what each step drops is what a check of the table looks for: 23 in the first, 24 in the second and the fourth, 25 in the third
unfoldable pub step_check : ℕ → Check
step_check zero = PairsWhole
step_check (suc zero) = InitialSeen
step_check (suc (suc zero)) = FacesClose
step_check (suc (suc (suc k))) = InitialSeen

-- a list is spoilt, for a check, at the position and object of this place
abbrev pub spoilt : Check → Book → ℕ → Bool
spoilt check b place = fault check (counts b) (readings b) place

-- the sighting at place h is left after the first k steps: after those before, and not spoilt in the list as they left it
unfoldable pub stays : ℕ → Book → ℕ → Bool
stays zero b h = true
stays (suc k) b h = stays k b h && not (spoilt (step_check k) (left b (stays k b)) (place_of b h))

abbrev pub is_kept : Book → ℕ → Bool
is_kept b h = stays 4 b h

abbrev pub is_dropped : Book → ℕ → Bool
is_dropped b h = not (is_kept b h)

-- "which of these reasons came first": the step, 1 to 4, that dropped the sighting; 0 where it is kept
unfoldable pub reason : Book → ℕ → ℕ
reason b h = cond (is_kept b h) 0 (first 4 (λ k. not (stays (suc k) b h)) + 1)

-- "the kept sightings in their old order"
abbrev pub kept : Book → Book
kept b = left b (is_kept b)

-- "and for each dropped one its ordinal and which of these reasons came first"
abbrev pub ordinals : Book → List ℕ
ordinals b = gather (sightings b) (is_dropped b) (λ h. h + 1)

abbrev pub reasons : Book → List ℕ
reasons b = gather (sightings b) (is_dropped b) (reason b)

-- ---- the reply: "21 and 22 as before, and 32, place 0, where nothing is left"
unfoldable pub nothing_left : Book → Bool
nothing_left b = not (some_below (sightings b) (is_kept b))

-- by the sightings, and whether the lent answer lists have the room that is due
unfoldable pub rescue_reply : Book → (room : Bool) → Reply
rescue_reply b room = lengths_reply b 16 16 and_then (refuse_if (not room) Sightings and_then (fields_reply b and_then refuse_if (nothing_left b) NothingLeft))

-- ---- into lent lists. Kept sightings and dropped ones go into the first places of lists that have a place for each sighting; the rest stays as it was
pub record Lent : Type 0 where
  pub kept : Book
  pub ordinal : List ℕ
  pub reason : List ℕ

abbrev pub lent : (position object face reading : List ℤ) (ordinal reason : List ℕ) → Lent
lent position object face reading ordinal reason = record { kept = book position object face reading; ordinal = ordinal; reason = reason }

unfoldable pub rooms_fit : (n positions objects faces readings ordinals reasons : ℕ) → Bool
rooms_fit n positions objects faces readings ordinals reasons =
    eqb positions n && (eqb objects n && (eqb faces n && (eqb readings n && (eqb ordinals n && eqb reasons n))))

abbrev pub rooms : Book → Lent → Bool
rooms b l =
    rooms_fit (sightings b) (length l.kept.position) (length l.kept.object) (length l.kept.face) (length l.kept.reading) (length l.ordinal) (length l.reason)

abbrev pub filled : Book → Lent → Lent
filled b l =
    lent (sets l.kept.position 0 (kept b).position) (sets l.kept.object 0 (kept b).object) (sets l.kept.face 0 (kept b).face) (sets l.kept.reading 0 (kept b).reading)
    (sets l.ordinal 0 (ordinals b)) (sets l.reason 0 (reasons b))

-- everything that the rescue must leave: the reply, how many are kept and dropped, and the six lent lists, which held `before`
pub record Rescues (b : Book) (before : Lent) (rescued : Result Rescued Refusal) (after : Lent) : Type 0 where
  pub answer : rescued ≡ figure_of (rescue_reply b (rooms b before)) (record { kept = sightings (kept b); dropped = length (ordinals b) })
  -- in the rules' numbers: number and place
  pub verdict : verdict_of (figure_reply rescued) ≡ verdict_of (rescue_reply b (rooms b before))
  pub lists_are : after ≡ leaves (rescue_reply b (rooms b before)) (filled b before) before

-- the same of the operation for layers above that tells of each sighting why it is dropped, into one lent list, which held `before`
pub record Judges (b : Book) (before : List ℕ) (reply : Reply) (after : List ℕ) : Type 0 where
  pub replied : reply ≡ rescue_reply b (eqb (length before) (sightings b))
  pub reasons_are : after ≡ leaves reply (tabulate (sightings b) (reason b)) before
