-- Two small rescues, out of the rule by computation. Assumes nothing.
--   doubled                 a second left sighting of object 2 takes all three of it; object 1's pair is kept
--   apart                   object 1's faces are 60,001 apart: the pair goes in the third step, and object 2, left without it, in the fourth
use mathlib.Core.Path.{◌≡◌, refl, sym, ◌∙◌, ap}
use mathlib.Core.Bool.{Bool, true, false, not, cond, ◌&&◌}
use mathlib.Core.List.{List, [], ◌∷◌}
use Prim.Native.Nat.{ℕ, zero, suc, ◌+◌, ◌/◌, ◌%◌, ◌<◌, ◌≤◌}
use native.Mathlib.Omega.{arith}
use borrow.Author.Tests.{ltb-true}
use lib.Dec.{ltb}
use lib.IntN.{ℤ, pos, nat_abs, ◌+ℤ◌, ◌-ℤ◌}
use lib.ListN.{get_or, drop}
use lib.Seq.{get_or-drop}
use lib.Signed.{lt_z}
use Rattle.exact.specs.Sum.{sum}
use Rattle.exact.specs.Circle.{floor, modulo}
use Rattle.exact.specs.First.{first, some_below}
use Rattle.exact.specs.Gather.{gather}
use Rattle.exact.specs.Tabulate.{tabulate}
use Rattle.exact.specs.Same.{same}
use Rattle.exact.proofs.Filling.{tabulate_at}
use Rattle.exact.proofs.Gathering.{gather_ext}
use Rattle.exact.proofs.Searching.{first_ext}
use Rattle.reply.specs.Checks.{refuse_if, ◌and_then◌}
use Rattle.reply.specs.declared.Refusal.TheVariants.{NothingLeft}
use Rattle.station.specs.Sightings.{Book, book, sightings, position_at, object_at, face_at, reading_at, lengths_fit, out_of_range, is_of}
use Rattle.station.specs.Table.{total, one, entry, counts, readings}
use Rattle.station.specs.Means.{half_c, centred, seen, faces_fault, initial_fault, s, apart_fault}
use Rattle.station.specs.Replies.{fault, lengths_reply, fields_reply}
use Rattle.station.specs.Rescue.{left, place_of, step_check, spoilt, stays, is_kept, is_dropped, reason, kept, ordinals, reasons, nothing_left, rescue_reply}
use Rattle.station.proofs.Tallying.{table_at}
use Rattle.std.specs.Prelude.{Ok, Err}

-- tests that agree leave the same
left_same : (b : Book) (test test' : ℕ → Bool) → ((h : ℕ) → h < sightings b → test h ≡ test' h) → left b test ≡ left b test'
left_same b test test' e = λ t. book (field (position_at b) t) (field (object_at b) t) (field (face_at b) t) (field (reading_at b) t)
  where
    field : (v : ℕ → ℤ) → gather (sightings b) test v ≡ gather (sightings b) test' v
    field v = gather_ext (sightings b) test test' v v e (λ h l. refl)

-- ---- a step by the totals alone: a table of 512 places would be computed anew for each number that is looked up in it
module _ (b : Book) (i j : ℕ) where
  abbrev counted : ℕ → ℕ → ℤ
  counted f o = total b one f i o

  abbrev read : ℕ → ℤ
  read f = total b (reading_at b) f i j

  abbrev sighted_by : ℕ → Bool
  sighted_by o = lt_z (pos 0) (counted 0 o +ℤ counted 1 o)

  abbrev fault_by : ℕ → Bool
  fault_by zero = sighted_by j && not (same (counted 0 j) (pos 1) && same (counted 1 j) (pos 1))
  fault_by (suc zero) = sighted_by j && not (sighted_by 0)
  fault_by (suc (suc zero)) = sighted_by j && ltb 60000 (nat_abs (centred (read 1 -ℤ read 0 -ℤ half_c) half_c))
  fault_by (suc (suc (suc k))) = sighted_by j && not (sighted_by 0)

  module _ (li : i < 16) (lj : j < 16) where
    counts_at : (f o : ℕ) → f < 2 → o < 16 → entry (counts b) f i o ≡ counted f o
    counts_at f o lf lo = table_at b one f i o lf li lo

    readings_at : (f : ℕ) → f < 2 → entry (readings b) f i j ≡ read f
    readings_at f lf = table_at b (reading_at b) f i j lf li lj

    sighted_at : (o : ℕ) → o < 16 → seen (counts b) i o ≡ sighted_by o
    unfolding seen
    sighted_at o lo = λ t. lt_z (pos 0) (counts_at 0 o (omega arith) lo t +ℤ counts_at 1 o (omega arith) lo t)

    initial_by : initial_fault (counts b) i j ≡ sighted_by j && not (sighted_by 0)
    unfolding initial_fault
    initial_by = λ t. sighted_at j lj t && not (sighted_at 0 (omega arith) t)

    faces_by : faces_fault (counts b) i j ≡ sighted_by j && not (same (counted 0 j) (pos 1) && same (counted 1 j) (pos 1))
    unfolding faces_fault
    faces_by = λ t. sighted_at j lj t && not (same (counts_at 0 j (omega arith) lj t) (pos 1) && same (counts_at 1 j (omega arith) lj t) (pos 1))

    apart_by : apart_fault (counts b) (readings b) i j ≡ sighted_by j && ltb 60000 (nat_abs (centred (read 1 -ℤ read 0 -ℤ half_c) half_c))
    unfolding apart_fault s
    apart_by = λ t. sighted_at j lj t && ltb 60000 (nat_abs (centred (readings_at 1 (omega arith) t -ℤ readings_at 0 (omega arith) t -ℤ half_c) half_c))

spoilt_by : (b : Book) (k p : ℕ) → p < 256 → spoilt (step_check k) b p ≡ fault_by b (p / 16) (p % 16) k
unfolding step_check fault
spoilt_by b zero p l = faces_by b (p / 16) (p % 16) (omega arith) (omega arith)
spoilt_by b (suc zero) p l = initial_by b (p / 16) (p % 16) (omega arith) (omega arith)
spoilt_by b (suc (suc zero)) p l = apart_by b (p / 16) (p % 16) (omega arith) (omega arith)
spoilt_by b (suc (suc (suc k))) p l = initial_by b (p / 16) (p % 16) (omega arith) (omega arith)

-- ---- who is left after each step, in a list for each, so that no step is computed twice
module _ (b : Book) (courses : List (List Bool)) where
  abbrev who : ℕ → ℕ → Bool
  who k h = get_or (get_or courses k []) h false

  abbrev goes : ℕ → ℕ → Bool
  goes k h = who k h && not (fault_by (left b (who k)) (place_of b h / 16) (place_of b h % 16) k)

  abbrev who_next : ℕ → List Bool
  who_next k = tabulate (sightings b) (goes k)

  module _ (places : tabulate (sightings b) (λ h. ltb (place_of b h) 256) ≡ tabulate (sightings b) (λ h. true)) (start : tabulate (sightings b) (λ h. true) ≡ get_or courses 0 []) (on : tabulate 4 who_next ≡ drop 1 courses) where
    place_at : (h : ℕ) → h < sightings b → place_of b h < 256
    place_at h l =
        ltb-true (place_of b h) 256
        (sym (tabulate_at (sightings b) (λ h. ltb (place_of b h) 256) h true l) ∙ ap (λ (l : List Bool). get_or l h true) places ∙ tabulate_at (sightings b) (λ h. true) h true l)

    next : (k : ℕ) → k < 4 → ((h : ℕ) → h < sightings b → stays k b h ≡ who k h) → (h : ℕ) → h < sightings b → stays (suc k) b h ≡ who (suc k) h
    unfolding stays
    next k lk e h l =
        (λ t. e h l t && not (spoilt (step_check k) (left_same b (stays k b) (who k) e t) (place_of b h)))
        ∙ ap (λ (x : Bool). who k h && not x) (spoilt_by (left b (who k)) k (place_of b h) (place_at h l))
        ∙ sym (tabulate_at (sightings b) (goes k) h false l)
        ∙ ap (λ (l : List Bool). get_or l h false) (sym (tabulate_at 4 who_next k [] lk) ∙ ap (λ (l : List (List Bool)). get_or l k []) on ∙ get_or-drop 1 courses k [] ∙ ap (λ (i : ℕ). get_or courses i []) (omega arith))

    follows : (k : ℕ) → k ≤ 4 → (h : ℕ) → h < sightings b → stays k b h ≡ who k h
    unfolding stays
    follows zero lk h l = sym (tabulate_at (sightings b) (λ h. true) h false l) ∙ ap (λ (l : List Bool). get_or l h false) start
    follows (suc k) lk h l = next k (omega arith) (follows k (omega arith)) h l

    reason_by : (h : ℕ) → h < sightings b → reason b h ≡ cond (who 4 h) 0 (first 4 (λ k. not (who (suc k) h)) + 1)
    unfolding reason
    reason_by h l =
        λ t. cond (follows 4 (omega arith) h l t) 0 (first_ext 4 (λ k. not (stays (suc k) b h)) (λ k. not (who (suc k) h)) (λ k lk. ap not (follows (suc k) (omega arith) h l)) t + 1)

    by_course : (rescue_reply b true ≡ (lengths_reply b 16 16 and_then (fields_reply b and_then refuse_if (not (some_below (sightings b) (who 4))) NothingLeft))) × (kept b ≡ left b (who 4))
        × (ordinals b ≡ gather (sightings b) (λ h. not (who 4 h)) (λ h. h + 1)) × (reasons b ≡ gather (sightings b) (λ h. not (who 4 h)) (λ h. cond (who 4 h) 0 (first 4 (λ k. not (who (suc k) h)) + 1)))
    unfolding rescue_reply nothing_left
    by_course =
        let f = follows 4 (omega arith) in (
          (λ t. lengths_reply b 16 16 and_then (fields_reply b and_then refuse_if (not (ltb (first_ext (sightings b) (is_kept b) (who 4) f t) (sightings b))) NothingLeft)),
          left_same b (is_kept b) (who 4) f,
          gather_ext (sightings b) (is_dropped b) (λ h. not (who 4 h)) (λ h. h + 1) (λ h. h + 1) (λ h l. ap not (f h l)) (λ h l. refl),
          gather_ext (sightings b) (is_dropped b) (λ h. not (who 4 h)) (reason b) (λ h. cond (who 4 h) 0 (first 4 (λ k. not (who (suc k) h)) + 1)) (λ h l. ap not (f h l)) reason_by,
        )

-- ---- one position: object 1 left and right, object 2 left twice and right
abbrev pub doubled_left : Book
doubled_left =
    book (pos 1 ∷ pos 1 ∷ pos 1 ∷ pos 1 ∷ pos 1 ∷ []) (pos 1 ∷ pos 2 ∷ pos 1 ∷ pos 2 ∷ pos 2 ∷ []) (pos 0 ∷ pos 0 ∷ pos 1 ∷ pos 0 ∷ pos 1 ∷ [])
    (pos 0 ∷ pos 144010000 ∷ pos 648004000 ∷ pos 144010000 ∷ pos 792016000 ∷ [])

abbrev first_object : List Bool
first_object = true ∷ false ∷ true ∷ false ∷ false ∷ []

pub doubled : (rescue_reply doubled_left true ≡ Ok tt) × (kept doubled_left ≡ book (pos 1 ∷ pos 1 ∷ []) (pos 1 ∷ pos 1 ∷ []) (pos 0 ∷ pos 1 ∷ []) (pos 0 ∷ pos 648004000 ∷ []))
    × (ordinals doubled_left ≡ 2 ∷ 4 ∷ 5 ∷ []) × (reasons doubled_left ≡ 1 ∷ 1 ∷ 1 ∷ [])
unfolding sum first gather tabulate floor modulo lengths_fit out_of_range same is_of total centred
doubled = by_course doubled_left ((true ∷ true ∷ true ∷ true ∷ true ∷ []) ∷ first_object ∷ first_object ∷ first_object ∷ first_object ∷ []) refl refl refl

-- ---- one position: object 1 with its faces 60,001 apart, object 2 with none off
abbrev pub far_apart : Book
far_apart =
    book (pos 1 ∷ pos 1 ∷ pos 1 ∷ pos 1 ∷ []) (pos 1 ∷ pos 1 ∷ pos 2 ∷ pos 2 ∷ []) (pos 0 ∷ pos 1 ∷ pos 0 ∷ pos 1 ∷ []) (pos 0 ∷ pos 648060001 ∷ pos 144010000 ∷ pos 792010000 ∷ [])

abbrev everyone : List Bool
everyone = true ∷ true ∷ true ∷ true ∷ []

pub apart : (rescue_reply far_apart true ≡ Err NothingLeft) × (kept far_apart ≡ book [] [] [] []) × (ordinals far_apart ≡ 1 ∷ 2 ∷ 3 ∷ 4 ∷ []) × (reasons far_apart ≡ 3 ∷ 3 ∷ 4 ∷ 4 ∷ [])
unfolding sum first gather tabulate floor modulo lengths_fit out_of_range same is_of total centred
apart = by_course far_apart (everyone ∷ everyone ∷ everyone ∷ (false ∷ false ∷ true ∷ true ∷ []) ∷ (false ∷ false ∷ false ∷ false ∷ []) ∷ []) refl refl refl
