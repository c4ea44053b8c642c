-- What the rescue of a list of sightings keeps and drops. Assumes nothing.
--   parted                  kept and dropped together are the list given, each once
--   dropped_long, in_dropped        how many are dropped
--   sound_whole             a list already sound under 23 to 25 is kept whole
--   kept_sound              what is kept is sound: never refused with 22 to 25
--   again                   a rescue of what is kept drops nothing
--   something_left          where the reply is no refusal, something is kept
--   nothing_kept, something_kept    the rule's test of that, by the number of sightings kept
use mathlib.Core.Path.{◌≡◌, refl, sym, ◌∙◌, ap}
use mathlib.Core.Bool.{Bool, true, false, not, ◌&&◌}
use mathlib.Core.List.{List, []}
use mathlib.Core.Logic.{◌⊎◌, inl, inr}
use Prim.Native.Nat.{ℕ, zero, suc, ◌+◌, ◌<◌, ◌≤◌}
use native.Mathlib.Decide.{dec_lt}
use native.Mathlib.Omega.{arith}
use borrow.Author.Tests.{not-true}
use lib.IntN.{ℤ, pos}
use lib.ListN.{length, get_or}
use Rattle.exact.specs.Gather.{gather}
use Rattle.exact.proofs.Filling.{tabulate_is}
use Rattle.exact.proofs.Gathering.{rank, nth, gather_rank, gather_parts, gather_most, gather_all, gather_none, gather_at, nth_in, nth_test, nth_rise, rank_in, nth_rank}
use Rattle.exact.proofs.Searching.{Failed, failed_none, not_both, some_at, some_none, all_failed}
use Rattle.station.specs.Bounds.{InRange}
use Rattle.station.specs.Sightings.{Book, book, sightings, position_at, out_of_range}
use Rattle.station.specs.Table.{counts, readings}
use Rattle.station.specs.Replies.{fault}
use Rattle.station.specs.Rescue.{left, place_of, step_check, spoilt, stays, is_kept, is_dropped, reason, kept, ordinals, reasons, nothing_left, rescue_reply}
use Rattle.station.specs.Parted.{Parted, Sound}
use Rattle.station.proofs.Clearing.{settled}
use Rattle.station.proofs.Sifting.{left_long, left_objects, left_faces, left_readings, left_position, left_object, left_face, left_reading, place_in, tables_after, reason_in}
use Rattle.station.proofs.Sounding.{Clear, sound_clear, clear_sound, clear_fits, rescue_in}
use Rattle.std.specs.Prelude.{Ok}

-- ---- each once
module _ (b : Book) where
  pub dropped_long : length (ordinals b) ≡ rank (is_dropped b) (sightings b)
  dropped_long = gather_rank (is_dropped b) (sightings b) (λ h. h + 1)

  in_kept : (m : ℕ) → m < sightings (kept b) → m < rank (is_kept b) (sightings b)
  in_kept m l = omega (arith, left_long b (is_kept b))

  pub in_dropped : (m : ℕ) → m < length (ordinals b) → m < rank (is_dropped b) (sightings b)
  in_dropped m l = omega (arith, dropped_long)

  reason_at : (m : ℕ) → m < length (ordinals b) → get_or (reasons b) m 0 ≡ reason b (nth (is_dropped b) (sightings b) m)
  reason_at m l = gather_at (is_dropped b) (reason b) 0 (sightings b) m (in_dropped m l)

  pub parted : Parted b
  parted = record {
    kept_from = nth (is_kept b) (sightings b);
    dropped_from = nth (is_dropped b) (sightings b);
    kept_in = λ m l. nth_in (is_kept b) (sightings b) m (in_kept m l);
    dropped_in = λ m l. nth_in (is_dropped b) (sightings b) m (in_dropped m l);
    kept_order = λ k m a l. nth_rise (is_kept b) (sightings b) k m a (in_kept m l);
    dropped_order = λ k m a l. nth_rise (is_dropped b) (sightings b) k m a (in_dropped m l);
    position_is = left_position b (is_kept b);
    object_is = left_object b (is_kept b);
    face_is = left_face b (is_kept b);
    reading_is = left_reading b (is_kept b);
    objects_long = left_objects b (is_kept b) ∙ sym (left_long b (is_kept b));
    faces_long = left_faces b (is_kept b) ∙ sym (left_long b (is_kept b));
    readings_long = left_readings b (is_kept b) ∙ sym (left_long b (is_kept b));
    ordinal_is = λ m l. gather_at (is_dropped b) (λ h. h + 1) 0 (sightings b) m (in_dropped m l);
    reason_is = reason_at;
    reason_in = λ m l. rw (reason_at m l) (reason_in b (nth (is_dropped b) (sightings b) m) (nth_test (is_dropped b) (sightings b) m (in_dropped m l)));
    reasons_long = gather_rank (is_dropped b) (sightings b) (reason b) ∙ sym dropped_long;
    each = λ h l. by_test h l (is_kept b h) refl;
    not_both = λ k m lk lm e.
        not_both (sym (nth_test (is_kept b) (sightings b) k (in_kept k lk)) ∙ ap (is_kept b) e ∙ not-true _ (nth_test (is_dropped b) (sightings b) m (in_dropped m lm)));
    together = gather_parts (sightings b) (is_kept b) (position_at b) (λ h. h + 1);
  }
    where
      by_test : (h : ℕ) → h < sightings b → (x : Bool) → is_kept b h ≡ x →
          ((m : ℕ) × (m < sightings (kept b)) × (nth (is_kept b) (sightings b) m ≡ h)) ⊎ ((m : ℕ) × (m < length (ordinals b)) × (nth (is_dropped b) (sightings b) m ≡ h))
      by_test h l true e = inl (rank (is_kept b) h, omega (arith, left_long b (is_kept b), rank_in (is_kept b) h (sightings b) l e), nth_rank (is_kept b) h (sightings b) l e)
      by_test h l false e =
          inr (rank (is_dropped b) h, omega (arith, dropped_long, rank_in (is_dropped b) h (sightings b) l (ap not e)), nth_rank (is_dropped b) h (sightings b) l (ap not e))

-- ---- where nothing is left
pub nothing_kept : (b : Book) → nothing_left b ≡ true → sightings (kept b) ≡ 0
unfolding nothing_left
nothing_kept b e = ap length (gather_none (sightings b) (is_kept b) (position_at b) (all_failed (sightings b) (is_kept b) (not-true _ e)))

pub something_kept : (b : Book) → nothing_left b ≡ false → 1 ≤ sightings (kept b)
unfolding nothing_left
something_kept b e = by_order (dec_lt 0 (sightings (kept b)))
  where
    -- a kept sighting has a place among the kept
    none : ¬ (0 < sightings (kept b)) → Failed (is_kept b) (sightings b)
    none k h l = by_test (is_kept b h) refl
      where
        by_test : (x : Bool) → is_kept b h ≡ x → x ≡ false
        by_test true q = absurd (omega (arith, left_long b (is_kept b), rank_in (is_kept b) h (sightings b) l q))
        by_test false q = refl

    by_order : Dec (0 < sightings (kept b)) → 1 ≤ sightings (kept b)
    by_order (yes k) = k
    by_order (no k) = not_both (sym (ap not (some_none (sightings b) (is_kept b) (none k))) ∙ e)

pub something_left : (b : Book) (room : Bool) → rescue_reply b room ≡ Ok tt → 1 ≤ sightings (kept b)
something_left b room e = something_kept b (rescue_in b room e).1

-- ---- a list that is sound
-- where all are left, the list is as it was
left_all : (b : Book) → InRange b → (test : ℕ → Bool) → ((h : ℕ) → h < sightings b → test h ≡ true) → left b test ≡ b
left_all b s test e = λ t. book (all b.position refl t) (all b.object s.objects t) (all b.face s.faces t) (all b.reading s.readings t)
  where
    all : (xs : List ℤ) → length xs ≡ sightings b → gather (sightings b) test (λ h. get_or xs h (pos 0)) ≡ xs
    all xs l = gather_all (sightings b) test (λ h. get_or xs h (pos 0)) e ∙ sym (tabulate_is (pos 0) (sightings b) (λ h. get_or xs h (pos 0)) xs l (λ i k. refl))

module _ (b : Book) (c : Clear b) where
  -- a step that all have reached drops none
  stays_all : (k : ℕ) → ((h : ℕ) → h < sightings b → stays k b h ≡ true) → (h : ℕ) → h < sightings b → stays (suc k) b h ≡ true
  unfolding stays
  stays_all k e h l = λ t. e h l t && not (unspoilt t)
    where
      whole : left b (stays k b) ≡ b
      whole = left_all b c.ranges (stays k b) e

      unspoilt : spoilt (step_check k) (left b (stays k b)) (place_of b h) ≡ false
      unspoilt = (λ t. spoilt (step_check k) (whole t) (place_of b h)) ∙ c.quiet k (place_of b h) (place_in b c.ranges h l)

  stays_whole : (k h : ℕ) → h < sightings b → stays k b h ≡ true
  unfolding stays
  stays_whole zero h l = refl
  stays_whole (suc k) h l = stays_all k (stays_whole k) h l

  clear_whole : (rescue_reply b true ≡ Ok tt) × (kept b ≡ b) × (ordinals b ≡ []) × (reasons b ≡ [])
  unfolding rescue_reply nothing_left
  clear_whole = (
    rw ((clear_fits b c.ranges c.some).0, (clear_fits b c.ranges c.some).1, some_at (sightings b) (is_kept b) 0 c.some (failed_none (is_kept b)) (stays_whole 4 0 c.some)),
    left_all b c.ranges (is_kept b) (stays_whole 4),
    gather_none (sightings b) (is_dropped b) (λ h. h + 1) (λ h l. ap not (stays_whole 4 h l)),
    gather_none (sightings b) (is_dropped b) (reason b) (λ h l. ap not (stays_whole 4 h l)),
  )

pub sound_whole : (b : Book) → Sound b → (rescue_reply b true ≡ Ok tt) × (kept b ≡ b) × (ordinals b ≡ []) × (reasons b ≡ [])
sound_whole b s = clear_whole b (sound_clear b s)

-- ---- what is kept
-- what is left of a list in range is in range
left_range : (b : Book) → InRange b → (test : ℕ → Bool) → InRange (left b test)
left_range b s test = record {
  few = omega (arith, s.few, left_long b test, gather_most (sightings b) test (λ i. i));
  objects = left_objects b test ∙ sym (left_long b test);
  faces = left_faces b test ∙ sym (left_long b test);
  readings = left_readings b test ∙ sym (left_long b test);
  sound = λ m l.
      (λ t. out_of_range (left_position b test m l t) (left_object b test m l t) (left_face b test m l t) (left_reading b test m l t))
      ∙ s.sound (nth test (sightings b) m) (nth_in test (sightings b) m (omega (arith, left_long b test)));
}

kept_clear : (b : Book) (room : Bool) → rescue_reply b room ≡ Ok tt → Clear (kept b)
kept_clear b room e =
    let s = (rescue_in b room e).0 in
    let n = tables_after b s 4 in
    record {
      ranges = left_range b s (is_kept b);
      some = something_left b room e;
      quiet = λ k p l. (λ t. fault (step_check k) (sym n.0 t) (sym n.1 t) p) ∙ settled (counts b) (readings b) p l k;
    }

pub kept_sound : (b : Book) (room : Bool) → rescue_reply b room ≡ Ok tt → Sound (kept b)
kept_sound b room e = clear_sound (kept b) (kept_clear b room e)

pub again : (b : Book) (room : Bool) → rescue_reply b room ≡ Ok tt → (rescue_reply (kept b) true ≡ Ok tt) × (kept (kept b) ≡ kept b) × (ordinals (kept b) ≡ []) × (reasons (kept b) ≡ [])
again b room e = sound_whole (kept b) (kept_sound b room e)
