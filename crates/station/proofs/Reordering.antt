-- The order of arrival does not decide what a rescue keeps. Assumes nothing.
--   left_alike              what a test leaves of two orders of the same sightings, where it goes with the sighting, is one list in two orders
--   reason_moved            each sighting is dropped for the same reason, or kept
--   kept_alike, dropped_alike       so the kept ones are the same, and the dropped ones
--   rescue_same             and so is the reply, unless its place is an ordinal
--   rescue_field_stays      and that refusal keeps its number
use mathlib.Core.Path.{◌≡◌, refl, sym, ◌∙◌, ap}
use mathlib.Core.Bool.{Bool, true, false, not, cond, ◌&&◌}
use mathlib.Core.Logic.{◌⊎◌, inl, inr}
use Prim.Native.Nat.{ℕ, zero, suc, ◌+◌, ◌-◌, ◌<◌}
use native.Mathlib.Omega.{arith}
use lib.IntN.{pos, nat_abs}
use lib.ListN.{get_or}
use Rattle.exact.specs.First.{first}
use Rattle.exact.specs.Gather.{gather}
use Rattle.exact.specs.Sum.{sum}
use Rattle.exact.proofs.Gathering.{rank, nth, gather_rank, gather_at, nth_in, nth_test, rank_in, nth_rank, rank_nth, sum_gathered}
use Rattle.exact.proofs.Sum.{sum_ext}
use Rattle.reply.specs.Checks.{refuse_if, ◌and_then◌}
use Rattle.reply.specs.declared.Refusal.TheVariants.{Sightings, Field, NothingLeft}
use Rattle.reply.specs.Reply.{Reply}
use Rattle.reply.proofs.Checking.{refuse_none, refuse_first_lem}
use Rattle.station.specs.Sightings.{Book, sightings, position_at, object_at, face_at, reading_at, field_fault}
use Rattle.station.specs.Rearrangement.{Rearranged}
use Rattle.station.specs.Table.{one, slot}
use Rattle.station.specs.Replies.{fault, lengths_reply, fields_reply}
use Rattle.station.specs.Rescue.{left, place_of, step_check, stays, is_kept, is_dropped, reason, kept, ordinals, nothing_left, rescue_reply}
use Rattle.station.specs.Parted.{DroppedAlike}
use Rattle.station.proofs.Counting.{sum_ones}
use Rattle.station.proofs.Rearranging.{sum_rearranged, counts_rearranged, readings_rearranged, turned, sound_moved, fit_same, Fields, at_fault, all_in, fields_of}
use Rattle.station.proofs.Rescuing.{dropped_long, in_dropped, nothing_kept, something_kept}
use Rattle.station.proofs.Selecting.{chosen}
use Rattle.station.proofs.Sifting.{left_long, left_objects, left_faces, left_readings}
use Rattle.station.proofs.Tests.{same_tests}
use Rattle.std.specs.Prelude.{Ok, Err}

-- ---- what a test leaves of two orders
-- as many as a count says
rank_counted : (t : ℕ → Bool) (n : ℕ) → pos (rank t n) ≡ sum n (chosen t one)
rank_counted t n = sym (sum_ones (rank t n)) ∙ sum_gathered t one n

module _ {b b' : Book} (q : Rearranged b b') (t t' : ℕ → Bool) (agree : (h : ℕ) → h < sightings b → t' h ≡ t (q.from h)) where
  ranks_same : rank t' (sightings b') ≡ rank t (sightings b)
  ranks_same =
      ap nat_abs (
      ap (λ (n : ℕ). pos (rank t' n)) q.positions_long ∙ rank_counted t' (sightings b)
      ∙ sum_ext (sightings b) (chosen t' one) (λ h. chosen t one (q.from h)) (λ h l i. cond (agree h l i) (pos 1) (pos 0))
      ∙ sum_rearranged (sightings b) q.from q.to q.from_in q.to_in q.back q.forth (chosen t one)
      ∙ sym (rank_counted t (sightings b)))

  -- where the m-th of what is left of the one stands in what is left of the other
  abbrev from_here : ℕ → ℕ
  from_here m = rank t (q.from (nth t' (sightings b') m))

  abbrev to_there : ℕ → ℕ
  to_there m = rank t' (q.to (nth t (sightings b) m))

  module _ (m : ℕ) (l : m < rank t (sightings b)) where
    -- the m-th of the second order, and where it stood in the first
    second_in : nth t' (sightings b') m < sightings b
    second_in = omega (arith, ranks_same, q.positions_long, nth_in t' (sightings b') m (omega (arith, ranks_same)))

    second_test : t (q.from (nth t' (sightings b') m)) ≡ true
    second_test = sym (agree (nth t' (sightings b') m) second_in) ∙ nth_test t' (sightings b') m (omega (arith, ranks_same))

    from_stands : nth t (sightings b) (from_here m) ≡ q.from (nth t' (sightings b') m)
    from_stands = nth_rank t (q.from (nth t' (sightings b') m)) (sightings b) (q.from_in _ second_in) second_test

    from_below : from_here m < rank t (sightings b)
    from_below = rank_in t (q.from (nth t' (sightings b') m)) (sightings b) (q.from_in _ second_in) second_test

    -- the m-th of the first, and where it stands in the second
    first_in : nth t (sightings b) m < sightings b
    first_in = nth_in t (sightings b) m l

    first_test : t' (q.to (nth t (sightings b) m)) ≡ true
    first_test = agree (q.to (nth t (sightings b) m)) (q.to_in _ first_in) ∙ ap t (q.forth _ first_in) ∙ nth_test t (sightings b) m l

    to_stands : nth t' (sightings b') (to_there m) ≡ q.to (nth t (sightings b) m)
    to_stands = nth_rank t' (q.to (nth t (sightings b) m)) (sightings b') (omega (arith, q.positions_long, q.to_in _ first_in)) first_test

    to_below : to_there m < rank t (sightings b)
    to_below = omega (arith, ranks_same, q.positions_long, rank_in t' (q.to (nth t (sightings b) m)) (sightings b') (omega (arith, q.positions_long, q.to_in _ first_in)) first_test)

    there_and_back : to_there (from_here m) ≡ m
    there_and_back = ap (λ (h : ℕ). rank t' (q.to h)) from_stands ∙ ap (rank t') (q.back _ second_in) ∙ rank_nth t' (sightings b') m (omega (arith, ranks_same))

    back_and_there : from_here (to_there m) ≡ m
    back_and_there = ap (λ (h : ℕ). rank t (q.from h)) to_stands ∙ ap (rank t) (q.forth _ first_in) ∙ rank_nth t (sightings b) m l

    -- what is said of each sighting goes with it
    value_moved : {A : Type 0} (v v' : ℕ → A) (d : A) → ((h : ℕ) → h < sightings b → v' h ≡ v (q.from h)) → get_or (gather (sightings b') t' v') m d ≡ get_or (gather (sightings b) t v) (from_here m) d
    value_moved v v' d e =
        gather_at t' v' d (sightings b') m (omega (arith, ranks_same)) ∙ e (nth t' (sightings b') m) second_in
        ∙ ap v (sym from_stands) ∙ sym (gather_at t v d (sightings b) (from_here m) from_below)

  pub left_alike : Rearranged (left b t) (left b' t')
  left_alike = record {
    from = from_here;
    to = to_there;
    from_in = λ m l. omega (arith, left_long b t, from_below m (in_left m l));
    to_in = λ m l. omega (arith, left_long b t, to_below m (in_left m l));
    back = λ m l. there_and_back m (in_left m l);
    forth = λ m l. back_and_there m (in_left m l);
    position_is = λ m l. value_moved m (in_left m l) (position_at b) (position_at b') (pos 0) q.position_is;
    object_is = λ m l. value_moved m (in_left m l) (object_at b) (object_at b') (pos 0) q.object_is;
    face_is = λ m l. value_moved m (in_left m l) (face_at b) (face_at b') (pos 0) q.face_is;
    reading_is = λ m l. value_moved m (in_left m l) (reading_at b) (reading_at b') (pos 0) q.reading_is;
    positions_long = left_long b' t' ∙ ranks_same ∙ sym (left_long b t);
    objects_long = left_objects b' t' ∙ ranks_same ∙ sym (left_objects b t);
    faces_long = left_faces b' t' ∙ ranks_same ∙ sym (left_faces b t);
    readings_long = left_readings b' t' ∙ ranks_same ∙ sym (left_readings b t);
  }
    where
      in_left : (m : ℕ) → m < sightings (left b t) → m < rank t (sightings b)
      in_left m l = omega (arith, left_long b t)

-- ---- the steps
module _ {b b' : Book} (q : Rearranged b b') where
  place_moved : (h : ℕ) → h < sightings b → place_of b' h ≡ place_of b (q.from h)
  place_moved h l = λ t. slot 0 (nat_abs (q.position_is h l t) - 1) (nat_abs (q.object_is h l t) - 1)

  stays_moved : (k h : ℕ) → h < sightings b → stays k b' h ≡ stays k b (q.from h)
  unfolding stays
  stays_moved zero h l = refl
  stays_moved (suc k) h l =
      let u = left_alike q (stays k b) (stays k b') (stays_moved k) in
      λ t. stays_moved k h l t && not (fault (step_check k) (counts_rearranged u t) (readings_rearranged u t) (place_moved h l t))

  pub reason_moved : (h : ℕ) → h < sightings b → reason b' h ≡ reason b (q.from h)
  unfolding reason
  reason_moved h l = λ t. cond (stays_moved 4 h l t) 0 (first 4 (λ k. not (stays_moved (suc k) h l t)) + 1)

  pub kept_alike : Rearranged (kept b) (kept b')
  kept_alike = left_alike q (is_kept b) (is_kept b') (stays_moved 4)

  dropped_moved : (h : ℕ) → h < sightings b → is_dropped b' h ≡ is_dropped b (q.from h)
  dropped_moved h l = ap not (stays_moved 4 h l)

  pub dropped_alike : DroppedAlike q
  dropped_alike = record {
    from = from_here q (is_dropped b) (is_dropped b') dropped_moved;
    to = to_there q (is_dropped b) (is_dropped b') dropped_moved;
    from_in = λ m l. omega (arith, dropped_long b, from_below q (is_dropped b) (is_dropped b') dropped_moved m (in_dropped b m l));
    to_in = λ m l. omega (arith, dropped_long b, to_below q (is_dropped b) (is_dropped b') dropped_moved m (in_dropped b m l));
    back = λ m l. there_and_back q (is_dropped b) (is_dropped b') dropped_moved m (in_dropped b m l);
    forth = λ m l. back_and_there q (is_dropped b) (is_dropped b') dropped_moved m (in_dropped b m l);
    ordinal_is = λ m l. ordinal_moved m (in_dropped b m l);
    reason_is = λ m l. value_moved q (is_dropped b) (is_dropped b') dropped_moved m (in_dropped b m l) (reason b) (reason b') 0 reason_moved;
    ordinals_long = gather_rank (is_dropped b') (sightings b') (λ h. h + 1) ∙ same_rank ∙ sym (dropped_long b);
    reasons_long = gather_rank (is_dropped b') (sightings b') (reason b') ∙ same_rank ∙ sym (gather_rank (is_dropped b) (sightings b) (reason b));
  }
    where
      same_rank : rank (is_dropped b') (sightings b') ≡ rank (is_dropped b) (sightings b)
      same_rank = ranks_same q (is_dropped b) (is_dropped b') dropped_moved

      -- an ordinal is one more than where the sighting stands
      ordinal_moved : (m : ℕ) → m < rank (is_dropped b) (sightings b) →
          get_or (ordinals b) (from_here q (is_dropped b) (is_dropped b') dropped_moved m) 0 ≡ q.from (get_or (ordinals b') m 0 - 1) + 1
      ordinal_moved m l =
          gather_at (is_dropped b) (λ h. h + 1) 0 (sightings b) (from_here q (is_dropped b) (is_dropped b') dropped_moved m) (from_below q (is_dropped b) (is_dropped b') dropped_moved m l)
          ∙ ap (λ (h : ℕ). h + 1) (from_stands q (is_dropped b) (is_dropped b') dropped_moved m l ∙ ap q.from (sym stands))
        where
          stands : get_or (ordinals b') m 0 - 1 ≡ nth (is_dropped b') (sightings b') m
          stands = omega (arith, gather_at (is_dropped b') (λ h. h + 1) 0 (sightings b') m (omega (arith, same_rank)))

  -- ---- the reply
  nothing_same : nothing_left b' ≡ nothing_left b
  nothing_same =
      same_tests (nothing_left b') (nothing_left b) (λ e. by_test b (sym kept_alike.positions_long ∙ nothing_kept b' e) (nothing_left b) refl)
      (λ e. by_test b' (kept_alike.positions_long ∙ nothing_kept b e) (nothing_left b') refl)
    where
      by_test : (c : Book) → sightings (kept c) ≡ 0 → (x : Bool) → nothing_left c ≡ x → x ≡ true
      by_test c n true f = refl
      by_test c n false f = absurd (omega (arith, something_kept c f))

  -- the replies of 22 are the same, or the first is a refusal
  fields_same : Fields b → (fields_reply b ≡ fields_reply b') ⊎ ((h : ℕ) × (fields_reply b ≡ Err (Field h)))
  fields_same (at_fault l) = inr (_, refuse_first_lem (sightings b) (field_fault b) (λ h. Field (h + 1)) (first (sightings b) (field_fault b)) refl l)
  fields_same (all_in s) =
      inl (refuse_none (sightings b) (field_fault b) (λ h. Field (h + 1)) s ∙ sym (refuse_none (sightings b') (field_fault b') (λ h. Field (h + 1)) (sound_moved q s)))

-- 21 and the room, then 22, then whether anything is left
abbrev in_order : (lengths room fields left : Reply) → Reply
in_order lengths room fields left = lengths and_then (room and_then (fields and_then left))

same_order : (l r f f' n : Reply) → (f ≡ f') ⊎ ((h : ℕ) × (f ≡ Err (Field h))) → ((h : ℕ) → in_order l r f n ≡ Err (Field h) → ⊥) → in_order l r f n ≡ in_order l r f' n
same_order (Err w) r f f' n c other = refl
same_order (Ok _) (Err w) f f' n c other = refl
same_order (Ok _) (Ok _) f f' n (inl e) other = λ t. e t and_then n
same_order (Ok _) (Ok _) f f' n (inr x) other = absurd (other x.0 (λ t. x.1 t and_then n))

field_order : (l r f f' n : Reply) (h : ℕ) → (f' ≡ f) ⊎ ((h : ℕ) × (f' ≡ Err (Field h))) → in_order l r f n ≡ Err (Field h) → (h' : ℕ) × (in_order l r f' n ≡ Err (Field h'))
field_order (Err w) r f f' n h c e = (h, e)
field_order (Ok _) (Err w) f f' n h c e = (h, e)
field_order (Ok _) (Ok _) f f' n h (inl d) e = (h, (λ t. d t and_then n) ∙ e)
field_order (Ok _) (Ok _) f f' n h (inr x) e = (x.0, λ t. x.1 t and_then n)

module _ {b b' : Book} (q : Rearranged b b') (room : Bool) where
  -- but for 22, the checks say the same of both
  others_same : (fields : Reply) →
      in_order (lengths_reply b' 16 16) (refuse_if (not room) Sightings) fields (refuse_if (nothing_left b') NothingLeft)
      ≡ in_order (lengths_reply b 16 16) (refuse_if (not room) Sightings) fields (refuse_if (nothing_left b) NothingLeft)
  others_same fields = λ t. in_order (refuse_if (not (fit_same q 16 16 t)) Sightings) (refuse_if (not room) Sightings) fields (refuse_if (nothing_same q t) NothingLeft)

  pub rescue_same : ((h : ℕ) → rescue_reply b room ≡ Err (Field h) → ⊥) → rescue_reply b room ≡ rescue_reply b' room
  unfolding rescue_reply
  rescue_same other =
      same_order (lengths_reply b 16 16) (refuse_if (not room) Sightings) (fields_reply b) (fields_reply b') (refuse_if (nothing_left b) NothingLeft) (fields_same q (fields_of b)) other
      ∙ sym (others_same (fields_reply b'))

  pub rescue_field_stays : (h : ℕ) → rescue_reply b room ≡ Err (Field h) → (h' : ℕ) × (rescue_reply b' room ≡ Err (Field h'))
  unfolding rescue_reply
  rescue_field_stays h e =
      let x = field_order (lengths_reply b 16 16) (refuse_if (not room) Sightings) (fields_reply b) (fields_reply b') (refuse_if (nothing_left b) NothingLeft) h (fields_same (turned q) (fields_of b')) e in
      (x.0, others_same (fields_reply b') ∙ x.1)
