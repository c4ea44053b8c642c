-- The answer does not depend on the order of arrival. Assumes nothing.
--   sum_rearranged          a sum keeps its value when its terms are rearranged
--   counts_rearranged, readings_rearranged      so do the station's two tables
--   turned                  a rearrangement is one the other way round too
--   sound_moved, fit_same   fields in range stay so, and so does the test of the lengths; Fields, fields_of: a list is at fault in a field, or in none
--   order_free              of two orders of the same sightings, the replies and both lists are equal, unless the place of the refusal is an ordinal
--   field_stays             and that refusal keeps its number
use mathlib.Core.Path.{◌≡◌, refl, sym, ◌∙◌, ap}
use mathlib.Core.Bool.{Bool, true, false, cond, ◌&&◌}
use mathlib.Core.List.{List}
use Prim.Native.Nat.{ℕ, ◌+◌, ◌/◌, ◌%◌, ◌<◌}
use native.Mathlib.Decide.{dec_lt}
use native.Mathlib.Omega.{arith}
use borrow.Author.Tests.{eq-eqb, eqb-true}
use lib.Dec.{eqb}
use lib.IntN.{ℤ, pos}
use lib.ListN.{length}
use Rattle.exact.specs.Sum.{sum}
use Rattle.exact.specs.First.{first}
use Rattle.exact.specs.Tabulate.{tabulate}
use Rattle.exact.specs.Same.{same}
use Rattle.exact.proofs.Sum.{sum_ext, sum_swap}
use Rattle.exact.proofs.Searching.{Failed, first_before}
use Rattle.reply.specs.declared.Refusal.TheVariants.{Field}
use Rattle.reply.specs.Reply.{Reply}
use Rattle.reply.specs.Checks.{leaves}
use Rattle.station.specs.Sightings.{Book, sightings, position_at, object_at, face_at, reading_at, lengths_fit, out_of_range, field_fault, is_of}
use Rattle.station.specs.Rearrangement.{Rearranged}
use Rattle.station.specs.SumWhere.{sum_where}
use Rattle.station.specs.Table.{one, total, counts, readings}
use Rattle.station.specs.Means.{directions, pair_counts}
use Rattle.station.specs.Replies.{table_reply, reply_of, Answers}
use Rattle.reply.proofs.Checking.{refuse_first_lem, refuse_none}
use Rattle.station.proofs.Deciding.{fit, reply_lengths, reply_fields}
use Rattle.station.proofs.Tests.{same_tests}
use Rattle.station.proofs.Selecting.{chosen, where_at}
use Rattle.std.specs.Prelude.{Err}

-- ---- sums
module _ (n : ℕ) (from to : ℕ → ℕ) (from_in : (h : ℕ) → h < n → from h < n) (to_in : (h : ℕ) → h < n → to h < n)
    (back : (h : ℕ) → h < n → to (from h) ≡ h) (forth : (h : ℕ) → h < n → from (to h) ≡ h) (f : ℕ → ℤ) where
  same_pick : (h k : ℕ) → h < n → k < n → eqb k (from h) ≡ eqb h (to k)
  same_pick h k lh lk =
      same_tests (eqb k (from h)) (eqb h (to k))
      (λ e. eq-eqb h (to k) (sym (back h lh) ∙ ap to (sym (eqb-true k (from h) e))))
      (λ e. eq-eqb k (from h) (sym (forth k lk) ∙ ap from (sym (eqb-true h (to k) e))))

  pub sum_rearranged : sum n (λ h. f (from h)) ≡ sum n f
  sum_rearranged =
      sum_ext n (λ h. f (from h)) (λ h. sum_where n (λ k. eqb k (from h)) f) (λ h l. sym (where_at n (from h) f (from_in h l)))
      ∙ sum_swap n n (λ h k. cond (eqb k (from h)) (f k) (pos 0))
      ∙ sum_ext n (λ k. sum n (λ h. cond (eqb k (from h)) (f k) (pos 0))) f
      (λ k l. sum_ext n (λ h. cond (eqb k (from h)) (f k) (pos 0)) (λ h. cond (eqb h (to k)) (f k) (pos 0)) (λ h m t. cond (same_pick h k m l t) (f k) (pos 0)) ∙ where_at n (to k) (λ h. f k) (to_in k l))

-- ---- the tables
module _ {b b' : Book} (q : Rearranged b b') where
  total_rearranged : (v v' : ℕ → ℤ) → ((h : ℕ) → h < sightings b → v' h ≡ v (q.from h)) → (f i j : ℕ) → total b' v' f i j ≡ total b v f i j
  unfolding total is_of
  total_rearranged v v' e f i j =
      ap (λ (n : ℕ). sum_where n (is_of b' f i j) v') q.positions_long
      ∙ sum_ext (sightings b) (chosen (is_of b' f i j) v') (λ h. chosen (is_of b f i j) v (q.from h)) (λ h l t. cond (moved h l t) (e h l t) (pos 0))
      ∙ sum_rearranged (sightings b) q.from q.to q.from_in q.to_in q.back q.forth (chosen (is_of b f i j) v)
    where
      moved : (h : ℕ) → h < sightings b → is_of b' f i j h ≡ is_of b f i j (q.from h)
      moved h l = λ t. same (q.face_is h l t) (pos f) && (same (q.position_is h l t) (pos (i + 1)) && same (q.object_is h l t) (pos (j + 1)))

  pub counts_rearranged : counts b' ≡ counts b
  counts_rearranged = λ t. tabulate 512 (λ k. total_rearranged one one (λ h l. refl) (k / 256) (k % 256 / 16) (k % 16) t)

  pub readings_rearranged : readings b' ≡ readings b
  readings_rearranged = λ t. tabulate 512 (λ k. total_rearranged (reading_at b) (reading_at b') q.reading_is (k / 256) (k % 256 / 16) (k % 16) t)

  fault_moved : (h : ℕ) → h < sightings b → field_fault b' h ≡ field_fault b (q.from h)
  fault_moved h l = λ t. out_of_range (q.position_is h l t) (q.object_is h l t) (q.face_is h l t) (q.reading_is h l t)

  -- and the other way round
  pub turned : Rearranged b' b
  turned = record {
    from = q.to;
    to = q.from;
    from_in = λ h l. rw q.positions_long (q.to_in h (here h l));
    to_in = λ h l. rw q.positions_long (q.from_in h (here h l));
    back = λ h l. q.forth h (here h l);
    forth = λ h l. q.back h (here h l);
    position_is = λ h l. sym (q.position_is (q.to h) (q.to_in h (here h l)) ∙ ap (λ (k : ℕ). position_at b k) (q.forth h (here h l)));
    object_is = λ h l. sym (q.object_is (q.to h) (q.to_in h (here h l)) ∙ ap (λ (k : ℕ). object_at b k) (q.forth h (here h l)));
    face_is = λ h l. sym (q.face_is (q.to h) (q.to_in h (here h l)) ∙ ap (λ (k : ℕ). face_at b k) (q.forth h (here h l)));
    reading_is = λ h l. sym (q.reading_is (q.to h) (q.to_in h (here h l)) ∙ ap (λ (k : ℕ). reading_at b k) (q.forth h (here h l)));
    positions_long = sym q.positions_long;
    objects_long = sym q.objects_long;
    faces_long = sym q.faces_long;
    readings_long = sym q.readings_long;
  }
    where
      here : (h : ℕ) → h < sightings b' → h < sightings b
      here h l = omega (arith, q.positions_long)

  -- fields in range stay in range
  pub sound_moved : Failed (field_fault b) (sightings b) → Failed (field_fault b') (sightings b')
  sound_moved s h l = let m : h < sightings b = omega (arith, q.positions_long) in fault_moved h m ∙ s (q.from h) (q.from_in h m)

  -- the test of the lengths is the same
  pub fit_same : (d p : ℕ) → fit b' d p ≡ fit b d p
  fit_same d p = λ t. lengths_fit (q.positions_long t) (q.objects_long t) (q.faces_long t) (q.readings_long t) d p

-- ---- the reply
-- a list is refused for a field, or every field is in range
pub data Fields (b : Book) : Type 0 where
  at_fault : first (sightings b) (field_fault b) < sightings b → Fields b
  all_in : Failed (field_fault b) (sightings b) → Fields b

pub fields_of : (b : Book) → Fields b
fields_of b = by_order (dec_lt (first (sightings b) (field_fault b)) (sightings b))
  where
    by_order : Dec (first (sightings b) (field_fault b) < sightings b) → Fields b
    by_order (yes l) = at_fault l
    by_order (no l) = all_in (λ h k. first_before (sightings b) (field_fault b) h (omega arith))

module _ (b : Book) (d p : ℕ) where
  refused_field : fit b d p ≡ true → first (sightings b) (field_fault b) < sightings b → reply_of b d p ≡ Err (Field (first (sightings b) (field_fault b) + 1))
  refused_field e l = rw (reply_fields b d p e, refuse_first_lem (sightings b) (field_fault b) (λ h. Field (h + 1)) (first (sightings b) (field_fault b)) refl l)

  by_table : fit b d p ≡ true → Failed (field_fault b) (sightings b) → reply_of b d p ≡ table_reply (counts b) (readings b)
  by_table e s = rw (reply_fields b d p e, refuse_none (sightings b) (field_fault b) (λ h. Field (h + 1)) s)

module _ {b b' : Book} (q : Rearranged b b') (d p : ℕ) where
  same_unfit : fit b d p ≡ false → reply_of b d p ≡ reply_of b' d p
  same_unfit e = reply_lengths b d p e ∙ sym (reply_lengths b' d p (fit_same q d p ∙ e))

  same_sound : fit b d p ≡ true → Failed (field_fault b) (sightings b) → reply_of b d p ≡ reply_of b' d p
  same_sound e s =
      by_table b d p e s ∙ (λ t. table_reply (sym (counts_rearranged q) t) (sym (readings_rearranged q) t))
      ∙ sym (by_table b' d p (fit_same q d p ∙ e) (sound_moved q s))

  reply_same : ((h : ℕ) → reply_of b d p ≡ Err (Field h) → ⊥) → reply_of b d p ≡ reply_of b' d p
  reply_same n = by_fit (fit b d p) refl (fields_of b)
    where
      by_fit : (t : Bool) → fit b d p ≡ t → Fields b → reply_of b d p ≡ reply_of b' d p
      by_fit false e f = same_unfit e
      by_fit true e (at_fault l) = absurd (n _ (refused_field b d p e l))
      by_fit true e (all_in s) = same_sound e s

-- ---- of two orders of the same sightings, the replies and both lists are equal, unless the refusal is for a field
pub order_free : {b b' : Book} (q : Rearranged b b') (d p : List ℤ) (r r' : Reply) (D D' P P' : List ℤ) → Answers b d p r D P → Answers b' d p r' D' P' →
    ((h : ℕ) → r ≡ Err (Field h) → ⊥) → (r ≡ r') × ((D ≡ D') × (P ≡ P'))
order_free {b} {b'} q d p r r' D D' P P' a a' n =
    let e : r ≡ r' = a.replied ∙ reply_same q (length d) (length p) (λ h f. n h (a.replied ∙ f)) ∙ sym a'.replied in
    let c = sym (counts_rearranged q) in let m = sym (readings_rearranged q) in (
      e,
      (
        a.directions_are ∙ (λ t. leaves (e t) (directions (c t) (m t)) d) ∙ sym a'.directions_are,
        a.pairs_are ∙ (λ t. leaves (e t) (pair_counts (c t)) p) ∙ sym a'.pairs_are,
      ),
    )

-- ---- and a refusal for a field stays one
pub field_stays : {b b' : Book} (q : Rearranged b b') (d p h : ℕ) → reply_of b d p ≡ Err (Field h) → (h' : ℕ) × (reply_of b' d p ≡ Err (Field h'))
field_stays {b} {b'} q d p h e = by_fit (fit b' d p) refl (fields_of b')
  where
    by_fit : (t : Bool) → fit b' d p ≡ t → Fields b' → (h' : ℕ) × (reply_of b' d p ≡ Err (Field h'))
    by_fit true f (at_fault l) = (first (sightings b') (field_fault b') + 1, refused_field b' d p f l)
    by_fit true f (all_in s) = (h, same_sound (turned q) d p f s ∙ e)
    by_fit false f k = (h, same_unfit (turned q) d p f ∙ e)
