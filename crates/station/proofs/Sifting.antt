-- The tables of a list that is left, and why the rule and the tables say the same of each sighting. Assumes nothing.
--   left_long, left_objects, left_faces, left_readings      how many sightings are left, by each field
--   left_position, left_object, left_face, left_reading     the fields of the sighting at place m of what is left
--   total_left                        a total of what is left is the total over the whole list where the test holds
--   table_left                        where the test goes by position and object, the table of what is left is the whole table, cleared
--   counts_left, readings_left        the same of the two tables
--   place_in                          the place of a sighting's position and object
--   stays_before                      what is left after k steps was left after those before
--   tables_after                      the cleared tables are those of what the steps have left
--   why_free, why_reason              a place has no reason where its sightings are left, and the rule's reason where they are dropped
--   kept_free, reason_none, reason_in        the reason is 0 where a sighting is kept, and 1 to 4 where it is dropped
--   reason_most                              and 4 at most, whichever it is
use mathlib.Core.Path.{◌≡◌, refl, sym, ◌∙◌, ap, subst}
use mathlib.Core.Bool.{Bool, true, false, not, cond, ◌&&◌}
use mathlib.Core.List.{List}
use Prim.Native.Nat.{ℕ, zero, suc, ◌+◌, ◌/◌, ◌%◌, ◌<◌, ◌≤◌}
use native.Mathlib.Decide.{dec_lt}
use native.Mathlib.Omega.{arith}
use borrow.Author.Tests.{not-true, ne_eqb, eq-eqb}
use lib.Dec.{eqb}
use lib.IntN.{ℤ, pos, nat_abs}
use lib.ListN.{length, get_or, get_or-replicate}
use Rattle.exact.specs.First.{first}
use Rattle.exact.specs.Same.{same}
use Rattle.exact.specs.Sum.{sum}
use Rattle.exact.specs.Tabulate.{tabulate}
use Rattle.exact.proofs.Filling.{tabulate_at, tabulate_ext}
use Rattle.exact.proofs.Gathering.{rank, nth, gather_rank, gather_at, sum_gathered}
use Rattle.exact.proofs.Sameness.{same_true}
use Rattle.exact.proofs.Searching.{not_both, first_at, first_least, first_more}
use Rattle.exact.proofs.Sum.{sum_ext, sum_zero}
use Rattle.station.specs.Bounds.{InRange}
use Rattle.station.specs.Sightings.{Book, sightings, position_at, object_at, face_at, reading_at, is_of}
use Rattle.station.specs.SumWhere.{sum_where}
use Rattle.station.specs.Table.{total, one, table_of, counts, readings}
use Rattle.station.specs.Replies.{fault}
use Rattle.station.specs.Rescue.{left, place_of, step_check, spoilt, stays, is_kept, is_dropped, reason}
use Rattle.station.specs.Steps.{free, cleared, why_after}
use Rattle.station.proofs.Selecting.{chosen}
use Rattle.station.proofs.Clearing.{fault_gone, why_at, free_next}
use Rattle.station.proofs.Tallying.{in_fields}
use Rattle.station.proofs.Tests.{and_true}

-- ---- the fields of what is left
module _ (b : Book) (test : ℕ → Bool) where
  -- where the m-th sighting that is left stood in the list
  abbrev stood : ℕ → ℕ
  stood m = nth test (sightings b) m

  pub left_long : sightings (left b test) ≡ rank test (sightings b)
  left_long = gather_rank test (sightings b) (position_at b)

  pub left_objects : length (left b test).object ≡ rank test (sightings b)
  left_objects = gather_rank test (sightings b) (object_at b)

  pub left_faces : length (left b test).face ≡ rank test (sightings b)
  left_faces = gather_rank test (sightings b) (face_at b)

  pub left_readings : length (left b test).reading ≡ rank test (sightings b)
  left_readings = gather_rank test (sightings b) (reading_at b)

  module _ (m : ℕ) (l : m < sightings (left b test)) where
    pub left_position : position_at (left b test) m ≡ position_at b (nth test (sightings b) m)
    left_position = gather_at test (position_at b) (pos 0) (sightings b) m (omega (arith, left_long))

    pub left_object : object_at (left b test) m ≡ object_at b (nth test (sightings b) m)
    left_object = gather_at test (object_at b) (pos 0) (sightings b) m (omega (arith, left_long))

    pub left_face : face_at (left b test) m ≡ face_at b (nth test (sightings b) m)
    left_face = gather_at test (face_at b) (pos 0) (sightings b) m (omega (arith, left_long))

    pub left_reading : reading_at (left b test) m ≡ reading_at b (nth test (sightings b) m)
    left_reading = gather_at test (reading_at b) (pos 0) (sightings b) m (omega (arith, left_long))

    left_of : (f i j : ℕ) → is_of (left b test) f i j m ≡ is_of b f i j (stood m)
    unfolding is_of
    left_of f i j = λ t. same (left_face t) (pos f) && (same (left_position t) (pos (i + 1)) && same (left_object t) (pos (j + 1)))

  -- ---- totals: v of what is left, v', is that of the sighting as it stood
  pub total_left : (v v' : ℕ → ℤ) → ((m : ℕ) → m < sightings (left b test) → v' m ≡ v (nth test (sightings b) m)) → (f i j : ℕ) →
      total (left b test) v' f i j ≡ sum_where (sightings b) test (chosen (is_of b f i j) v)
  unfolding total
  total_left v v' e f i j =
      sum_ext (sightings (left b test)) (chosen (is_of (left b test) f i j) v') (λ m. chosen (is_of b f i j) v (stood m))
      (λ m l t. cond (left_of m l f i j t) (e m l t) (pos 0))
      ∙ ap (λ (n : ℕ). sum n (λ m. chosen (is_of b f i j) v (stood m))) left_long
      ∙ sum_gathered test (chosen (is_of b f i j) v) (sightings b)

-- ---- tables
-- a sighting of the face, position and object of slot k stands at its place
of_place : (b : Book) (k h : ℕ) → is_of b (k / 256) (k % 256 / 16) (k % 16) h ≡ true → place_of b h ≡ k % 256
unfolding is_of
of_place b k h e =
    let x = and_true (same (face_at b h) (pos (k / 256))) _ e in
    let y = and_true (same (position_at b h) (pos (k % 256 / 16 + 1))) _ x.1 in
    let p = ap nat_abs (same_true (position_at b h) (pos (k % 256 / 16 + 1)) y.0) in
    let o = ap nat_abs (same_true (object_at b h) (pos (k % 16 + 1)) y.1) in
    omega arith

module _ (b : Book) (test whole : ℕ → Bool) (by_place : (h : ℕ) → h < sightings b → test h ≡ whole (place_of b h)) where
  slot_left : (v : ℕ → ℤ) (k : ℕ) → sum_where (sightings b) test (chosen (is_of b (k / 256) (k % 256 / 16) (k % 16)) v) ≡ cond (whole (k % 256)) (total b v (k / 256) (k % 256 / 16) (k % 16)) (pos 0)
  unfolding total
  slot_left v k = by_test (whole (k % 256)) refl
    where
      here : ℕ → Bool
      here h = is_of b (k / 256) (k % 256 / 16) (k % 16) h

      passes : (h : ℕ) → h < sightings b → here h ≡ true → test h ≡ whole (k % 256)
      passes h l e = by_place h l ∙ ap whole (of_place b k h e)

      -- the term of a sighting, where all of its place stay, and where none does
      term : (w : Bool) (h : ℕ) → h < sightings b → whole (k % 256) ≡ w → (x : Bool) → here h ≡ x → cond (test h) (cond x (v h) (pos 0)) (pos 0) ≡ cond w (cond x (v h) (pos 0)) (pos 0)
      term w h l e true o = λ t. cond ((passes h l o ∙ e) t) (v h) (pos 0)
      term w h l e false o = none (test h) ∙ sym (none w)
        where
          none : (x : Bool) → cond x (pos 0) (pos 0) ≡ pos 0
          none true = refl
          none false = refl

      by_test : (w : Bool) → whole (k % 256) ≡ w → sum_where (sightings b) test (chosen here v) ≡ cond w (sum_where (sightings b) here v) (pos 0)
      by_test true e = sum_ext (sightings b) (chosen test (chosen here v)) (chosen here v) (λ h l. term true h l e (here h) refl)
      by_test false e = sum_ext (sightings b) (chosen test (chosen here v)) (λ h. pos 0) (λ h l. term false h l e (here h) refl) ∙ sum_zero (sightings b)

  pub table_left : (v v' : ℕ → ℤ) → ((m : ℕ) → m < sightings (left b test) → v' m ≡ v (nth test (sightings b) m)) →
      table_of (left b test) v' ≡ tabulate 512 (λ k. cond (whole (k % 256)) (get_or (table_of b v) k (pos 0)) (pos 0))
  table_left v v' e =
      tabulate_ext 512 (λ k. total (left b test) v' (k / 256) (k % 256 / 16) (k % 16)) (λ k. cond (whole (k % 256)) (get_or (table_of b v) k (pos 0)) (pos 0))
      (λ k l. total_left b test v v' e (k / 256) (k % 256 / 16) (k % 16) ∙ slot_left v k
      ∙ ap (λ (z : ℤ). cond (whole (k % 256)) z (pos 0)) (sym (tabulate_at 512 (λ i. total b v (i / 256) (i % 256 / 16) (i % 16)) k (pos 0) l)))

  pub counts_left : counts (left b test) ≡ tabulate 512 (λ k. cond (whole (k % 256)) (get_or (counts b) k (pos 0)) (pos 0))
  counts_left = table_left one one (λ m l. refl)

  pub readings_left : readings (left b test) ≡ tabulate 512 (λ k. cond (whole (k % 256)) (get_or (readings b) k (pos 0)) (pos 0))
  readings_left = table_left (reading_at b) (reading_at (left b test)) (left_reading b test)

-- ---- the steps
pub place_in : (b : Book) → InRange b → (h : ℕ) → h < sightings b → place_of b h < 256
place_in b s h l = let f = in_fields b h (s.sound h l) in omega (arith, f.positions.1, f.objects.1)

pub stays_before : (b : Book) (h m k : ℕ) → m ≤ k → stays k b h ≡ true → stays m b h ≡ true
unfolding stays
stays_before b h m zero l e = subst (λ (i : ℕ). stays i b h ≡ true) (none m l) refl
  where
    none : (m : ℕ) → m ≤ 0 → 0 ≡ m
    none m l = omega arith
stays_before b h m (suc k) l e = by_order (dec_lt k m) (stays_before b h m k)
  where
    here : k < m → suc k ≡ m
    here a = omega arith

    by_order : Dec (k < m) → (m ≤ k → stays k b h ≡ true → stays m b h ≡ true) → stays m b h ≡ true
    by_order (yes a) r = subst (λ (i : ℕ). stays i b h ≡ true) (here a) e
    by_order (no a) r = r (omega arith) (and_true (stays k b h) _ e).0

-- what the rule says of a sighting after k steps: the step that dropped it
unfoldable reason_after : ℕ → Book → ℕ → ℕ
reason_after k b h = cond (stays k b h) 0 (first k (λ m. not (stays (suc m) b h)) + 1)

reason_next : (k : ℕ) (b : Book) (h : ℕ) → (stays k b h ≡ false → spoilt (step_check k) (left b (stays k b)) (place_of b h) ≡ false) →
    cond (spoilt (step_check k) (left b (stays k b)) (place_of b h)) (suc k) (reason_after k b h) ≡ reason_after (suc k) b h
unfolding reason_after stays
reason_next k b h quiet = by_tests (stays k b h) refl (spoilt (step_check k) (left b (stays k b)) (place_of b h)) refl
  where
    late : ℕ → Bool
    late m = not (stays (suc m) b h)

    none_before : stays k b h ≡ true → (m : ℕ) → m < k → late m ≡ false
    none_before e m l = ap not (stays_before b h (suc m) k l e)

    -- some step before has dropped it
    dropped_before : (k : ℕ) → stays k b h ≡ false → first (suc k) late ≡ first k late
    dropped_before zero e = not_both e
    dropped_before (suc k) e = first_more (suc k) late k (omega arith) (ap not e)

    by_tests : (x : Bool) → stays k b h ≡ x → (y : Bool) → spoilt (step_check k) (left b (stays k b)) (place_of b h) ≡ y →
        cond y (suc k) (cond x 0 (first k late + 1)) ≡ cond (x && not y) 0 (first (suc k) late + 1)
    by_tests true e true q = omega (arith, first_at (suc k) late k (omega arith) (none_before e) (λ t. not (e t && not (q t))))
    by_tests true e false q = refl
    by_tests false e true q = not_both (sym q ∙ quiet e)
    by_tests false e false q = ap (λ (i : ℕ). i + 1) (sym (dropped_before k e))

module _ (b : Book) (s : InRange b) where
  abbrev why : ℕ → List ℕ
  why k = why_after k (counts b) (readings b)

  abbrev Agree : ℕ → Type 0
  Agree k = (h : ℕ) → h < sightings b → free (why k) (place_of b h) ≡ stays k b h

  module _ (k : ℕ) (agree : Agree k) where
    tables_from : (cleared (why k) (counts b) ≡ counts (left b (stays k b))) × (cleared (why k) (readings b) ≡ readings (left b (stays k b)))
    unfolding cleared
    tables_from = (sym (counts_left b (stays k b) (free (why k)) (λ h l. sym (agree h l))), sym (readings_left b (stays k b) (free (why k)) (λ h l. sym (agree h l))))

    module _ (h : ℕ) (l : h < sightings b) where
      why_next : get_or (why (suc k)) (place_of b h) 0 ≡ cond (spoilt (step_check k) (left b (stays k b)) (place_of b h)) (suc k) (get_or (why k) (place_of b h) 0)
      why_next =
          why_at (counts b) (readings b) (place_of b h) (place_in b s h l) k
          ∙ (λ t. cond (fault (step_check k) (tables_from.0 t) (tables_from.1 t) (place_of b h)) (suc k) (get_or (why k) (place_of b h) 0))

      -- a sighting that is gone spoils nothing
      quiet_gone : stays k b h ≡ false → spoilt (step_check k) (left b (stays k b)) (place_of b h) ≡ false
      quiet_gone e =
          (λ t. fault (step_check k) (sym tables_from.0 t) (sym tables_from.1 t) (place_of b h))
          ∙ fault_gone (why k) (counts b) (cleared (why k) (readings b)) (place_of b h) (place_in b s h l) k (agree h l ∙ e)

      left_next : free (why (suc k)) (place_of b h) ≡ stays (suc k) b h
      unfolding stays
      left_next =
          free_next (counts b) (readings b) (place_of b h) (place_in b s h l) k
          ∙ (λ t. agree h l t && not (fault (step_check k) (tables_from.0 t) (tables_from.1 t) (place_of b h)))

  pub why_free : (k h : ℕ) → h < sightings b → free (why_after k (counts b) (readings b)) (place_of b h) ≡ stays k b h
  unfolding why_after stays
  why_free zero h l = ap (λ (i : ℕ). eqb i 0) (get_or-replicate 256 (place_of b h) 0 0 (place_in b s h l))
  why_free (suc k) h l = left_next k (why_free k) h l

  pub tables_after : (k : ℕ) →
      (cleared (why_after k (counts b) (readings b)) (counts b) ≡ counts (left b (stays k b))) × (cleared (why_after k (counts b) (readings b)) (readings b) ≡ readings (left b (stays k b)))
  tables_after k = tables_from k (why_free k)

  why_after_lem : (k h : ℕ) → h < sightings b → get_or (why k) (place_of b h) 0 ≡ reason_after k b h
  unfolding why_after stays reason_after
  why_after_lem zero h l = get_or-replicate 256 (place_of b h) 0 0 (place_in b s h l)
  why_after_lem (suc k) h l =
      why_next k (why_free k) h l
      ∙ ap (λ (i : ℕ). cond (spoilt (step_check k) (left b (stays k b)) (place_of b h)) (suc k) i) (why_after_lem k h l)
      ∙ reason_next k b h (quiet_gone k (why_free k) h l)

  pub why_reason : (h : ℕ) → h < sightings b → get_or (why_after 4 (counts b) (readings b)) (place_of b h) 0 ≡ reason b h
  unfolding reason_after reason
  why_reason h l = why_after_lem 4 h l

-- ---- the reason by itself
module _ (b : Book) (h : ℕ) where
  pub kept_free : is_kept b h ≡ eqb (reason b h) 0
  unfolding reason
  kept_free = by_test (is_kept b h)
    where
      by_test : (x : Bool) → x ≡ eqb (cond x 0 (first 4 (λ k. not (stays (suc k) b h)) + 1)) 0
      by_test true = sym (eq-eqb 0 0 refl)
      by_test false = sym (ne_eqb (first 4 (λ k. not (stays (suc k) b h)) + 1) 0 (λ e. omega arith))

  pub reason_in : is_dropped b h ≡ true → (1 ≤ reason b h) × (reason b h ≤ 4)
  unfolding reason
  reason_in e = rw (not-true (is_kept b h) e) (omega (arith, first_least 4 (λ k. not (stays (suc k) b h)) 3 e))

  pub reason_none : is_kept b h ≡ true → reason b h ≡ 0
  unfolding reason
  reason_none e = rw e

  pub reason_most : reason b h ≤ 4
  reason_most = by_test (is_kept b h) refl
    where
      by_test : (x : Bool) → is_kept b h ≡ x → reason b h ≤ 4
      by_test true e = omega (arith, reason_none e)
      by_test false e = (reason_in (ap not e)).1
