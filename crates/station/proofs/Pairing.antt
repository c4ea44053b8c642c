-- The pairs of an accepted list: the steps of the inspectorate's first question, which proofs/Joining answers. Assumes nothing.
--   paired                  every pair that enters a direction is the one left and the one right sighting of its position and object
--   is_seen                 and the pair of every position and object that has a sighting enters
--   entered                 each sighting of an accepted list is the left or the right of the pair of its own position and object
--   one_place               and is of one face, one position and one object
--   pairs_counted           P counts the positions that have a pair
use mathlib.Core.Path.{◌≡◌, refl, sym, ◌∙◌, ap, subst}
use mathlib.Core.Bool.{Bool, true, false, cond, not, ◌&&◌}
use mathlib.Core.List.{List, [], ◌∷◌}
use mathlib.Core.Logic.{inl, inr}
use Prim.Native.Nat.{ℕ, zero, suc, ◌+◌, ◌-◌, ◌<◌, ◌≤◌}
use native.Mathlib.Omega.{arith}
use borrow.Author.Tests.{not-false}
use lib.Dec.{T}
use lib.IntN.{ℤ, pos, nat_abs, ◌+ℤ◌}
use lib.Signed.{lt_z, ◌≤ℤ◌}
use Rattle.exact.specs.Same.{same}
use Rattle.exact.proofs.Linear.{Difference, unknowns, linear, orders, lt_failed, eq_by}
use Rattle.exact.proofs.Sum.{sum_ext}
use Rattle.exact.proofs.Sameness.{same_yes, same_true}
use Rattle.station.specs.Sightings.{Book, sightings, position_at, object_at, face_at, reading_at, is_of}
use Rattle.station.specs.Pairs.{Sighted, Joined, Entered}
use Rattle.station.specs.SumWhere.{sum_where}
use Rattle.station.specs.Table.{one, total, entry, counts, readings}
use Rattle.station.specs.Means.{seen, faces_fault, P}
use Rattle.station.specs.Replies.{reply_of}
use Rattle.station.proofs.Accepting.{Passed, passed}
use Rattle.station.proofs.Tests.{and_true, same_tests}
use Rattle.station.proofs.Selecting.{OnlyOne, where_one, where_zero, where_nonneg}
use Rattle.station.proofs.Tallying.{InFields, in_fields, table_at}
use Rattle.std.specs.Prelude.{Ok}

-- ---- a sighting of a face, position and object, by the test and in words
module _ (b : Book) (f i j h : ℕ) where
  sighted : h < sightings b → is_of b f i j h ≡ true → Sighted b f (i + 1) (j + 1) h
  unfolding is_of
  sighted l e =
      let x = and_true (same (face_at b h) (pos f)) _ e in
      let y = and_true (same (position_at b h) (pos (i + 1))) (same (object_at b h) (pos (j + 1))) x.1 in
      record { listed = l; face_is = same_true _ _ x.0; position_is = same_true _ _ y.0; object_is = same_true _ _ y.1 }

  tested : Sighted b f (i + 1) (j + 1) h → is_of b f i j h ≡ true
  unfolding is_of
  tested s = rw (same_yes s.face_is, same_yes s.position_is) (same_yes s.object_is)

-- ---- one left and one right
pub once_each : (n : List ℤ) (i j : ℕ) → seen n i j ≡ true → faces_fault n i j ≡ false → (entry n 0 i j ≡ pos 1) × (entry n 1 i j ≡ pos 1)
unfolding faces_fault
once_each n i j s e =
    let x = and_true (same (entry n 0 i j) (pos 1)) (same (entry n 1 i j) (pos 1)) (not-false _ ((λ t. sym s t && not (same (entry n 0 i j) (pos 1) && same (entry n 1 i j) (pos 1))) ∙ e)) in
    (same_true _ _ x.0, same_true _ _ x.1)

-- the position and the object that a sighting's own fields say, counted from 0
abbrev pub own_position : Book → ℕ → ℕ
own_position b m = nat_abs (position_at b m) - 1

abbrev pub own_object : Book → ℕ → ℕ
own_object b m = nat_abs (object_at b m) - 1

-- ---- an object of which a position has a sighting is seen there
nothing : (x y : ℤ) → pos 0 ≤ℤ x → pos 0 ≤ℤ y → lt_z (pos 0) (x +ℤ y) ≡ false → (x ≡ pos 0) × (y ≡ pos 0)
nothing x y a c e =
    let v = unknowns (x ∷ y ∷ []) in let s : Difference (x +ℤ y) = search linear in let k = lt_failed (pos 0) (x +ℤ y) e in
    (eq_by (search linear) (search linear) (omega (arith, orders)), eq_by (search linear) (search linear) (omega (arith, orders)))

module _ (b : Book) (i j : ℕ) (li : i < 16) (lj : j < 16) where
  pub counted : (f : ℕ) → f < 2 → entry (counts b) f i j ≡ sum_where (sightings b) (is_of b f i j) one
  unfolding total
  counted f lf = table_at b one f i j lf li lj

  counted_nonneg : (f : ℕ) → f < 2 → pos 0 ≤ℤ entry (counts b) f i j
  counted_nonneg f lf = rw (counted f lf) (where_nonneg (is_of b f i j) (sightings b))

  -- where the object is not seen, both counts are 0
  pub not_seen : seen (counts b) i j ≡ false → (entry (counts b) 0 i j ≡ pos 0) × (entry (counts b) 1 i j ≡ pos 0)
  unfolding seen
  not_seen e = nothing (entry (counts b) 0 i j) (entry (counts b) 1 i j) (counted_nonneg 0 (omega arith)) (counted_nonneg 1 (omega arith)) e

  pub is_seen : (f h : ℕ) → f < 2 → Sighted b f (i + 1) (j + 1) h → seen (counts b) i j ≡ true
  is_seen f h lf s = by_test (seen (counts b) i j) refl
    where
      none : (f : ℕ) → f < 2 → (entry (counts b) 0 i j ≡ pos 0) × (entry (counts b) 1 i j ≡ pos 0) → entry (counts b) f i j ≡ pos 0
      none zero l e = e.0
      none (suc zero) l e = e.1
      none (suc (suc f)) l e = absurd (omega arith)

      by_test : (t : Bool) → seen (counts b) i j ≡ t → t ≡ true
      by_test true e = refl
      by_test false e =
          absurd (subst T (sym (tested b f i j h s) ∙ where_zero (is_of b f i j) (sightings b) (sym (counted f lf) ∙ none f lf (not_seen e)) h s.listed) tt)

module _ (b : Book) (d p : ℕ) (accepted : reply_of b d p ≡ Ok tt) where
  checks : Passed b
  checks = passed b d p accepted

  module _ (i j : ℕ) (li : i < 16) (lj : j < 16) where
    -- the one sighting of a face, where the count is one
    single : (f : ℕ) → f < 2 → entry (counts b) f i j ≡ pos 1 → OnlyOne (is_of b f i j) (sightings b)
    single f lf e = where_one (is_of b f i j) (sightings b) (sym (counted b i j li lj f lf) ∙ e)

    reads : (f : ℕ) → f < 2 → (o : OnlyOne (is_of b f i j) (sightings b)) → entry (readings b) f i j ≡ reading_at b o.at
    unfolding total
    reads f lf o = table_at b (reading_at b) f i j lf li lj ∙ o.value (reading_at b)

    pub paired : seen (counts b) i j ≡ true → Joined b i j
    paired s =
        let e = once_each (counts b) i j s (checks.faces i j li lj) in
        let l = single 0 (omega arith) e.0 in let r = single 1 (omega arith) e.1 in
        record {
          left = l.at;
          right = r.at;
          pair = record {
            left = sighted b 0 i j l.at l.below l.holds;
            right = sighted b 1 i j r.at r.below r.holds;
            only_left = λ m q. l.alone m q.listed (tested b 0 i j m q);
            only_right = λ m q. r.alone m q.listed (tested b 1 i j m q);
          };
          left_reading = reads 0 (omega arith) l;
          right_reading = reads 1 (omega arith) r;
        }

  -- each sighting of the list is the left or the right of the pair of its own position and object
  pub entered : (m : ℕ) → m < sightings b → Entered b m
  entered m l = by_face (nat_abs (face_at b m)) s.faces.1.1 s.faces.0
    where
      s : InFields b m
      s = in_fields b m (checks.ranges.sound m l)

      li : own_position b m < 16
      li = omega (arith, s.positions.1)

      lj : own_object b m < 16
      lj = omega (arith, s.objects.1)

      own : (f : ℕ) → face_at b m ≡ pos f → Sighted b f (own_position b m + 1) (own_object b m + 1) m
      own f e = record {
        listed = l;
        face_is = e;
        position_is = s.positions.0 ∙ ap pos (omega (arith, s.positions.1));
        object_is = s.objects.0 ∙ ap pos (omega (arith, s.objects.1));
      }

      pair_here : (f : ℕ) → f < 2 → face_at b m ≡ pos f → Joined b (own_position b m) (own_object b m)
      pair_here f lf e = paired (own_position b m) (own_object b m) li lj (is_seen b (own_position b m) (own_object b m) li lj f m lf (own f e))

      by_face : (f : ℕ) → f ≤ 1 → face_at b m ≡ pos f → Entered b m
      by_face zero lf e = let q = pair_here 0 (omega arith) e in record { i = own_position b m; j = own_object b m; joined = q; which = inl (q.pair.only_left m (own 0 e)) }
      by_face (suc zero) lf e = let q = pair_here 1 (omega arith) e in record { i = own_position b m; j = own_object b m; joined = q; which = inr (q.pair.only_right m (own 1 e)) }
      by_face (suc (suc f)) lf e = absurd (omega arith)

  -- P is the number of positions that pass any test which tells the positions with a pair
  pub pairs_counted : (j : ℕ) → j < 16 → (test : ℕ → Bool) → ((i : ℕ) → i < 16 → test i ≡ true → Joined b i j) → ((i : ℕ) → i < 16 → Joined b i j → test i ≡ true) →
      P (counts b) j ≡ sum_where 16 test one
  unfolding P
  pairs_counted j lj test to from = sum_ext 16 (λ i. cond (seen (counts b) i j) (pos 1) (pos 0)) (λ i. cond (test i) (pos 1) (pos 0)) (λ i li t. cond (passes i li t) (pos 1) (pos 0))
    where
      passes : (i : ℕ) → i < 16 → seen (counts b) i j ≡ test i
      passes i li = same_tests (seen (counts b) i j) (test i) (λ e. from i li (paired i j li lj e)) (λ e. is_seen b i j li lj 0 _ (omega arith) (to i li e).pair.left)

-- ---- at most one pair: a sighting has one position, one object and one face
same_number : {z : ℤ} {m n : ℕ} → z ≡ pos m → z ≡ pos n → m ≡ n
same_number e f = ap nat_abs (sym e ∙ f)

pub one_place : (b : Book) {f f' p o p' o' h : ℕ} → Sighted b f p o h → Sighted b f' p' o' h → (f ≡ f') × ((p ≡ p') × (o ≡ o'))
one_place b x y = (same_number x.face_is y.face_is, (same_number x.position_is y.position_is, same_number x.object_is y.object_is))
