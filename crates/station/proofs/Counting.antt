-- Every sighting of an accepted list is counted in one P. Assumes nothing.
--   sum_ones                one for each of n
--   twice_the_pairs         twice the sum of all P is the number of sightings
use mathlib.Core.Path.{◌≡◌, refl, sym, ◌∙◌, ap}
use mathlib.Core.Bool.{Bool, true, false, cond, ◌&&◌}
use Prim.Native.Nat.{ℕ, zero, suc, ◌+◌, ◌<◌, ◌≤◌}
use native.Mathlib.Numerals.{add-one}
use native.Mathlib.Omega.{arith}
use borrow.Author.Tests.{eq-eqb, eqb-true}
use lib.Dec.{eqb}
use lib.IntN.{ℤ, pos, nat_abs, ◌+ℤ◌, ◌*ℤ◌}
use Rattle.exact.specs.Sum.{sum}
use Rattle.exact.specs.Same.{same}
use Rattle.exact.proofs.Sum.{sum_none, sum_next, sum_ext, sum_add, sum_mul, sum_swap}
use Rattle.exact.proofs.Sameness.{same_yes, same_true}
use Rattle.station.specs.Sightings.{Book, sightings, position_at, object_at, face_at, is_of}
use Rattle.station.specs.Table.{one, entry, counts}
use Rattle.station.specs.Means.{seen, P}
use Rattle.station.specs.Replies.{reply_of}
use Rattle.station.proofs.Accepting.{Passed, passed}
use Rattle.station.proofs.Tests.{same_tests}
use Rattle.station.proofs.Pairing.{own_position, own_object, once_each, counted, not_seen}
use Rattle.station.proofs.Selecting.{chosen, where_at}
use Rattle.station.proofs.Tallying.{InFields, in_fields}
use Rattle.std.specs.Prelude.{Ok}

-- one for each of n
pub sum_ones : (n : ℕ) → sum n one ≡ pos n
sum_ones zero = sum_none one
sum_ones (suc n) = sum_next n one ∙ ap (λ (z : ℤ). z +ℤ pos 1) (sum_ones n) ∙ ap pos (add-one n)

-- ---- a sighting is of one face, one position and one object
-- of the faces 0 and 1 it has one
one_face : (f : ℕ) → f ≤ 1 → (x y : Bool) → cond (same (pos f) (pos 0) && (x && y)) (pos 1) (pos 0) +ℤ cond (same (pos f) (pos 1) && (x && y)) (pos 1) (pos 0) ≡ cond x (cond y (pos 1) (pos 0)) (pos 0)
unfolding same
one_face zero l true true = refl
one_face zero l true false = refl
one_face zero l false y = refl
one_face (suc zero) l true true = refl
one_face (suc zero) l true false = refl
one_face (suc zero) l false y = refl
one_face (suc (suc f)) l x y = absurd (omega arith)

-- what the sighting at h adds to the left and the right count of a position and an object
abbrev adds : Book → ℕ → ℕ → ℕ → ℤ
adds b h i j = chosen (is_of b 0 i j) one h +ℤ chosen (is_of b 1 i j) one h

module _ (b : Book) (h : ℕ) (s : InFields b h) where
  position_test : (i : ℕ) → same (position_at b h) (pos (i + 1)) ≡ eqb i (own_position b h)
  position_test i =
      same_tests (same (position_at b h) (pos (i + 1))) (eqb i (own_position b h))
      (λ e. let q = ap nat_abs (same_true (position_at b h) (pos (i + 1)) e) in eq-eqb i (own_position b h) (omega arith))
      (λ e. let q = eqb-true i (own_position b h) e in same_yes (s.positions.0 ∙ ap pos (omega (arith, s.positions.1))))

  object_test : (j : ℕ) → same (object_at b h) (pos (j + 1)) ≡ eqb j (own_object b h)
  object_test j =
      same_tests (same (object_at b h) (pos (j + 1))) (eqb j (own_object b h))
      (λ e. let q = ap nat_abs (same_true (object_at b h) (pos (j + 1)) e) in eq-eqb j (own_object b h) (omega arith))
      (λ e. let q = eqb-true j (own_object b h) e in same_yes (s.objects.0 ∙ ap pos (omega (arith, s.objects.1))))

  adds_own : (i j : ℕ) → adds b h i j ≡ cond (eqb i (own_position b h)) (cond (eqb j (own_object b h)) (pos 1) (pos 0)) (pos 0)
  unfolding is_of
  adds_own i j =
      (λ t. cond (same (s.faces.0 t) (pos 0) && (position_test i t && object_test j t)) (pos 1) (pos 0) +ℤ cond (same (s.faces.0 t) (pos 1) && (position_test i t && object_test j t)) (pos 1) (pos 0))
      ∙ one_face (nat_abs (face_at b h)) s.faces.1.1 (eqb i (own_position b h)) (eqb j (own_object b h))

  adds_once : sum 16 (λ j. sum 16 (λ i. adds b h i j)) ≡ pos 1
  adds_once =
      sum_ext 16 (λ j. sum 16 (λ i. adds b h i j)) (λ j. cond (eqb j (own_object b h)) (pos 1) (pos 0))
      (λ j l. sum_ext 16 (λ i. adds b h i j) (λ i. cond (eqb i (own_position b h)) (cond (eqb j (own_object b h)) (pos 1) (pos 0)) (pos 0)) (λ i m. adds_own i j)
      ∙ where_at 16 (own_position b h) (λ i. cond (eqb j (own_object b h)) (pos 1) (pos 0)) (omega (arith, s.positions.1)))
      ∙ where_at 16 (own_object b h) one (omega (arith, s.objects.1))

-- ---- the counts of an accepted list
module _ (b : Book) (d p : ℕ) (accepted : reply_of b d p ≡ Ok tt) where
  checks : Passed b
  checks = passed b d p accepted

  -- a pair is two sightings
  two_each : (i j : ℕ) → i < 16 → j < 16 → pos 2 *ℤ cond (seen (counts b) i j) (pos 1) (pos 0) ≡ entry (counts b) 0 i j +ℤ entry (counts b) 1 i j
  two_each i j li lj = by_test (seen (counts b) i j) refl
    where
      by_test : (t : Bool) → seen (counts b) i j ≡ t → pos 2 *ℤ cond t (pos 1) (pos 0) ≡ entry (counts b) 0 i j +ℤ entry (counts b) 1 i j
      by_test true e = let q = once_each (counts b) i j e (checks.faces i j li lj) in λ t. sym q.0 t +ℤ sym q.1 t
      by_test false e = let q = not_seen b i j li lj e in λ t. sym q.0 t +ℤ sym q.1 t

  of_object : (j : ℕ) → j < 16 → pos 2 *ℤ P (counts b) j ≡ sum (sightings b) (λ h. sum 16 (λ i. adds b h i j))
  unfolding P
  of_object j lj =
      sym (sum_mul 16 (pos 2) (λ i. cond (seen (counts b) i j) (pos 1) (pos 0)))
      ∙ sum_ext 16 (λ i. pos 2 *ℤ cond (seen (counts b) i j) (pos 1) (pos 0)) (λ i. sum (sightings b) (λ h. adds b h i j))
      (λ i li. two_each i j li lj ∙ (λ t. counted b i j li lj 0 (omega arith) t +ℤ counted b i j li lj 1 (omega arith) t) ∙ sym (sum_add (sightings b) (chosen (is_of b 0 i j) one) (chosen (is_of b 1 i j) one)))
      ∙ sum_swap 16 (sightings b) (λ i h. adds b h i j)

  pub twice_the_pairs : pos 2 *ℤ sum 16 (P (counts b)) ≡ pos (sightings b)
  twice_the_pairs =
      sym (sum_mul 16 (pos 2) (P (counts b)))
      ∙ sum_ext 16 (λ j. pos 2 *ℤ P (counts b) j) (λ j. sum (sightings b) (λ h. sum 16 (λ i. adds b h i j))) of_object
      ∙ sum_swap 16 (sightings b) (λ j h. sum 16 (λ i. adds b h i j))
      ∙ sum_ext (sightings b) (λ h. sum 16 (λ j. sum 16 (λ i. adds b h i j))) one (λ h l. adds_once b h (in_fields b h (checks.ranges.sound h l)))
      ∙ sum_ones (sightings b)
