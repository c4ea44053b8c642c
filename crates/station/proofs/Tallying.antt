-- The station's table, as it fills from the list. Assumes nothing.
--   InFields, in_fields               the fields of a sighting that is in range
--   of_slot, of_other                 a sighting is of the face, position and object of its own slot, and of no other slot's
--   zeros_within                      the numbers of an empty table are within any bound
--   tallied                           the table after the first m sightings; tallied_none, tallied_more: before the first, and after one more
--   stored                            the same of a table that is so far
--   tallied_size                      how large its numbers are; tallied_all: at the end it is the whole table
--   counts_so_far, readings_so_far    how large the numbers of the two tables are, after m sightings of a list in range
--   table_at                          what the whole table has of a face, a position and an object
use mathlib.Core.Path.{◌≡◌, refl, sym, ◌∙◌, ap, subst}
use mathlib.Core.Bool.{Bool, true, false}
use mathlib.Core.List.{List}
use Prim.Native.Nat.{ℕ, zero, suc, ◌+◌, ◌*◌, ◌-◌, ◌/◌, ◌%◌, ◌<◌, ◌≤◌}
use native.Mathlib.Decide.{dec_lt}
use native.Mathlib.Omega.{arith}
use borrow.Author.Tests.{ltb-false}
use lib.Dec.{T, ltb}
use lib.IntN.{ℤ, pos, negsuc, nat_abs, ◌+ℤ◌, ◌-ℤ◌}
use lib.ListN.{get_or, set, replicate, length-set, length-replicate, get_or-replicate, get_or-eq_default}
use lib.Seq.{ext_get_or, get_or-set_same, get_or-set_other}
use Rattle.std.proofs.lemmas.Bool.{or_parts}
use Rattle.exact.specs.Tabulate.{tabulate}
use Rattle.exact.specs.Circle.{C}
use Rattle.exact.specs.Outside.{outside}
use Rattle.exact.specs.Within.{Within}
use Rattle.exact.proofs.Filling.{tabulate_length, tabulate_at}
use Rattle.exact.proofs.Sameness.{same_yes, same_true}
use Rattle.station.specs.Bounds.{InRange}
use Rattle.station.specs.Sightings.{Book, sightings, position_at, object_at, face_at, reading_at, out_of_range, field_fault, is_of}
use Rattle.station.specs.SumWhere.{sum_where}
use Rattle.station.specs.Table.{total, one, slot, entry, table_of}
use Rattle.station.proofs.Tests.{and_true}
use Rattle.station.proofs.Selecting.{where_none, where_taken, where_passed, where_size}

-- ---- a sighting in range
-- z is one of lo, .., hi
abbrev Among : ℤ → ℕ → ℕ → Type 0
Among z lo hi = (z ≡ pos (nat_abs z)) × ((lo ≤ nat_abs z) × (nat_abs z ≤ hi))

among : (z : ℤ) (lo hi : ℕ) → outside (pos lo) (pos hi) z ≡ false → Among z lo hi
among (pos n) lo hi p =
    let k = or_parts (ltb n lo) (ltb hi n) p in
    (refl, (ltb-false n lo k.0, ltb-false hi n k.1))
among (negsuc n) lo hi p = absurd (subst T p tt)

pub record InFields (b : Book) (h : ℕ) : Type 0 where
  pub positions : (position_at b h ≡ pos (nat_abs (position_at b h))) × ((1 ≤ nat_abs (position_at b h)) × (nat_abs (position_at b h) ≤ 16))
  pub objects : (object_at b h ≡ pos (nat_abs (object_at b h))) × ((1 ≤ nat_abs (object_at b h)) × (nat_abs (object_at b h) ≤ 16))
  pub faces : (face_at b h ≡ pos (nat_abs (face_at b h))) × ((0 ≤ nat_abs (face_at b h)) × (nat_abs (face_at b h) ≤ 1))
  pub readings : (reading_at b h ≡ pos (nat_abs (reading_at b h))) × ((0 ≤ nat_abs (reading_at b h)) × (nat_abs (reading_at b h) ≤ 1295999999))

pub in_fields : (b : Book) (h : ℕ) → field_fault b h ≡ false → InFields b h
unfolding out_of_range
in_fields b h e =
    let p = or_parts (outside (pos 1) (pos 16) (position_at b h)) _ e in
    let o = or_parts (outside (pos 1) (pos 16) (object_at b h)) _ p.1 in
    let f = or_parts (outside (pos 0) (pos 1) (face_at b h)) (outside (pos 0) (C -ℤ pos 1) (reading_at b h)) o.1 in
    record {
      positions = among (position_at b h) 1 16 p.0;
      objects = among (object_at b h) 1 16 o.0;
      faces = among (face_at b h) 0 1 f.0;
      readings = among (reading_at b h) 0 1295999999 f.1;
    }

-- which sightings are of the face, position and object of slot k
abbrev pub in_slot : Book → ℕ → ℕ → Bool
in_slot b k = is_of b (k / 256) (k % 256 / 16) (k % 16)

module _ (b : Book) (h : ℕ) where
  -- the slot that a sighting's own fields say
  abbrev pub slot_at : ℕ
  slot_at = slot (nat_abs (face_at b h)) (nat_abs (position_at b h) - 1) (nat_abs (object_at b h) - 1)

  module _ (s : InFields b h) where
    pub slot_in : slot_at < 512
    slot_in = omega (arith, s.faces.1.1, s.positions.1, s.objects.1)

    pub of_slot : (k : ℕ) → k ≡ slot_at → in_slot b k h ≡ true
    unfolding is_of
    of_slot k q =
        let f = s.faces in let p = s.positions in let o = s.objects in
        let a : nat_abs (face_at b h) ≡ k / 256 = omega arith in let c : nat_abs (position_at b h) ≡ k % 256 / 16 + 1 = omega arith in
        let d : nat_abs (object_at b h) ≡ k % 16 + 1 = omega arith in
        rw (same_yes (f.0 ∙ ap pos a), same_yes (p.0 ∙ ap pos c)) (same_yes (o.0 ∙ ap pos d))

    pub of_other : (k : ℕ) → k < 512 → (k ≡ slot_at → ⊥) → in_slot b k h ≡ false
    unfolding is_of
    of_other k l n = by_test (in_slot b k h) refl
      where
        own : in_slot b k h ≡ true → k ≡ slot_at
        own e =
            let x = and_true _ _ e in let y = and_true _ _ x.1 in
            let a = ap nat_abs (same_true (face_at b h) (pos (k / 256)) x.0) in
            let c = ap nat_abs (same_true (position_at b h) (pos (k % 256 / 16 + 1)) y.0) in
            let d = ap nat_abs (same_true (object_at b h) (pos (k % 16 + 1)) y.1) in
            omega arith

        by_test : (t : Bool) → in_slot b k h ≡ t → t ≡ false
        by_test true e = absurd (n (own e))
        by_test false e = refl

-- ---- a table in which one number is replaced
tabulate_set : (n : ℕ) (f g : ℕ → ℤ) (q : ℕ) (x : ℤ) → q < n → x ≡ g q → ((k : ℕ) → k < n → (k ≡ q → ⊥) → f k ≡ g k) → set (tabulate n f) q x ≡ tabulate n g
tabulate_set n f g q x l e o =
    ext_get_or (pos 0) (set (tabulate n f) q x) (tabulate n g) (length-set (tabulate n f) q x ∙ tabulate_length n f ∙ sym (tabulate_length n g))
    (λ k m. pick k (omega (arith, length-set (tabulate n f) q x, tabulate_length n f)) (dec_lt k q) (dec_lt q k))
  where
    other : (k : ℕ) → k < n → (k ≡ q → ⊥) → get_or (set (tabulate n f) q x) k (pos 0) ≡ get_or (tabulate n g) k (pos 0)
    other k m d = get_or-set_other (tabulate n f) q k x (pos 0) d ∙ tabulate_at n f k (pos 0) m ∙ o k m d ∙ sym (tabulate_at n g k (pos 0) m)

    same : get_or (set (tabulate n f) q x) q (pos 0) ≡ get_or (tabulate n g) q (pos 0)
    same = get_or-set_same (tabulate n f) q x (pos 0) (omega (arith, tabulate_length n f)) ∙ e ∙ sym (tabulate_at n g q (pos 0) l)

    pick : (k : ℕ) → k < n → Dec (k < q) → Dec (q < k) → get_or (set (tabulate n f) q x) k (pos 0) ≡ get_or (tabulate n g) k (pos 0)
    pick k m (yes a) c = other k m (λ d. omega arith)
    pick k m (no a) (yes c) = other k m (λ d. omega arith)
    pick k m (no a) (no c) = subst (λ (k : ℕ). get_or (set (tabulate n f) q x) k (pos 0) ≡ get_or (tabulate n g) k (pos 0)) (omega arith) same

-- ---- the table so far
-- before the first sighting
pub zeros_within : (B n : ℕ) → Within B (replicate n (pos 0))
zeros_within B zero h = omega arith
zeros_within B (suc n) zero = omega arith
zeros_within B (suc n) (suc h) = zeros_within B n h

module _ (b : Book) (v : ℕ → ℤ) where
  -- of the first m sightings
  abbrev pub so_far : ℕ → ℕ → ℤ
  so_far m k = sum_where m (in_slot b k) v

  abbrev pub tallied : ℕ → List ℤ
  tallied m = tabulate 512 (so_far m)

  pub tallied_none : replicate 512 (pos 0) ≡ tallied 0
  tallied_none =
      ext_get_or (pos 0) (replicate 512 (pos 0)) (tallied 0) (length-replicate 512 (pos 0) ∙ sym (tabulate_length 512 (so_far 0)))
      (λ k l. let m : k < 512 = omega (arith, length-replicate 512 (pos 0)) in get_or-replicate 512 k (pos 0) (pos 0) m ∙ sym (tabulate_at 512 (so_far 0) k (pos 0) m ∙ where_none (in_slot b k) v))

  pub tallied_more : (m : ℕ) → InFields b m →
      set (tallied m) (slot_at b m) (get_or (tallied m) (slot_at b m) (pos 0) +ℤ v m) ≡ tallied (m + 1)
  tallied_more m s =
      tabulate_set 512 (so_far m) (so_far (m + 1)) (slot_at b m) _ (slot_in b m s)
      (ap (λ (z : ℤ). z +ℤ v m) (tabulate_at 512 (so_far m) (slot_at b m) (pos 0) (slot_in b m s)) ∙ sym (where_taken (in_slot b (slot_at b m)) v m (of_slot b m s (slot_at b m) refl)))
      (λ k l d. sym (where_passed (in_slot b k) v m (of_other b m s k l d)))

  pub tallied_size : (m B : ℕ) → ((i : ℕ) → i < m → nat_abs (v i) ≤ B) → Within (m * B) (tallied m)
  tallied_size m B h k = by_order (dec_lt k 512)
    where
      by_order : Dec (k < 512) → nat_abs (get_or (tallied m) k (pos 0)) ≤ m * B
      by_order (yes l) = rw (tabulate_at 512 (so_far m) k (pos 0) l) (where_size (in_slot b k) v m B h)
      by_order (no l) = rw (get_or-eq_default (tallied m) (pos 0) {n = k} (omega (arith, tabulate_length 512 (so_far m)))) (omega arith)

  -- a table xs that is so far, with x stored at the place k of the sighting m
  pub stored : (m : ℕ) (s : InFields b m) {xs : List ℤ} {k : ℕ} {x : ℤ} →
      xs ≡ tallied m → k ≡ slot_at b m → x ≡ get_or xs k (pos 0) +ℤ v m → set xs k x ≡ tallied (m + 1)
  stored m s p q r = (λ t. set (p t) (q t) ((r ∙ (λ u. get_or (p u) (q u) (pos 0) +ℤ v m)) t)) ∙ tallied_more m s

  -- the whole table
  pub tallied_all : tallied (sightings b) ≡ table_of b v
  unfolding total
  tallied_all = refl

  pub table_at : (f i j : ℕ) → f < 2 → i < 16 → j < 16 → entry (table_of b v) f i j ≡ total b v f i j
  table_at f i j lf li lj =
      tabulate_at 512 (λ k. total b v (k / 256) (k % 256 / 16) (k % 16)) (slot f i j) (pos 0) (omega arith)
      ∙ (λ t. total b v (face_is t) (position_is t) (object_is t))
    where
      face_is : slot f i j / 256 ≡ f
      face_is = omega arith

      position_is : slot f i j % 256 / 16 ≡ i
      position_is = omega arith

      object_is : slot f i j % 16 ≡ j
      object_is = omega arith

-- how large the numbers of the two tables are, for a list in range
module _ (b : Book) (s : InRange b) where
  module _ (m : ℕ) (l : m ≤ sightings b) {xs : List ℤ} where
    pub counts_so_far : xs ≡ tallied b one m → Within 512 xs
    counts_so_far e = rw e (λ k. omega (arith, tallied_size b one m 1 (λ i l. omega arith) k, s.few))

    pub readings_so_far : xs ≡ tallied b (reading_at b) m → Within 663552000000 xs
    readings_so_far e =
        let each : (i : ℕ) → i < m → nat_abs (reading_at b i) ≤ 1295999999 = λ i q. (in_fields b i (s.sound i (omega arith))).readings.1.1 in
        rw e (λ k. omega (arith, tallied_size b (reading_at b) m 1295999999 each k, s.few))
