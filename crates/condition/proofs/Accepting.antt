-- What follows for the numbers that the checks accept. Assumes nothing.
--   Counts, counted          the counts and lengths
--   as_many_q, terms_counted those of the directions alone, and of the terms
--   not_outside, number      a number in its range; a direction number
--   sound                    a term that its check accepts is sound
--   Accepts, accepted        all of it, of what is lent
use mathlib.Core.Path.{◌≡◌, refl}
use mathlib.Core.Bool.{false, not}
use mathlib.Core.List.{List, [], ◌∷◌}
use Prim.Native.Nat.{ℕ, ◌+◌, ◌<◌, ◌≤◌}
use native.Mathlib.Decide.{dec_lt}
use native.Mathlib.Omega.{arith}
use borrow.Author.Tests.{ltb-false, eqb-true, not-false}
use lib.Dec.{eqb}
use lib.IntN.{ℤ, pos, neg_ℤ, nat_abs}
use lib.ListN.{length, get_or, get_or-eq_default}
use lib.Signed.{◌≤ℤ◌}
use Rattle.std.proofs.lemmas.Bool.{or_parts}
use Rattle.exact.specs.Outside.{outside}
use Rattle.exact.specs.Within.{Within}
use Rattle.exact.proofs.Linear.{unknowns, linear, orders, one_sided, abs_by}
use Rattle.exact.proofs.Order.{lt_false}
use Rattle.reply.specs.declared.Refusal.TheVariants.{Malformed, Count, OutOfRange}
use Rattle.reply.specs.Checks.{refuse_if}
use Rattle.reply.proofs.Checking.{both_accepted, if_accepted, none_refused, turn_each}
use Rattle.direction.specs.Ranges.{out_of_range, fault_at, directions_reply}
use Rattle.condition.specs.declared.Kind.{Kind}
use Rattle.condition.specs.declared.Kind.TheVariants.{Angle, Side}
use Rattle.condition.specs.declared.term.Letter.{Letter}
use Rattle.condition.specs.declared.term.Letter.TheVariants.{P, F, L, R}
use Rattle.condition.specs.declared.term.Term.{Term}
use Rattle.condition.specs.Terms.{suits, astray, side_fault, fault_of}
use Rattle.condition.specs.Rules.{Lent, term, unequal, directions_miscounted, terms_miscounted, counts_fault, target_check, term_check, terms_check, checks}
use Rattle.condition.specs.Sound.{Number, Ends, SideTerm, SoundOf, Sound, Fields, AllSound}
use Rattle.std.specs.Prelude.{Ok, Option, Some, None}

-- ---- counts and lengths
pub record Counts (l : Lent) : Type 0 where
  pub some_directions : 1 ≤ length l.directions
  pub few_directions : length l.directions ≤ 64
  pub as_directions : length l.q ≡ length l.directions
  pub some_terms : 1 ≤ length l.kinds
  pub fields : Fields l.kinds l.values l.d l.i l.k

alike : (a b : ℕ) → unequal a b ≡ false → a ≡ b
alike a b e = eqb-true a b (not-false (eqb a b) e)

pub as_many_q : (m q : ℕ) → directions_miscounted m q ≡ false → q ≡ m
unfolding directions_miscounted
as_many_q m q e = alike q m (or_parts _ _ e).1

pub terms_counted : (kinds values d i k : List ℤ) → terms_miscounted (length kinds) (length values) (length d) (length i) (length k) ≡ false
    → Fields kinds values d i k
unfolding terms_miscounted
terms_counted kinds values d i k e =
    let n = length kinds in
    let on_k = or_parts _ _ e in
    let on-i = or_parts _ _ on_k.0 in
    let on-d = or_parts _ _ on-i.0 in
    let on_values = or_parts _ _ on-d.0 in
    record {
      few = ltb-false 12 n (or_parts _ _ on_values.0).1;
      as_values = alike (length values) n on_values.1;
      as_d = alike (length d) n on-d.1;
      as_i = alike (length i) n on-i.1;
      as_k = alike (length k) n on_k.1;
    }

pub counted : (l : Lent) → counts_fault l ≡ false → Counts l
unfolding directions_miscounted terms_miscounted
counted l e =
    let n = length l.kinds in let m = length l.directions in
    let parts = or_parts _ _ e in
    let on-m = or_parts _ _ (or_parts _ _ parts.0).0 in
    let on-n = or_parts _ _ (or_parts _ _ (or_parts _ _ (or_parts _ _ (or_parts _ _ parts.1).0).0).0).0 in
    record {
      some_directions = ltb-false m 1 on-m.0;
      few_directions = ltb-false 64 m on-m.1;
      as_directions = as_many_q m (length l.q) parts.0;
      some_terms = ltb-false n 1 on-n.0;
      fields = terms_counted l.kinds l.values l.d l.i l.k parts.1;
    }

-- ---- ranges
pub not_outside : (low high z : ℤ) → outside low high z ≡ false → (low ≤ℤ z) × (z ≤ℤ high)
not_outside low high z e = let r = or_parts _ _ e in (lt_false r.0 refl refl, lt_false r.1 refl refl)

pub number : (m : ℕ) (z : ℤ) → outside (pos 0) (pos m) z ≡ false → Number m z
number m z e =
    let r = not_outside (pos 0) (pos m) z e in let v = unknowns (z ∷ []) in
    record { low = r.0; high = omega (arith, orders, one_sided) }

within_2000 : (z : ℤ) → outside (neg_ℤ (pos 2000)) (pos 2000) z ≡ false → nat_abs z ≤ 2000
within_2000 z e =
    let r = not_outside (neg_ℤ (pos 2000)) (pos 2000) z e in let v = unknowns (z ∷ []) in
    abs_by z (search linear) (omega (arith, orders))

-- ---- a term
module _ (m : ℕ) (t : Term) where
  ends : astray (pos m) t ≡ false → Ends m t
  ends e = let r = or_parts _ _ e in record { i = number m t.i r.0; k = number m t.k r.1 }

  side : side_fault (pos m) t ≡ false → SideTerm m t
  side e =
      let on-ends = or_parts _ _ (or_parts _ _ e).0 in let on-d = or_parts _ _ on-ends.0 in
      record { value = (number 200000000 t.value on-d.0).high; d = within_2000 t.d on-d.1; ends = ends on-ends.1 }

  of_kind : (letter : Option Letter) → fault_of letter (pos m) t ≡ false → SoundOf letter m t
  of_kind (Some P) e = ends (or_parts _ _ e).0
  of_kind (Some F) e = omega (arith, (number 1295999999 t.value e).high)
  of_kind (Some L) e = side e
  of_kind (Some R) e = side e
  of_kind None e = tt

  pub sound : (kind : Kind) (ordinal : ℕ) → term_check kind (pos m) ordinal t ≡ Ok tt → Sound m t
  sound kind ordinal e =
      of_kind t.letter (if_accepted _ (OutOfRange ordinal) (both_accepted (refuse_if (not (suits kind t.letter)) (Malformed ordinal)) _ e).1)

-- ---- all that was lent
pub record Accepts (l : Lent) : Type 0 where
  pub counts : Counts l
  pub directions : Within 1296000000 l.directions
  pub target : l.kind ≡ Angle → nat_abs l.target ≤ 15552000000
  pub terms : AllSound (length l.directions) (length l.kinds) (term l)

direction_size : (direction q : ℤ) → out_of_range direction q ≡ false → nat_abs direction ≤ 1296000000
direction_size direction q e = omega (arith, (number 1295999999 direction (or_parts _ _ e).0).high)

directions_within : (directions q : List ℤ) → directions_reply directions q ≡ Ok tt → Within 1296000000 directions
unfolding directions_reply
directions_within directions q e h = by_place (dec_lt h (length directions))
  where
    by_place : Dec (h < length directions) → nat_abs (get_or directions h (pos 0)) ≤ 1296000000
    by_place (yes l) =
        direction_size (get_or directions h (pos 0)) (get_or q h (pos 0))
        (none_refused (length directions) (fault_at directions q) (λ h. OutOfRange (h + 1)) e h l)
    by_place (no l) = rw (get_or-eq_default directions (pos 0) {n = h} (omega arith)) (omega arith)

target_size : (kind : Kind) (target : ℤ) → target_check kind target ≡ Ok tt → kind ≡ Angle → nat_abs target ≤ 15552000000
target_size Angle target e k = (number 15552000000 target (if_accepted _ (OutOfRange 0) e)).high
target_size Side target e k = absurd (let z : ◌≡◌ {A = ℕ} 0 1 = cc in omega arith)

pub accepted : (l : Lent) → checks l ≡ Ok tt → Accepts l
unfolding checks terms_check
accepted l e =
    let m = length l.directions in
    let on-counts = both_accepted (refuse_if (counts_fault l) (Count 0)) _ e in
    let on-directions = both_accepted (directions_reply l.directions l.q) _ on-counts.1 in
    let on-target = both_accepted (target_check l.kind l.target) _ on-directions.1 in
    let each = turn_each (λ j. term_check l.kind (pos m) (j + 1) (term l j)) (length l.kinds) on-target.1 in
    record {
      counts = counted l (if_accepted (counts_fault l) (Count 0) on-counts.0);
      directions = directions_within l.directions l.q on-directions.0;
      target = target_size l.kind l.target on-target.0;
      terms = λ j k. sound m (term l j) l.kind (j + 1) (each j k);
    }
