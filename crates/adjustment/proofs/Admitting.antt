-- What the input checks of a lent table reply, and leave known where they accept. Assumes nothing.
--   by_counts, by_lengths, by_directions, by_conditions      the reply of the input checks, each where those before it have accepted
--   Counts, counts_known          from the counts
--   Lengths, lengths_known        from the lengths
--   weight_known                  the range of an inverse weight
--   InRange, directions_known     the ranges of the directions and of q
--   sound_table                   all that the solution needs
--   counts_right, lengths_right, in_ranges, checked      of every lent table that passes them all
--   each_checked                  the same, where each check by itself accepts
--   admits                        what `table::check` cites
use mathlib.Core.Path.{◌≡◌, refl, sym, ◌∙◌, ap, subst}
use mathlib.Core.Bool.{Bool, true, false, ◌||◌, not, cond}
use mathlib.Core.List.{List, [], ◌∷◌}
use Prim.Native.Nat.{ℕ, ◌+◌, ◌*◌, ◌≤◌, ◌<◌}
use native.Mathlib.Omega.{arith}
use borrow.Author.Tests.{ltb-false, eqb-true, not-false}
use lib.Dec.{ltb, eqb}
use lib.ListN.{length}
use lib.IntN.{ℤ, pos, nat_abs, ◌-ℤ◌}
use lib.Signed.{lt_z, ◌≤ℤ◌}
use Rattle.exact.specs.Circle.{C}
use Rattle.exact.specs.Outside.{outside}
use Rattle.exact.proofs.Linear.{unknowns, orders, one_sided}
use Rattle.exact.proofs.Order.{lt_false}
use Rattle.exact.proofs.Searching.{all_failed}
use Rattle.std.proofs.lemmas.Bool.{or_parts}
use Rattle.reply.specs.declared.Refusal.{Refusal}
use Rattle.reply.specs.declared.Refusal.TheVariants.{Count, OutOfRange, Coefficient, Misclosure}
use Rattle.reply.specs.Reply.{Reply}
use Rattle.reply.specs.Checks.{refuse_if, ◌and_then◌}
use Rattle.reply.proofs.Checking.{none_refused, both_accepted, if_accepted}
use Rattle.direction.specs.Ranges.{weight_out_of_range, out_of_range, fault_at, directions_reply}
use Rattle.doolittle.specs.Table.{at, table_of}
use Rattle.adjustment.specs.Refusals.{counts_amiss, differs, lengths_amiss, coefficient_fault, misclosure_fault, conditions_reply, input_reply}
use Rattle.doolittle.specs.Inner.{Sound}
use Rattle.std.specs.Prelude.{Ok, Err}
use Rattle.adjustment.specs.Inner.{Checked}

-- ---- the reply; the six numbers are the lengths of the answer lists
module _ (ds qs cs ws : List ℤ) (v u adjusted k r Q : ℕ) where
  abbrev lengths_amiss_lem : Bool
  lengths_amiss_lem = lengths_amiss (length ds) (length ws) (length qs) (length cs) v u adjusted k r Q

  pub by_counts : counts_amiss (length ds) (length ws) ≡ true → input_reply ds qs cs ws v u adjusted k r Q ≡ Err (Count 0)
  unfolding input_reply
  by_counts e = rw e

  module _ (a : counts_amiss (length ds) (length ws) ≡ false) where
    pub by_lengths : lengths_amiss_lem ≡ true → input_reply ds qs cs ws v u adjusted k r Q ≡ Err (Count 0)
    unfolding input_reply
    by_lengths e = rw (a, e)

    module _ (b : lengths_amiss_lem ≡ false) where
      pub by_directions : {why : Refusal} → directions_reply ds qs ≡ Err why → input_reply ds qs cs ws v u adjusted k r Q ≡ Err why
      unfolding input_reply
      by_directions e = rw (a, b, e)

      pub by_conditions : directions_reply ds qs ≡ Ok tt → input_reply ds qs cs ws v u adjusted k r Q ≡ conditions_reply (table_of qs cs ws)
      unfolding input_reply
      by_conditions e = rw (a, b, e)

-- ---- what is known where they accept
pub record Counts (m n : ℕ) : Type 0 where
  pub m_most : m ≤ 64
  pub n_least : 1 ≤ n
  pub n_most : n ≤ 24

pub counts_known : (m n : ℕ) → counts_amiss m n ≡ false → Counts m n
unfolding counts_amiss
counts_known m n e =
    let a = or_parts (ltb m 1) (ltb 64 m || (ltb n 1 || (ltb 24 n || ltb m n))) e in
    let b = or_parts (ltb 64 m) (ltb n 1 || (ltb 24 n || ltb m n)) a.1 in
    let c = or_parts (ltb n 1) (ltb 24 n || ltb m n) b.1 in
    let d = or_parts (ltb 24 n) (ltb m n) c.1 in
    record { m_most = ltb-false 64 m b.0; n_least = ltb-false n 1 c.0; n_most = ltb-false 24 n d.0 }

equal : (x y : ℕ) → not (eqb x y) ≡ false → x ≡ y
equal x y e = eqb-true x y (not-false (eqb x y) e)

same_as : (count x y z : ℕ) → differs count x y z ≡ false → (x ≡ count) × (y ≡ count) × (z ≡ count)
unfolding differs
same_as count x y z e =
    let a = or_parts (not (eqb x count)) (not (eqb y count) || not (eqb z count)) e in
    let b = or_parts (not (eqb y count)) (not (eqb z count)) a.1 in
    (equal x count a.0, equal y count b.0, equal z count b.1)

pub record Lengths (m n q a v u adjusted k r Q : ℕ) : Type 0 where
  pub of_q : q ≡ m
  pub of_a : a ≡ n * m
  pub by_direction : (v ≡ m) × (u ≡ m) × (adjusted ≡ m)
  pub by_condition : (k ≡ n) × (r ≡ n) × (Q ≡ n)

pub lengths_known : (m n q a v u adjusted k r Q : ℕ) → lengths_amiss m n q a v u adjusted k r Q ≡ false → Lengths m n q a v u adjusted k r Q
unfolding lengths_amiss
lengths_known m n q a v u adjusted k r Q e =
    let f = or_parts (not (eqb q m)) (not (eqb a (n * m)) || (differs m v u adjusted || differs n k r Q)) e in
    let g = or_parts (not (eqb a (n * m))) (differs m v u adjusted || differs n k r Q) f.1 in
    let h = or_parts (differs m v u adjusted) (differs n k r Q) g.1 in
    record { of_q = equal q m f.0; of_a = equal a (n * m) g.0; by_direction = same_as m v u adjusted h.0; by_condition = same_as n k r Q h.1 }

-- ---- a direction and its q in range
pub record InRange (direction q : ℤ) : Type 0 where
  pub size : nat_abs direction ≤ 1296000000
  pub q_least : pos 1 ≤ℤ q
  pub q_most : nat_abs q ≤ 10

pub weight_known : (q : ℤ) → weight_out_of_range q ≡ false → (pos 1 ≤ℤ q) × (nat_abs q ≤ 10)
weight_known q e = let h = or_parts (lt_z q (pos 1)) (lt_z (pos 10) q) e in (lt_false h.0 refl refl, small q (lt_false h.0 refl refl) (lt_false h.1 refl refl))
  where
    small : (q : ℤ) → pos 1 ≤ℤ q → q ≤ℤ pos 10 → nat_abs q ≤ 10
    small q a b = let v = unknowns (q ∷ []) in omega (arith, orders, one_sided)

in_range : (d q : ℤ) → out_of_range d q ≡ false → InRange d q
in_range d q e =
    let f = or_parts (outside (pos 0) (C -ℤ pos 1) d) (weight_out_of_range q) e in
    let g = or_parts (lt_z d (pos 0)) (lt_z (C -ℤ pos 1) d) f.0 in
    let w = weight_known q f.1 in
    record { size = within d (lt_false g.0 refl refl) (lt_false g.1 refl refl); q_least = w.0; q_most = w.1 }
  where
    within : (d : ℤ) → pos 0 ≤ℤ d → d ≤ℤ pos 1295999999 → nat_abs d ≤ 1296000000
    within d a b = let v = unknowns (d ∷ []) in omega (arith, orders, one_sided)

pub directions_known : (ds qs : List ℤ) → directions_reply ds qs ≡ Ok tt → (i : ℕ) → i < length ds → InRange (at ds i) (at qs i)
unfolding directions_reply
directions_known ds qs e i l = in_range (at ds i) (at qs i) (none_refused (length ds) (fault_at ds qs) (λ i. OutOfRange (i + 1)) e i l)

-- ---- the table
pub sound_table : (ds qs cs ws : List ℤ) → Counts (length ds) (length ws) → length qs ≡ length ds → length cs ≡ length ws * length ds → directions_reply ds qs ≡ Ok tt → conditions_reply (table_of qs cs ws) ≡ Ok tt → Sound qs cs ws
unfolding conditions_reply coefficient_fault misclosure_fault
sound_table ds qs cs ws c q a d e =
    let t = table_of qs cs ws in
    let range : (i : ℕ) → i < t.m → InRange (at ds i) (at qs i) = λ i l. directions_known ds qs d i (omega (arith, q)) in
    let sound : (j : ℕ) → j < t.n → (coefficient_fault t j ≡ false) × (misclosure_fault t j ≡ false) =
    λ j l. or_parts (coefficient_fault t j) (misclosure_fault t j) (none_refused t.n (λ j. coefficient_fault t j || misclosure_fault t j) (λ j. cond (coefficient_fault t j) (Coefficient (j + 1)) (Misclosure (j + 1))) e j l) in
    record {
      m_most = subst (λ (m : ℕ). m ≤ 64) (sym q) c.m_most;
      n_most = c.n_most;
      long = a ∙ ap (λ (m : ℕ). length ws * m) (sym q);
      q_least = λ i l. (range i l).q_least;
      q_most = λ i l. (range i l).q_most;
      a_most = λ j l i h. ltb-false 2000 (nat_abs (t.a j i)) (all_failed t.m (λ i. ltb 2000 (nat_abs (t.a j i))) (sound j l).0 i h);
      w_most = λ j l. ltb-false 1000000 (nat_abs (t.w j)) (sound j l).1;
    }

-- ---- of every lent table that passes them all; the six numbers are the lengths of the answer lists
module _ (ds qs cs ws : List ℤ) (v u adjusted k r Q : ℕ) (passed : input_reply ds qs cs ws v u adjusted k r Q ≡ Ok tt) where
  abbrev amiss : Bool
  amiss = lengths_amiss (length ds) (length ws) (length qs) (length cs) v u adjusted k r Q

  abbrev by_tables : Reply
  by_tables = directions_reply ds qs and_then conditions_reply (table_of qs cs ws)

  counted : (refuse_if (counts_amiss (length ds) (length ws)) (Count 0) ≡ Ok tt) × ((refuse_if amiss (Count 0) and_then by_tables) ≡ Ok tt)
  unfolding input_reply
  counted = both_accepted (refuse_if (counts_amiss (length ds) (length ws)) (Count 0)) (refuse_if amiss (Count 0) and_then by_tables) passed

  measured : (refuse_if amiss (Count 0) ≡ Ok tt) × (by_tables ≡ Ok tt)
  measured = both_accepted (refuse_if amiss (Count 0)) by_tables counted.1

  pub counts_right : counts_amiss (length ds) (length ws) ≡ false
  counts_right = if_accepted (counts_amiss (length ds) (length ws)) (Count 0) counted.0

  pub lengths_right : Lengths (length ds) (length ws) (length qs) (length cs) v u adjusted k r Q
  lengths_right = lengths_known (length ds) (length ws) (length qs) (length cs) v u adjusted k r Q (if_accepted amiss (Count 0) measured.0)

  pub in_ranges : (directions_reply ds qs ≡ Ok tt) × (conditions_reply (table_of qs cs ws) ≡ Ok tt)
  in_ranges = both_accepted (directions_reply ds qs) (conditions_reply (table_of qs cs ws)) measured.1

  pub checked : Checked ds qs cs ws v u adjusted k r Q
  checked =
      let l = lengths_right in let q = sym l.of_q in
      record {
        sound = sound_table ds qs cs ws (counts_known (length ds) (length ws) counts_right) l.of_q l.of_a in_ranges.0 in_ranges.1;
        directions = q;
        in_circle = λ i h. (directions_known ds qs in_ranges.0 i (omega (arith, l.of_q))).size;
        by_direction = (l.by_direction.0 ∙ q, l.by_direction.1 ∙ q, l.by_direction.2 ∙ q);
        by_condition = l.by_condition;
      }

-- where each check accepts
pub each_checked : (ds qs cs ws : List ℤ) (v u adjusted k r Q : ℕ) → counts_amiss (length ds) (length ws) ≡ false → lengths_amiss (length ds) (length ws) (length qs) (length cs) v u adjusted k r Q ≡ false
    → directions_reply ds qs ≡ Ok tt → conditions_reply (table_of qs cs ws) ≡ Ok tt → Checked ds qs cs ws v u adjusted k r Q
each_checked ds qs cs ws v u adjusted k r Q a b d e = checked ds qs cs ws v u adjusted k r Q (by_conditions ds qs cs ws v u adjusted k r Q a b d ∙ e)

-- what `table::check` cites
pub ruleset admits = (counts_known, lengths_known)
