-- Laws of one line of the reports that are added up. Assumes nothing.
--   natural, natural_told                            a number that has no minus, as `u64::try_from` and `ok` give it
--   entry_below, entry_second_below, entry_numbers   the numbers of a line, by their signs
--   no_numbers, some_numbers                         what a line says, by what the reader of its numbers told
--   other_head, due_head                             and by whether it begins with the head that is due
--   fits, second_fits                                totals that do not pass 18 digits have room for what is added
--   not_passing, ill_entered, well_entered_lem       a line that has been read, by whether it is at fault; line_due: where none was before
use mathlib.Core.Path.{◌≡◌, refl, sym, ◌∙◌, ap}
use mathlib.Core.Bool.{Bool, true, false, cond, ◌&&◌, not}
use mathlib.Core.List.{List, [], ◌∷◌, ◌++◌}
use Rattle.std.specs.Prelude.{Option, None, Some}
use Rattle.std.specs.Option.{is_some}
use Prim.Native.Nat.{ℕ, ◌+◌, ◌≤◌}
use native.Mathlib.Omega.{arith}
use lib.IntN.{ℤ, pos, negsuc, nat_abs}
use lib.ListN.{length, get_or}
use Rattle.std.proofs.lemmas.Bool.{or_parts}
use Rattle.text.specs.Parts.{begins}
use Rattle.text.specs.Fields.{TAB}
use Rattle.text.specs.Rows.{row_within}
use Rattle.totals.specs.Promise.{too_large}
use Rattle.totals.specs.Text.{head_of, place_of, pair_on}
use Rattle.totals.specs.Adding.{entry_with, entry_of, entry_at, miscounted, passes, fault_in, entered_with, faulty, well_entered, counted_after, past_after, entered, after_line}
use Rattle.totals.specs.declared.adding.Tally.{Tally}
use Rattle.totals.proofs.Promising.{small_at}
use Rattle.exact.proofs.Bound.{read}
use Rattle.std.proofs.Common.{Result, Ok, Err, FitsSigned, w64, to_z, of_z, subst}
use Rattle.std.specs.Result.{OkIff, result_ok}
use Rattle.std.specs.Int.{FitsUnsignedBits}

-- ---- the numbers of a line
-- a number that has no minus
abbrev pub natural : ℤ → Option ℕ
natural (pos x) = Some x
natural (negsuc x) = None

-- `u64::try_from` and `ok` give it
natural_of : {E : Type 0} (r : Result ℕ E) (z : ℤ) → FitsSigned w64 z → OkIff r (FitsUnsignedBits 64 z) (nat_abs z) → result_ok r ≡ natural z
natural_of (Ok n) (pos x) f t = ap Some t.1
natural_of (Ok n) (negsuc x) f t = absurd t.0
natural_of (Err e) (pos x) f t = absurd (t (omega (arith, f.sfits)))
natural_of (Err e) (negsuc x) f t = refl

pub natural_told : {E : Type 0} (r : Result ℕ E) {o : Option ℕ} (z : ℤ) → FitsSigned w64 z
    → OkIff r (FitsUnsignedBits 64 (to_z w64 (of_z w64 z))) (nat_abs (to_z w64 (of_z w64 z))) → o ≡ result_ok r → o ≡ natural z
natural_told r z f t e = e ∙ natural_of r z f (subst (λ (y : ℤ). OkIff r (FitsUnsignedBits 64 y) (nat_abs y)) (read f) t)

pub entry_below : (x y : ℤ) → natural x ≡ None → None ≡ entry_with x y
unfolding entry_with
entry_below (pos x) y h = cc
entry_below (negsuc x) y h = refl

pub entry_second_below : (x y : ℤ) {m : ℕ} → natural x ≡ Some m → natural y ≡ None → None ≡ entry_with x y
unfolding entry_with
entry_second_below (pos x) (pos y) g h = cc
entry_second_below (pos x) (negsuc y) g h = refl
entry_second_below (negsuc x) y g h = cc

pub entry_numbers : (x y : ℤ) {m n : ℕ} → natural x ≡ Some m → natural y ≡ Some n → Some (m, n) ≡ entry_with x y
unfolding entry_with
entry_numbers (pos x) (pos y) g h = cc
entry_numbers (pos x) (negsuc y) g h = cc
entry_numbers (negsuc x) y g h = cc

-- what the reader of the row told
module _ {row : Option (List ℤ)} where
  pub no_numbers : row ≡ None → None ≡ entry_of row
  unfolding entry_of
  no_numbers e = rw e

  pub some_numbers : (x : List ℤ) → row ≡ Some x → entry_with (get_or x 0 (pos 0)) (get_or x 1 (pos 0)) ≡ entry_of row
  unfolding entry_of
  some_numbers x e = rw e

-- ---- the line that is due
module _ (due : ℕ) (text : List ℕ) where
  pub other_head : begins (head_of due ++ (TAB ∷ [])) text ≡ false → None ≡ entry_at due text
  unfolding entry_at
  other_head e = rw e

  pub due_head : begins (head_of due ++ (TAB ∷ [])) text ≡ true → entry_of (row_within 18 text (length (head_of due) + 1) (cond (pair_on due) 2 1)) ≡ entry_at due text
  unfolding entry_at
  due_head e = rw e

-- ---- totals that do not pass 18 digits
module _ (sum : List ℕ) (due x y : ℕ) (e : passes sum due x y ≡ false) where
  pub fits : get_or sum (place_of due) 0 + x ≤ 18446744073709551615
  unfolding passes
  fits = omega (arith, small_at (place_of due) (get_or sum (place_of due) 0) x (or_parts (too_large (place_of due) (get_or sum (place_of due) 0) x) _ e).0)

  pub second_fits : pair_on due ≡ true → get_or sum (place_of due + 1) 0 + y ≤ 18446744073709551615
  unfolding passes
  second_fits p =
      let second = too_large (place_of due + 1) (get_or sum (place_of due + 1) 0) y in
      omega (
        arith,
        small_at (place_of due + 1) (get_or sum (place_of due + 1) 0) y
            (sym (ap (λ (b : Bool). b && second) p) ∙ (or_parts (too_large (place_of due) (get_or sum (place_of due) 0) x) (pair_on due && second) e).1),
      )

-- ---- a line that has been read
module _ (t : Tally) (past : Bool) (counted x y : ℕ) where
  pub not_passing : fault_in t past counted x y ≡ false → past ≡ false → passes t.sum t.due x y ≡ false
  unfolding fault_in
  not_passing e p = sym (ap (λ (b : Bool). not b && passes t.sum t.due x y) p) ∙ (or_parts (miscounted t.due t.nets counted) (not past && passes t.sum t.due x y) e).1

  module _ (p : past ≡ past_after t.due t.past (get_or t.sum 0 0) x) (q : counted ≡ counted_after t.due t.counted x) where
    pub ill_entered : fault_in t past counted x y ≡ true → faulty t ≡ entered t (Some (x, y))
    unfolding entered entered_with
    ill_entered e = rw (← p, ← q, e)

    pub well_entered_lem : fault_in t past counted x y ≡ false → well_entered t past counted x y ≡ entered t (Some (x, y))
    unfolding entered entered_with
    well_entered_lem e = rw (← p, ← q, e)

-- what the line that is due says is entered, where none has been at fault
pub line_due : (t : Tally) (text : List ℕ) → t.fault ≡ None → after_line t text ≡ entered t (entry_at t.due text)
unfolding after_line
line_due t text e = ap (λ (fault : Option ℕ). cond (is_some fault) t (entered t (entry_at t.due text))) e
