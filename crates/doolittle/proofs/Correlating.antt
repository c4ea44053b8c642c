-- The correlates. Assumes nothing.
--   K_rule                  the rules' own equation of K
--   triangle_within         the rows of a table, none weak, are within what the correlates need
--   next_correlate          a row and the correlates below it give the next one
--   none_large, first_large what a loop in back order has found
--   one_before              a list written from the back
use mathlib.Core.Path.{◌≡◌, sym, ◌∙◌, ap, ap₂, subst}
use mathlib.Core.Bool.{Bool}
use mathlib.Core.List.{List}
use Prim.Native.Nat.{ℕ, zero, suc, ◌+◌, ◌-◌, ◌≤◌, ◌<◌}
use native.Mathlib.Nat.{zero-add, suc-add, le_refl}
use native.Mathlib.Omega.{arith}
use native.Mathlib.Decide.{dec_le}
use borrow.Author.Tests.{lt-ltb, le-ltb}
use lib.Dec.{ltb}
use lib.ListN.{length, get_or, set}
use lib.Seq.{get_or-set_same, get_or-set_other}
use lib.IntN.{ℤ, pos, neg_ℤ, nat_abs, ◌+ℤ◌, ◌*ℤ◌}
use Rattle.exact.specs.Sum.{sum}
use Rattle.exact.specs.Nearest.{nearest}
use Rattle.exact.specs.First.{first}
use Rattle.exact.proofs.Sum.{sum_ext}
use Rattle.exact.proofs.Searching.{Failed, first_at, first_none}
use Rattle.doolittle.specs.Table.{Table, at}
use Rattle.doolittle.specs.Solution.{D, L, M, carried, back, K}
use Rattle.doolittle.specs.Inner.{Triangle, BackWithin, From, back_of, cell}
use Rattle.doolittle.proofs.Reducing.{sound_at}

-- a list written from the back: what holds of all places after j and of the value at j holds from j on
pub one_before : (Q : ℕ → ℤ → Type 0) (k : List ℤ) (left n : ℕ) (v : ℤ) → 0 < left → left ≤ length k → From left n (λ h. Q h (get_or k h (pos 0))) → Q (left - 1) v → From (left - 1) n (λ h. Q h (get_or (set k (left - 1) v) h (pos 0)))
one_before Q k left n v p l f q h a b = by_place (dec_le left h)
  where
    by_place : Dec (left ≤ h) → Q h (get_or (set k (left - 1) v) h (pos 0))
    by_place (yes c) = rw (get_or-set_other k (left - 1) h v (pos 0) (λ e. omega arith)) (f h c b)
    by_place (no c) = let e : left - 1 ≡ h = omega arith in subst (λ (i : ℕ). Q i (get_or (set k (left - 1) v) i (pos 0))) e (rw (get_or-set_same k (left - 1) v (pos 0) (omega arith)) q)

module _ (t : Table) where
  -- the correlates of the last b rows are the end of those of the last c + b
  suffix : (l : ℕ → ℤ) (c b e : ℕ) → get_or (back t l (c + b)) (c + e) (pos 0) ≡ get_or (back t l b) e (pos 0)
  unfolding back
  suffix l zero b e = rw (zero-add b, zero-add e)
  suffix l (suc c) b e = rw (suc-add c b, suc-add c e) (suffix l c b e)

  abbrev next : (K : ℕ → ℤ) (j : ℕ) → ℤ
  next K j = nearest (neg_ℤ (pos 10000 *ℤ L t j)) (D t j j) +ℤ sum (t.n - suc j) (λ e. carried (M t j (suc j + e)) (K (suc j + e)))

  head_is : (b j : ℕ) → t.n - suc b ≡ j → get_or (back t (L t) (suc b)) 0 (pos 0) ≡ nearest (neg_ℤ (pos 10000 *ℤ L t j)) (D t j j) +ℤ sum b (λ e. carried (M t j (suc j + e)) (get_or (back t (L t) b) e (pos 0)))
  unfolding back
  head_is b j e = ap (λ (j : ℕ). nearest (neg_ℤ (pos 10000 *ℤ L t j)) (D t j j) +ℤ sum b (λ e. carried (M t j (suc j + e)) (get_or (back t (L t) b) e (pos 0)))) e

  pub K_rule : (j : ℕ) → j < t.n → K t j ≡ next (K t) j
  unfolding K
  K_rule j h =
      let b = t.n - suc j in
      let whole : t.n ≡ j + suc b = omega arith in let rest : t.n ≡ suc j + b = omega arith in let at : j ≡ j + 0 = omega arith in
      ap₂ (λ (n k : ℕ). get_or (back t (L t) n) k (pos 0)) whole at ∙ suffix (L t) j (suc b) 0 ∙ head_is b j (omega arith)
      ∙ ap (λ (z : ℤ). nearest (neg_ℤ (pos 10000 *ℤ L t j)) (D t j j) +ℤ z)
      (sum_ext b (λ e. carried (M t j (suc j + e)) (get_or (back t (L t) b) e (pos 0))) (λ e. carried (M t j (suc j + e)) (get_or (back t (L t) t.n) (suc j + e) (pos 0)))
      (λ e l. ap (carried (M t j (suc j + e))) (sym (ap (λ (n : ℕ). get_or (back t (L t) n) (suc j + e) (pos 0)) rest ∙ suffix (L t) (suc j) b e))))

  -- ---- the code's rows
  module _ (rows : List (List ℤ)) (r : Triangle t rows) where
    pub triangle_within : (j : ℕ) → j < t.n → BackWithin j t.n rows
    unfolding M
    triangle_within j l =
        let g = sound_at t j (r.sound j l) in let row = r.all.reduced j l in
        record {
          constant = rw row.constant g.constant;
          pivot = rw (row.coefficients j (le_refl j) l) g.pivot.0;
          multipliers = λ k h i. rw (r.all.multiplied j l k h i) (g.multipliers k h i);
        }

    pub next_correlate : (j : ℕ) (k : List ℤ) → j < t.n → From (suc j) t.n (λ e. at k e ≡ K t e) → back_of rows k j t.n ≡ K t j
    next_correlate j k l f =
        let row = r.all.reduced j l in
        ap₂ ◌+ℤ◌ (ap₂ (λ (x y : ℤ). nearest (neg_ℤ (pos 10000 *ℤ x)) y) row.constant (row.coefficients j (le_refl j) l))
        (sum_ext (t.n - suc j) (λ e. carried (cell rows (suc j + e) j) (at k (suc j + e))) (λ e. carried (M t j (suc j + e)) (K t (suc j + e)))
        (λ e i. ap₂ carried (r.all.multiplied j l (suc j + e) (omega arith) (omega arith)) (f (suc j + e) (omega arith) (omega arith))))
        ∙ sym (K_rule j l)

  -- ---- in back order
  abbrev large : ℕ → Bool
  large b = ltb 100000000 (nat_abs (K t (t.n - suc b)))

  module _ (left : ℕ) (h : left ≤ t.n) (f : From left t.n (λ j. nat_abs (K t j) ≤ 100000000)) where
    none_before : Failed large (t.n - left)
    none_before b l = le-ltb 100000000 (nat_abs (K t (t.n - suc b))) (f (t.n - suc b) (omega arith) (omega arith))

    pub first_large : (j : ℕ) → left ≡ j + 1 → 100000000 < nat_abs (K t j) → first t.n large ≡ t.n - left
    first_large j e g =
        let at : j ≡ t.n - suc (t.n - left) = omega arith in
        first_at t.n large (t.n - left) (omega arith) none_before (lt-ltb 100000000 (nat_abs (K t (t.n - suc (t.n - left)))) (subst (λ (i : ℕ). 100000000 < nat_abs (K t i)) at g))

    pub none_large : left ≡ 0 → first t.n large ≡ t.n - left
    none_large e =
        let at : t.n - left ≡ t.n = omega arith in
        first_none t.n large (subst (Failed large) at none_before) ∙ sym at
