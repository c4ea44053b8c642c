-- Laws of what a term adds to the coefficients. Assumes nothing.
--   tally_none, placed_more               a tally to which nothing was added; one number of a list raised by x
--   tally_of, any_below                   what a tally holds of directions 1 to m, and the test of it
--   placed_size, share_size, tally_size   sizes: a number at one place, what a term adds to one direction, and what n terms add
--   placed_sum, turned_sum                a number added at one place alone; an angle's two parts cancel
--   share_sum                             over all directions, number 0 counted in, a term adds nothing
--   coefficients_sum                      and so do the coefficients of a whole condition
--   sound_among                           a term that is sound among m directions is sound among more
--   passed_sound, passed_sum              the terms that the checks answer are sound, and are those that were lent
--   passed_coefficients, passed_test      what their tally holds of directions 1 to m, and the test of it
use mathlib.Core.Path.{◌≡◌, refl, sym, ◌∙◌, ap, subst}
use mathlib.Core.Bool.{Bool, true, false, cond, ◌||◌}
use mathlib.Core.List.{List}
use Prim.Native.Nat.{ℕ, zero, suc, ◌<◌, ◌≤◌}
use native.Mathlib.Omega.{arith}
use borrow.Author.Tests.{eq-eqb, ne_eqb, eqb-true, eqb-false}
use lib.Dec.{eqb, ltb}
use lib.IntN.{ℤ, pos, neg_ℤ, nat_abs, ◌+ℤ◌, +ℤ_idr, +ℤ_invl}
use lib.ListN.{length, get_or, set, replicate}
use lib.Seq.{get_or-set_same, get_or-set_other}
use Rattle.std.proofs.Common.{take, drop, ◌+◌, ◌-◌}
use Rattle.std.specs.List.{list_any}
use Rattle.std.proofs.lemmas.Grind.{common_steps}
use Rattle.std.proofs.lemmas.Bool.Decides.{nat_tests}
use Rattle.exact.specs.First.{first, some_below}
use Rattle.exact.specs.Tabulate.{tabulate}
use Rattle.exact.specs.Sum.{sum}
use Rattle.exact.proofs.Filling.{tabulate_is, tabulate_ext}
use Rattle.exact.proofs.Bound.{abs_add, abs_neg}
use Rattle.exact.proofs.Sum.{sum_ext, sum_add, sum_zero, sum_only, sum_swap, sum_abs}
use Rattle.condition.specs.declared.term.Letter.{Letter}
use Rattle.condition.specs.declared.term.Letter.TheVariants.{P, F, L, R}
use Rattle.condition.specs.declared.term.Term.{Term}
use Rattle.condition.specs.Terms.{placed, turned, share_of, share}
use Rattle.condition.specs.declared.terms.Terms.{Terms}
use Rattle.condition.specs.Rules.{Lent, term, checks, coefficient, beyond}
use Rattle.condition.specs.Listed.{count, listed, Passed}
use Rattle.condition.specs.Sound.{Number, Ends, SideTerm, SoundOf, Sound, AllSound}
use Rattle.condition.proofs.Accepting.{accepted}
use Rattle.std.specs.Prelude.{Ok, Option, Some, None}

-- ---- a tally
pub tally_none : (m n : ℕ) → get_or (replicate m (pos 0)) n (pos 0) ≡ pos 0
tally_none zero n = refl
tally_none (suc m) zero = refl
tally_none (suc m) (suc n) = tally_none m n

-- what it holds of directions 1 to m
pub tally_of : (tally : List ℤ) (m : ℕ) (f : ℕ → ℤ) → m < length tally → ((n : ℕ) → get_or tally n (pos 0) ≡ f n)
    → take (m + 1 - 1) (drop 1 tally) ≡ tabulate m (λ h. f (h + 1))
tally_of tally m f l is = tabulate_is (pos 0) m _ _ (grind (arith, common_steps)) (λ h k. grind (arith, common_steps, is (h + 1)))

pub any_below : (p : ℤ → Bool) (n : ℕ) (f : ℕ → ℤ) → list_any p (tabulate n f) ≡ some_below n (λ h. p (f h))
unfolding tabulate first
any_below p zero f = refl
any_below p (suc n) f = by_test (p (f 0)) (any_below p n (λ h. f (suc h)))
  where
    by_test : (b : Bool) → list_any p (tabulate n (λ h. f (suc h))) ≡ some_below n (λ h. p (f (suc h)))
        → (b || list_any p (tabulate n (λ h. f (suc h)))) ≡ ltb (cond b 0 (suc (first n (λ h. p (f (suc h)))))) (suc n)
    by_test true e = grind (arith, nat_tests)
    by_test false e = e ∙ grind (arith, nat_tests)

-- one number raised
pub placed_more : (xs : List ℤ) (h : ℕ) (x : ℤ) → h < length xs → (n : ℕ) →
    get_or (set xs h (get_or xs h (pos 0) +ℤ x)) n (pos 0) ≡ get_or xs n (pos 0) +ℤ placed h x n
placed_more xs h x l n = by_test (eqb h n) refl
  where
    by_test : (b : Bool) → eqb h n ≡ b → get_or (set xs h (get_or xs h (pos 0) +ℤ x)) n (pos 0) ≡ get_or xs n (pos 0) +ℤ cond b x (pos 0)
    by_test true e =
        subst (λ (n : ℕ). get_or (set xs h (get_or xs h (pos 0) +ℤ x)) n (pos 0) ≡ get_or xs n (pos 0) +ℤ x) (eqb-true h n e)
        (get_or-set_same xs h (get_or xs h (pos 0) +ℤ x) (pos 0) l)
    by_test false e =
        get_or-set_other xs h n (get_or xs h (pos 0) +ℤ x) (pos 0) (λ f. eqb-false h n e (sym f)) ∙ sym (+ℤ_idr (get_or xs n (pos 0)))

-- ---- sizes
pub placed_size : (b h : ℕ) (x : ℤ) → nat_abs x ≤ b → (n : ℕ) → nat_abs (placed h x n) ≤ b
placed_size b h x l n = by_test (eqb h n)
  where
    by_test : (t : Bool) → nat_abs (cond t x (pos 0)) ≤ b
    by_test true = l
    by_test false = omega arith

module _ (t : Term) where
  turned_size : (x : ℤ) → nat_abs x ≤ 2000 → (n : ℕ) → nat_abs (turned x t n) ≤ 4000
  turned_size x l n =
      let i-part = placed_size 2000 (nat_abs t.i) (neg_ℤ x) (omega (arith, abs_neg x)) n in
      let k-part = placed_size 2000 (nat_abs t.k) x l n in
      omega (arith, abs_add (placed (nat_abs t.i) (neg_ℤ x) n) (placed (nat_abs t.k) x n))

  of_kind : (letter : Option Letter) (m : ℕ) → SoundOf letter m t → (n : ℕ) → nat_abs (share_of letter t n) ≤ 4000
  of_kind (Some P) m s n = turned_size (pos 100) (omega arith) n
  of_kind (Some F) m s n = omega arith
  of_kind (Some L) m s n = turned_size t.d s.d n
  of_kind (Some R) m s n = turned_size (neg_ℤ t.d) (omega (arith, abs_neg t.d, s.d)) n
  of_kind None m s n = omega arith

  pub share_size : (m : ℕ) → Sound m t → (n : ℕ) → nat_abs (share t n) ≤ 4000
  unfolding share
  share_size m s n = of_kind t.letter m s n

pub tally_size : (m n : ℕ) (term : ℕ → Term) → n ≤ 12 → AllSound m n term → (h : ℕ) → nat_abs (sum n (λ j. share (term j) h)) ≤ 48000
tally_size m n term few s h = omega (arith, sum_abs n 4000 (λ j. share (term j) h) (λ j l. share_size (term j) m (s j l) h))

-- ---- sums over the direction numbers 0 to m
pub placed_sum : (h : ℕ) (x : ℤ) (n : ℕ) → h < n → sum n (placed h x) ≡ x
placed_sum h x n l =
    sum_only n h (placed h x) l (λ i k e t. cond (ne_eqb h i (λ d. e (sym d)) t) x (pos 0))
    ∙ (λ t. cond (eq-eqb h h refl t) x (pos 0))

module _ (m : ℕ) (t : Term) where
  pub turned_sum : (x : ℤ) → Ends m t → sum (suc m) (turned x t) ≡ pos 0
  turned_sum x e =
      sum_add (suc m) (placed (nat_abs t.i) (neg_ℤ x)) (placed (nat_abs t.k) x)
      ∙ (λ d. placed_sum (nat_abs t.i) (neg_ℤ x) (suc m) (omega (arith, e.i.high)) d +ℤ placed_sum (nat_abs t.k) x (suc m) (omega (arith, e.k.high)) d)
      ∙ +ℤ_invl x

  none_of_kind : (letter : Option Letter) → SoundOf letter m t → sum (suc m) (share_of letter t) ≡ pos 0
  none_of_kind (Some P) s = turned_sum (pos 100) s
  none_of_kind (Some F) s = sum_zero (suc m)
  none_of_kind (Some L) s = turned_sum t.d s.ends
  none_of_kind (Some R) s = turned_sum (neg_ℤ t.d) s.ends
  none_of_kind None s = sum_zero (suc m)

  pub share_sum : Sound m t → sum (suc m) (share t) ≡ pos 0
  unfolding share
  share_sum s = none_of_kind t.letter s

pub coefficients_sum : (l : Lent) → checks l ≡ Ok tt → sum (suc (length l.directions)) (coefficient l) ≡ pos 0
unfolding coefficient
coefficients_sum l e =
    let m = length l.directions in let n = length l.kinds in
    sum_swap (suc m) n (λ h j. share (term l j) h)
    ∙ sum_ext n (λ j. sum (suc m) (share (term l j))) (λ j. pos 0) (λ j k. share_sum m (term l j) ((accepted l e).terms j k))
    ∙ sum_zero n

-- ---- soundness among more directions
module _ (m r : ℕ) (t : Term) (more : m ≤ r) where
  wider : (z : ℤ) → Number m z → Number r z
  wider z n = record { low = n.low; high = omega (arith, n.high) }

  wider_ends : Ends m t → Ends r t
  wider_ends e = record { i = wider t.i e.i; k = wider t.k e.k }

  wider_side : SideTerm m t → SideTerm r t
  wider_side s = record { value = s.value; d = s.d; ends = wider_ends s.ends }

  wider_of_kind : (letter : Option Letter) → SoundOf letter m t → SoundOf letter r t
  wider_of_kind (Some P) s = wider_ends s
  wider_of_kind (Some F) s = s
  wider_of_kind (Some L) s = wider_side s
  wider_of_kind (Some R) s = wider_side s
  wider_of_kind None s = tt

  pub sound_among : Sound m t → Sound r t
  sound_among s = wider_of_kind t.letter s

-- ---- the terms that the checks answer
module _ {l : Lent} {t : Terms} (p : Passed l t) where
  pub passed_sound : AllSound (length l.directions) (count t) (listed t)
  passed_sound j k =
      subst (λ (f : ℕ → Term). Sound (length l.directions) (f j)) (sym p.listed) ((accepted l p.checked).terms j (omega (arith, p.count)))

  pub passed_sum : (f : Term → ℤ) → sum (count t) (λ j. f (listed t j)) ≡ sum (length l.kinds) (λ j. f (term l j))
  passed_sum f = λ i. sum (p.count i) (λ j. f (p.listed i j))

  module _ (sums found : List ℤ) where
    pub passed_coefficients : ((n : ℕ) → get_or sums n (pos 0) ≡ sum (count t) (λ j. share (listed t j) n))
        → found ≡ tabulate (length l.directions) (λ h. get_or sums (h + 1) (pos 0)) → found ≡ tabulate (length l.directions) (λ h. coefficient l (h + 1))
    unfolding coefficient
    passed_coefficients s e = e ∙ tabulate_ext (length l.directions) _ _ (λ h k. s (h + 1) ∙ passed_sum (λ t. share t (h + 1)))

    pub passed_test : found ≡ tabulate (length l.directions) (λ h. coefficient l (h + 1)) → list_any (λ x. ltb 2000 (nat_abs x)) found ≡ beyond l
    passed_test e = ap (list_any (λ x. ltb 2000 (nat_abs x))) e ∙ any_below _ _ _
