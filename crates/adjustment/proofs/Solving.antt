-- The refusals of the solution, from what the code has found. Assumes nothing.
--   V_size, V_ext                    the corrections of correlates within 10^8, and of equal correlates; u_ext, adjusted_ext, R_ext, Q_ext: so all that follows
--   head_stored, head_first          what is printed of the head of a list of corrections, and the first beyond one minute there
--   same_first, each_within          of numbers tested against a limit in their order: equal ones have the same first beyond it; where none is refused, each is within it
--   closing_is, rounding_is          of any correlates: the remainders of a list that holds their corrections are R, and its numbers rounded are u
--   first_open, first_past           and the first beyond its limit is the same
--   turned_is, missed_is             a direction and its printed correction are the adjusted direction, and what the printed ones leave is Q
--   weak_refused, large_refused, open_refused, past_refused      6, 7, 8 and 9 at their places; first_weak: 6 by the tests of the rows
--   none_too_large, none_open, none_past              where nothing is found, the check accepts
--   all_accepted                     where all four accept, so does the solution
--   remainders_close, corrections_small      what 8 and 9 leave known where they accept, of any correlates
use mathlib.Core.Path.{◌≡◌, sym, ◌∙◌, ap, subst}
use mathlib.Core.Bool.{Bool, true}
use mathlib.Core.List.{List}
use Prim.Native.Nat.{ℕ, suc, ◌+◌, ◌-◌, ◌≤◌, ◌<◌}
use native.Mathlib.Omega.{arith}
use lib.Dec.{ltb}
use borrow.Author.Tests.{ltb-false}
use lib.ListN.{length, take}
use lib.Seq.{length-take-le}
use Rattle.std.proofs.lemmas.List.{get_or-take}
use lib.IntN.{ℤ, pos, nat_abs, ◌+ℤ◌, ◌*ℤ◌}
use Rattle.exact.specs.Sum.{sum}
use Rattle.exact.specs.First.{first}
use Rattle.exact.specs.Nearest.{nearest}
use Rattle.exact.specs.Circle.{C, modulo}
use Rattle.exact.proofs.Bound.{abs_mul, mul_le}
use Rattle.exact.proofs.Sum.{sum_ext}
use Rattle.exact.proofs.Searching.{Failed, first_at, first_before, first_ext}
use Rattle.reply.specs.declared.Refusal.{Refusal}
use Rattle.reply.specs.declared.Refusal.TheVariants.{WeakRow, Correlate, Remainder, Correction}
use Rattle.reply.specs.Checks.{refuse_first}
use Rattle.reply.proofs.Checking.{refuse_first_lem, accept_first, none_refused}
use Rattle.doolittle.specs.Table.{Table, at, table_of}
use Rattle.doolittle.specs.Solution.{N, weak, K}
use Rattle.adjustment.specs.Corrections.{V_of, R_of, u_of, adjusted_of, Q_of}
use Rattle.adjustment.specs.Refusals.{rows_reply, correlates_reply, remainders_reply, corrections_reply, solution_reply}
use Rattle.adjustment.specs.Demand.{seen}
use Rattle.adjustment.specs.Promise.{WithinMinute}
use Rattle.doolittle.specs.Inner.{Sound}
use Rattle.adjustment.specs.Inner.{closing, rounding}
use Rattle.doolittle.proofs.Sizes.{sum_within, product_size}
use Rattle.adjustment.proofs.Demands.{remainder_forms}
use Rattle.std.specs.Prelude.{Ok, Err}

pub V_size : (qs cs ws : List ℤ) → Sound qs cs ws → (k : ℕ → ℤ) → ((j : ℕ) → j < length ws → nat_abs (k j) ≤ 100000000) → (i : ℕ) → i < length qs → nat_abs (V_of (table_of qs cs ws) k i) ≤ 48000000000000
unfolding V_of
V_size qs cs ws s k h i l =
    let t = table_of qs cs ws in
    rw (abs_mul (t.q i) (sum t.n (λ j. t.a j i *ℤ k j)))
    (mul_le (s.q_most i l)
    (sum_within t.n 24 200000000000 (λ j. t.a j i *ℤ k j) s.n_most (λ j e. product_size (t.a j i) (k j) (s.a_most j e i l) (h j e))))

-- V reads the correlates of the n conditions alone
pub V_ext : (t : Table) (k k' : ℕ → ℤ) → ((j : ℕ) → j < t.n → k j ≡ k' j) → (i : ℕ) → V_of t k i ≡ V_of t k' i
unfolding V_of
V_ext t k k' e i = ap (λ (z : ℤ). t.q i *ℤ z) (sum_ext t.n (λ j. t.a j i *ℤ k j) (λ j. t.a j i *ℤ k' j) (λ j l. ap (λ (z : ℤ). t.a j i *ℤ z) (e j l)))

-- and so does all that follows from it
module _ (t : Table) (k k' : ℕ → ℤ) (e : (j : ℕ) → j < t.n → k j ≡ k' j) where
  pub u_ext : (i : ℕ) → u_of t k i ≡ u_of t k' i
  unfolding u_of
  u_ext i = ap (λ (z : ℤ). nearest z (pos 100000)) (V_ext t k k' e i)

  pub adjusted_ext : (direction : ℕ → ℤ) (i : ℕ) → adjusted_of t k direction i ≡ adjusted_of t k' direction i
  unfolding adjusted_of
  adjusted_ext direction i = ap (λ (z : ℤ). modulo (direction i +ℤ z) C) (u_ext i)

  pub R_ext : (j : ℕ) → R_of t k j ≡ R_of t k' j
  unfolding R_of
  R_ext j =
      ap (λ (z : ℤ). z +ℤ pos 10000000 *ℤ t.w j)
      (sum_ext t.n (λ h. N t j h *ℤ k h) (λ h. N t j h *ℤ k' h) (λ h l. ap (λ (z : ℤ). N t j h *ℤ z) (e h l)))

  pub Q_ext : (j : ℕ) → Q_of t k j ≡ Q_of t k' j
  unfolding Q_of
  Q_ext j =
      ap (λ (z : ℤ). pos 100000 *ℤ z +ℤ pos 10000000 *ℤ t.w j)
      (sum_ext t.m (λ i. t.a j i *ℤ u_of t k i) (λ i. t.a j i *ℤ u_of t k' i) (λ i l. ap (λ (z : ℤ). t.a j i *ℤ z) (u_ext i)))

-- ---- the corrections of m directions, at the head of a longer list
module _ (m : ℕ) (vs : List ℤ) (l : m ≤ length vs) where
  pub head_stored : (i : ℕ) → i < m → rounding (at (take m vs)) i ≡ rounding (at vs) i
  head_stored i h = ap (λ (z : ℤ). nearest z (pos 100000)) (get_or-take m vs i (pos 0) h)

  pub head_first : first (length (take m vs)) (λ i. ltb 60000 (nat_abs (rounding (at (take m vs)) i))) ≡ first m (λ i. ltb 60000 (nat_abs (rounding (at vs) i)))
  head_first =
      ap (λ (n : ℕ). first n (λ i. ltb 60000 (nat_abs (rounding (at (take m vs)) i)))) (length-take-le m vs l)
      ∙ first_ext m _ _ (λ i h. ap (λ (z : ℤ). ltb 60000 (nat_abs z)) (head_stored i h))

-- ---- numbers tested against a limit, in their order
abbrev pub beyond : ℕ → (ℕ → ℤ) → ℕ → Bool
beyond most f i = ltb most (nat_abs (f i))

same_first : (n most : ℕ) (f g : ℕ → ℤ) → ((i : ℕ) → i < n → f i ≡ g i) → first n (beyond most f) ≡ first n (beyond most g)
same_first n most f g e = first_ext n (beyond most f) (beyond most g) (λ i l. ap (λ (z : ℤ). ltb most (nat_abs z)) (e i l))

each_within : (n most : ℕ) (f : ℕ → ℤ) (why : ℕ → Refusal) → refuse_first n (beyond most f) why ≡ Ok tt → (i : ℕ) → i < n → nat_abs (f i) ≤ most
each_within n most f why e i l = ltb-false most (nat_abs (f i)) (none_refused n (beyond most f) why e i l)

module _ (t : Table) where
  -- ---- 6
  module _ (sound : ℕ) (e : sound ≡ first t.n (weak t)) where
    pub weak_refused : sound < t.n → Err (WeakRow (sound + 1)) ≡ solution_reply t
    unfolding solution_reply rows_reply
    weak_refused l = rw (refuse_first_lem t.n (weak t) (λ j. WeakRow (j + 1)) sound e l)

  pub first_weak : (j : ℕ) → j < t.n → Failed (weak t) j → weak t j ≡ true → solution_reply t ≡ Err (WeakRow (j + 1))
  first_weak j l f e = sym (weak_refused j (sym (first_at t.n (weak t) j l f e)) l)

  -- ---- 7
  abbrev large : ℕ → Bool
  large b = ltb 100000000 (nat_abs (K t (t.n - suc b)))

  module _ (a : rows_reply t ≡ Ok tt) (from : ℕ) (f : first t.n large ≡ t.n - from) (g : from ≤ t.n) where
    pub large_refused : 0 < from → Err (Correlate from) ≡ solution_reply t
    unfolding solution_reply correlates_reply
    large_refused l =
        let place : t.n - (t.n - from) ≡ from = omega arith in
        rw (a, refuse_first_lem t.n large (λ b. Correlate (t.n - b)) (t.n - from) (sym f) (omega arith), place)

    pub none_too_large : from ≡ 0 → (correlates_reply t ≡ Ok tt) × ((j : ℕ) → j < t.n → nat_abs (K t j) ≤ 100000000)
    unfolding correlates_reply
    none_too_large z = (accept_first t.n large (λ b. Correlate (t.n - b)) (omega arith), within)
      where
        within : (j : ℕ) → j < t.n → nat_abs (K t j) ≤ 100000000
        within j l =
            let i : t.n - suc (t.n - suc j) ≡ j = omega arith in
            subst (λ (h : ℕ). nat_abs (K t h) ≤ 100000000) i (ltb-false 100000000 (nat_abs (K t (t.n - suc (t.n - suc j)))) (first_before t.n large (t.n - suc j) (omega arith)))

  -- ---- of any correlates, by a list that holds their corrections
  module _ (k : ℕ → ℤ) (vs : List ℤ) (v : (i : ℕ) → i < t.m → at vs i ≡ V_of t k i) where
    pub closing_is : (j : ℕ) → closing t (at vs) j ≡ R_of t k j
    closing_is j =
        ap (λ (z : ℤ). z +ℤ pos 10000000 *ℤ t.w j)
        (sum_ext t.m (λ i. t.a j i *ℤ at vs i) (λ i. t.a j i *ℤ V_of t k i) (λ i l. ap (λ (z : ℤ). t.a j i *ℤ z) (v i l)))
        ∙ sym (remainder_forms t k j)

    pub first_open : (close : ℕ) → close ≡ first t.n (beyond 50000000 (closing t (at vs))) → close ≡ first t.n (beyond 50000000 (R_of t k))
    first_open close e = e ∙ same_first t.n 50000000 (closing t (at vs)) (R_of t k) (λ j l. closing_is j)

    pub rounding_is : (i : ℕ) → i < t.m → rounding (at vs) i ≡ u_of t k i
    unfolding u_of
    rounding_is i l = ap (λ (z : ℤ). nearest z (pos 100000)) (v i l)

    pub first_past : (within : ℕ) → within ≡ first t.m (beyond 60000 (rounding (at vs))) → within ≡ first t.m (beyond 60000 (u_of t k))
    first_past within e = e ∙ same_first t.m 60000 (rounding (at vs)) (u_of t k) rounding_is

  -- ---- and by a list that holds what is printed of them
  pub turned_is : (k direction : ℕ → ℤ) (us : List ℤ) (i : ℕ) → at us i ≡ u_of t k i → modulo (direction i +ℤ at us i) C ≡ adjusted_of t k direction i
  unfolding adjusted_of
  turned_is k direction us i e = ap (λ (z : ℤ). modulo (direction i +ℤ z) C) e

  module _ (k : ℕ → ℤ) (us : List ℤ) (u : (i : ℕ) → i < t.m → at us i ≡ u_of t k i) where
    pub missed_is : (j : ℕ) → pos 100000 *ℤ seen t j (at us) +ℤ pos 10000000 *ℤ t.w j ≡ Q_of t k j
    unfolding Q_of
    missed_is j =
        ap (λ (z : ℤ). pos 100000 *ℤ z +ℤ pos 10000000 *ℤ t.w j)
        (sum_ext t.m (λ i. t.a j i *ℤ at us i) (λ i. t.a j i *ℤ u_of t k i) (λ i h. ap (λ (z : ℤ). t.a j i *ℤ z) (u i h)))

  module _ (vs : List ℤ) (v : (i : ℕ) → i < t.m → at vs i ≡ V_of t (K t) i) where
    -- ---- 8
    module _ (close : ℕ) (e : close ≡ first t.n (beyond 50000000 (closing t (at vs)))) where
      pub open_refused : rows_reply t ≡ Ok tt → correlates_reply t ≡ Ok tt → close < t.n → Err (Remainder (close + 1)) ≡ solution_reply t
      unfolding solution_reply remainders_reply
      open_refused a b l = rw (a, b, refuse_first_lem t.n (beyond 50000000 (R_of t (K t))) (λ j. Remainder (j + 1)) close (first_open (K t) vs v close e) l)

      pub none_open : t.n ≤ close → remainders_reply t (K t) ≡ Ok tt
      unfolding remainders_reply
      none_open l = accept_first t.n (beyond 50000000 (R_of t (K t))) (λ j. Remainder (j + 1)) (omega (arith, first_open (K t) vs v close e))

    -- ---- 9
    module _ (within : ℕ) (e : within ≡ first t.m (beyond 60000 (rounding (at vs)))) where
      pub past_refused : rows_reply t ≡ Ok tt → correlates_reply t ≡ Ok tt → remainders_reply t (K t) ≡ Ok tt → within < t.m → Err (Correction (within + 1)) ≡ solution_reply t
      unfolding solution_reply corrections_reply
      past_refused a b c l = rw (a, b, c, refuse_first_lem t.m (beyond 60000 (u_of t (K t))) (λ i. Correction (i + 1)) within (first_past (K t) vs v within e) l)

      pub none_past : t.m ≤ within → corrections_reply t (K t) ≡ Ok tt
      unfolding corrections_reply
      none_past l = accept_first t.m (beyond 60000 (u_of t (K t))) (λ i. Correction (i + 1)) (omega (arith, first_past (K t) vs v within e))

  pub all_accepted : rows_reply t ≡ Ok tt → correlates_reply t ≡ Ok tt → remainders_reply t (K t) ≡ Ok tt → corrections_reply t (K t) ≡ Ok tt → (Ok tt) ≡ solution_reply t
  unfolding solution_reply
  all_accepted a b c d = rw (a, b, c, d)

  -- ---- of any correlates, where 8 and 9 accept
  module _ (k : ℕ → ℤ) where
    pub remainders_close : remainders_reply t k ≡ Ok tt → (j : ℕ) → j < t.n → nat_abs (R_of t k j) ≤ 50000000
    unfolding remainders_reply
    remainders_close = each_within t.n 50000000 (R_of t k) (λ j. Remainder (j + 1))

    pub corrections_small : corrections_reply t k ≡ Ok tt → WithinMinute t (u_of t k)
    unfolding corrections_reply
    corrections_small = each_within t.m 60000 (u_of t k) (λ i. Correction (i + 1))
