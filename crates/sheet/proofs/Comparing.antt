-- The line of the first test that fails, by what the code has found. Assumes nothing.
--   other_directions, other_conditions, size_line, v_line_lem, k_line_lem, no_line      the line, by the first of each kind of test
--   no_at                                  and the opinion there
--   correlate, large                       the K of a condition, and its size
--   correlates_are, sizes_are              the correlates of the K lines, and the first that is too large
--   pairs_differ, v_differs, k_differs     the first line of those with two numbers at which a test fails; of the V lines, and of the K lines
--   corrected_by                           corrections by correlates that agree
use mathlib.Core.Path.{◌≡◌, refl, sym, ◌∙◌, ap, ap₂, subst}
use mathlib.Core.Bool.{Bool, false, not, ◌||◌}
use mathlib.Core.List.{List, []}
use Prim.Native.Nat.{ℕ, zero, suc, ◌+◌, ◌*◌, ◌<◌, ◌≤◌}
use native.Mathlib.Omega.{arith}
use borrow.Author.Tests.{lt-ltb, le-ltb, eq-eqb, ne_eqb}
use lib.Dec.{ltb, eqb}
use lib.IntN.{ℤ, pos, nat_abs}
use lib.ListN.{get_or}
use Rattle.exact.specs.First.{first}
use Rattle.exact.proofs.Searching.{first_ext, first_either}
use Rattle.std.proofs.lemmas.Bool.{or_right}
use Rattle.doolittle.specs.Table.{Table, at}
use Rattle.adjustment.specs.Corrections.{R_of, u_of, adjusted_of, Q_of}
use Rattle.adjustment.proofs.Solving.{beyond, V_ext, u_ext}
use Rattle.sheet.specs.Form.{directions_in, conditions_in, field_no, own_u, own_adjusted, own_k, own_r, own_q}
use Rattle.sheet.specs.declared.Opinion.TheVariants.{No}
use Rattle.sheet.specs.Check.{unlike, counts_differ, correlate_too_large, direction_differs, condition_differs, disagreement, opinion_at}
use Rattle.sheet.specs.Inner.{number_at, pair_unlike, WellFormed, Corrected}
use Rattle.sheet.proofs.Forming.{due_v, due_k}

-- ---- the line
module _ (t : Table) (direction : ℕ → ℤ) (listing : List ℕ) where
  abbrev m : ℕ
  m = t.m

  abbrev n : ℕ
  n = t.n

  pub other_directions : (directions_in listing ≡ m → ⊥) → disagreement t direction listing ≡ 1
  unfolding disagreement counts_differ
  other_directions e = rw (ne_eqb (directions_in listing) m e)

  pub other_conditions : (conditions_in listing ≡ n → ⊥) → disagreement t direction listing ≡ 1
  unfolding disagreement counts_differ
  other_conditions e = rw (or_right (not (eqb (directions_in listing) m)) (not (eqb (conditions_in listing) n)) (rw (ne_eqb (conditions_in listing) n e)))

  module _ (em : directions_in listing ≡ m) (en : conditions_in listing ≡ n) where
    same_counts : counts_differ t listing ≡ false
    unfolding counts_differ
    same_counts = rw (eq-eqb (directions_in listing) m em, eq-eqb (conditions_in listing) n en)

    module _ (sized : ℕ) (es : sized ≡ first n (correlate_too_large listing)) where
      pub size_line : sized < n → disagreement t direction listing ≡ m + 2 + sized
      unfolding disagreement
      size_line l = rw (same_counts, ← es, lt-ltb sized n l)

      module _ (ls : n ≤ sized) (v : ℕ) (ev : v ≡ first m (direction_differs t direction listing)) where
        pub v_line_lem : v < m → disagreement t direction listing ≡ 2 + v
        unfolding disagreement
        v_line_lem l = rw (same_counts, ← es, le-ltb sized n ls, ← ev, lt-ltb v m l)

        module _ (lv : m ≤ v) (r : ℕ) (er : r ≡ first n (condition_differs t listing)) where
          pub k_line_lem : r < n → disagreement t direction listing ≡ m + 2 + r
          unfolding disagreement
          k_line_lem l = rw (same_counts, ← es, le-ltb sized n ls, ← ev, le-ltb v m lv, ← er, lt-ltb r n l)

          pub no_line : n ≤ r → disagreement t direction listing ≡ 0
          unfolding disagreement
          no_line l = rw (same_counts, ← es, le-ltb sized n ls, ← ev, le-ltb v m lv, ← er, le-ltb r n l)

-- a line that fails is the opinion there
pub no_at : {line d : ℕ} → 0 < line → d ≡ line → No line ≡ opinion_at d
no_at {line} l e = rw e (by_line line l)
  where
    by_line : (line : ℕ) → 0 < line → No line ≡ opinion_at line
    by_line zero l = absurd (omega arith)
    by_line (suc line) l = refl

-- ---- the K of condition j behind m V lines, and whether it is too large
abbrev pub correlate : List ℤ → (m j : ℕ) → ℤ
correlate x m j = number_at x (m + j) 1

abbrev pub large : List ℤ → (m j : ℕ) → Bool
large x m j = ltb 100000000 (nat_abs (correlate x m j))

-- ---- two numbers in each of `total` lines, up to the first that is past its limit: where one of them is not what it should be
pub pairs_differ : (x : List ℤ) (from total : ℕ) (a b : List ℤ) (one other f g : ℕ → ℤ) (past : ℕ → Bool) (stop v : ℕ) → stop ≡ first total past
    → ((i : ℕ) → i < stop → get_or x (from + 4 * i) (pos 0) ≡ one i) → ((i : ℕ) → i < stop → get_or x (from + 4 * i + 1) (pos 0) ≡ other i)
    → ((i : ℕ) → i < stop → at a i ≡ f i) → ((i : ℕ) → i < stop → at b i ≡ g i)
    → v ≡ first stop (pair_unlike x from a b) → v ≡ first total (λ i. (unlike (one i) (f i) || unlike (other i) (g i)) || past i)
pairs_differ x from total a b one other f g past stop v es x-one x-other a-is b-is e =
    let differs : ℕ → Bool = λ i. unlike (one i) (f i) || unlike (other i) (g i) in
    e
    ∙ first_ext stop (pair_unlike x from a b) differs (λ i l. ap₂ ◌||◌ (ap₂ unlike (x-one i l) (a-is i l)) (ap₂ unlike (x-other i l) (b-is i l)))
    ∙ ap (λ (n : ℕ). first n differs) es
    ∙ sym (first_either total differs past)

-- ---- the numbers of a listing that is well formed
module _ {listing : List ℕ} {m n : ℕ} {x : List ℤ} (f : WellFormed listing m n x) where
  place : {p q : ℕ} → p ≡ q → get_or x p (pos 0) ≡ get_or x q (pos 0)
  place e = ap (λ (p : ℕ). get_or x p (pos 0)) e

  on_v : (i k : ℕ) → i < m → k < 3 → number_at x i k ≡ field_no k listing i
  on_v i k l few = f.entered i (omega arith) k (rw (due_v [] 0 m i l).1 few)

  on_k : (j k : ℕ) → j < n → k < 4 → number_at x (m + j) k ≡ field_no k listing (directions_in listing + j)
  on_k j k l few = f.entered (m + j) (omega arith) k (rw (due_k [] 0 m (m + j) (omega arith)).1 few) ∙ ap (λ (d : ℕ). field_no k listing (d + j)) f.m_is

  -- the correlates in a list of their own
  pub correlates_are : (ks : List ℤ) → ((j : ℕ) → j < n → get_or ks j (pos 0) ≡ number_at x (m + j) 1) → (j : ℕ) → j < n → at ks j ≡ own_k listing j
  correlates_are ks e j l = e j l ∙ on_k j 1 l (omega arith)

  module _ (t : Table) (em : m ≡ t.m) (en : n ≡ t.n) where
    abbrev k : ℕ → ℤ
    k = own_k listing

    pub sizes_are : (sized : ℕ) → sized ≡ first n (beyond 100000000 (λ j. number_at x (m + j) 1)) → sized ≡ first t.n (correlate_too_large listing)
    unfolding correlate_too_large
    sizes_are sized e =
        e ∙ first_ext n (beyond 100000000 (λ j. number_at x (m + j) 1)) (beyond 100000000 k) (λ j l. ap (λ (z : ℤ). ltb 100000000 (nat_abs z)) (on_k j 1 l (omega arith)))
        ∙ ap (λ (c : ℕ). first c (beyond 100000000 k)) en

    -- V lines, up to the first correction past one minute
    pub v_differs : (direction : ℕ → ℤ) (us adjusted : List ℤ) (within v : ℕ) → within ≡ first t.m (beyond 60000 (u_of t k)) → within ≤ m
        → ((i : ℕ) → i < within → at us i ≡ u_of t k i) → ((i : ℕ) → i < within → at adjusted i ≡ adjusted_of t k direction i)
        → v ≡ first within (pair_unlike x 1 us adjusted) → v ≡ first t.m (direction_differs t direction listing)
    unfolding direction_differs
    v_differs direction us adjusted within v ew few eu ea e =
        pairs_differ x 1 t.m us adjusted (own_u listing) (own_adjusted listing) (u_of t k) (adjusted_of t k direction) (beyond 60000 (u_of t k)) within v ew
        (λ i l. place (omega arith) ∙ on_v i 1 (omega arith) (omega arith)) (λ i l. place (omega arith) ∙ on_v i 2 (omega arith) (omega arith)) eu ea e

    -- K lines, up to the first remainder that is too large
    pub k_differs : (rs qs : List ℤ) (close v : ℕ) → close ≡ first t.n (beyond 50000000 (R_of t k)) → close ≤ n
        → ((j : ℕ) → j < close → at rs j ≡ R_of t k j) → ((j : ℕ) → j < close → at qs j ≡ Q_of t k j)
        → v ≡ first close (pair_unlike x (4 * m + 2) rs qs) → v ≡ first t.n (condition_differs t listing)
    unfolding condition_differs
    k_differs rs qs close v ec few er eq e =
        pairs_differ x (4 * m + 2) t.n rs qs (own_r listing) (own_q listing) (R_of t k) (Q_of t k) (beyond 50000000 (R_of t k)) close v ec
        (λ j l. place (omega arith) ∙ on_k j 2 (omega arith) (omega arith)) (λ j l. place (omega arith) ∙ on_k j 3 (omega arith) (omega arith)) er eq e

-- ---- corrections of correlates that agree in all conditions
pub corrected_by : (t : Table) (k k' : ℕ → ℤ) (v u : List ℤ) → ((j : ℕ) → j < t.n → k j ≡ k' j) → Corrected t k v u → Corrected t k' v u
corrected_by t k k' v u e c = record {
  v_is = λ i l. c.v_is i l ∙ V_ext t k k' e i;
  u_is = λ i l. c.u_is i l ∙ u_ext t k k' e i;
  u_most = λ i l. subst (λ (z : ℤ). nat_abs z ≤ 60000) (u_ext t k k' e i) (c.u_most i l);
}
