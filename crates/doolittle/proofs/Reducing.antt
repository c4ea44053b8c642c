-- The reduction of the rows. Assumes nothing.
--   parts_none, parts_more          a number with the parts that rows add to it, as a loop adds them
--   untouched                       a direction that a condition does not touch adds nothing to its row of N
--   Formed, formed_more, formed_all a row of N as the first directions give it; with one direction more; with all
--   reduced_sum, D_rule, L_rule     the rules' own equations of D and L
--   check_column                    the row sum of N(j,k) is the sum over directions of q*a(j)*(sum of that direction's coefficients)
--   sound_at                        what is known of a row that is not weak
--   parts_within, N_size, normal_within, above_within      bounds of an entry of N, as far as it is formed and whole, of a row of N, and of the rows above
--                                   it: what the code adds and multiplies fits
--   row_reduced, row_weak, row_multiplied       a row of N with all rows above taken is the reduced row; its test; its multipliers
--   rows_none, rows_more            the rows, one after another
use mathlib.Core.Path.{◌≡◌, sym, ◌∙◌, ap, ap₂}
use mathlib.Core.Bool.{false}
use mathlib.Core.List.{List}
use Prim.Native.Nat.{ℕ, zero, suc, ◌+◌, ◌≤◌, ◌<◌}
use native.Mathlib.Nat.{le_refl}
use native.Mathlib.Omega.{arith}
use borrow.Author.Count.{below_more}
use lib.IntN.{ℤ, pos, nat_abs, ◌+ℤ◌, ◌*ℤ◌, *ℤ-zero, zero-*ℤ, +ℤ_idr, +ℤ_assoc}
use Rattle.exact.specs.Sum.{sum}
use Rattle.exact.proofs.Bound.{abs_mul}
use Rattle.exact.proofs.Sum.{sum_none, sum_more, sum_ext, sum_mul, sum_swap}
use Rattle.exact.proofs.Searching.{Failed}
use Rattle.doolittle.specs.Table.{Table, inverse_weight, at, table_of}
use Rattle.doolittle.specs.Solution.{N, reduced, D, L, M, carried, multiplier, weak_row, weak}
use Rattle.doolittle.specs.Inner.{Sound, CONSTANT, From, RowWithin, Holds, Rows, share, with_above, row_at, cell}
use Rattle.doolittle.proofs.Sizes.{sum_within, term_size}
use Rattle.doolittle.proofs.Weakness.{SoundRow, sound_row, weak_ext}

-- ---- the code's loops
-- a number with the parts that rows add to it: none yet, and one more
pub parts_none : (own : ℤ) (f : ℕ → ℤ) → own ≡ own +ℤ sum 0 f
parts_none own f = sym (ap (λ (z : ℤ). own +ℤ z) (sum_none f) ∙ +ℤ_idr own)

pub parts_more : (own : ℤ) (f : ℕ → ℤ) (b : ℕ) → (own +ℤ sum b f) +ℤ f b ≡ own +ℤ sum (b + 1) f
parts_more own f b = +ℤ_assoc own (sum b f) (f b) ∙ ap (λ (z : ℤ). own +ℤ z) (sym (sum_more b f))

-- ---- a row of N, direction by direction
module _ (t : Table) where
  -- a direction that condition j does not touch adds nothing
  pub untouched : (j k i : ℕ) → t.a j i ≡ pos 0 → share t j k i ≡ pos 0
  untouched j k i e =
      ap (λ (x : ℤ). inverse_weight t i *ℤ x *ℤ t.a k i) e ∙ ap (λ (x : ℤ). x *ℤ t.a k i) (*ℤ-zero (inverse_weight t i)) ∙ zero-*ℤ (t.a k i)

  -- what the first i directions give of row j
  abbrev pub Formed : (j i : ℕ) → List ℤ → Type 0
  Formed j i row = Holds j t.n (λ k. sum i (share t j k)) (pos 1000 *ℤ t.w j) row

  pub formed_more : (j i : ℕ) (row next : List ℤ) → Formed j i row → Holds j t.n (λ k. at row k +ℤ share t j k i) (at row CONSTANT) next → Formed j (i + 1) next
  formed_more j i row next g e = record {
    coefficients = λ k a b. e.coefficients k a b ∙ ap (λ (z : ℤ). z +ℤ share t j k i) (g.coefficients k a b) ∙ sym (sum_more i (share t j k));
    constant = e.constant ∙ g.constant;
  }

  pub formed_all : (j : ℕ) (row : List ℤ) → Formed j t.m row → Holds j t.n (N t j) (pos 1000 *ℤ t.w j) row
  unfolding N
  formed_all j row g = g

-- ---- the rules' own equations
module _ (t : Table) where
  pub reduced_sum : (i : ℕ) (x : ℕ → ℤ) (j : ℕ) → reduced t i x j ≡ x j +ℤ sum i (λ h. carried (M t h j) (reduced t h x h))
  unfolding reduced M D sum
  reduced_sum zero x j = sym (+ℤ_idr (x j))
  reduced_sum (suc i) x j =
      ap (λ (z : ℤ). z +ℤ carried (M t i j) (reduced t i x i)) (reduced_sum i x j) ∙ +ℤ_assoc (x j) (sum i (λ h. carried (M t h j) (reduced t h x h))) (carried (M t i j) (reduced t i x i))

  pub D_rule : (j k : ℕ) → D t j k ≡ N t j k +ℤ sum j (λ i. carried (M t i j) (D t i k))
  unfolding D
  D_rule j k = reduced_sum j (λ h. N t h k) j

  pub L_rule : (j : ℕ) → L t j ≡ pos 1000 *ℤ t.w j +ℤ sum j (λ i. carried (M t i j) (L t i))
  unfolding L
  L_rule j = reduced_sum j (λ h. pos 1000 *ℤ t.w h) j

  pub check_column : (j : ℕ) → sum t.n (N t j) ≡ sum t.m (λ i. t.q i *ℤ t.a j i *ℤ sum t.n (λ k. t.a k i))
  unfolding N
  check_column j =
      sum_swap t.n t.m (λ k i. t.q i *ℤ t.a j i *ℤ t.a k i)
      ∙ sum_ext t.m (λ i. sum t.n (λ k. t.q i *ℤ t.a j i *ℤ t.a k i)) (λ i. t.q i *ℤ t.a j i *ℤ sum t.n (λ k. t.a k i))
      (λ i l. sum_mul t.n (t.q i *ℤ t.a j i) (λ k. t.a k i))

  -- ---- rows that are not weak
  pub sound_at : (j : ℕ) → weak t j ≡ false → SoundRow t.n j (N t j j) (D t j) (L t j)
  unfolding weak
  sound_at j e = sound_row t.n j (N t j j) (D t j) (L t j) e

  -- ---- row j, from the rows above it
  module _ (j : ℕ) (rows : List (List ℤ)) (r : Rows t j rows) (l : j < t.n) where
    pub above_within : Failed (weak t) j → (i : ℕ) → i < j → (nat_abs (cell rows j i) ≤ 1000000000) × RowWithin 4000000000 j t.n (row_at rows i)
    unfolding M
    above_within f i h =
        let g = sound_at i (f i h) in let row = r.reduced i h in (
          rw (r.multiplied i h j h l) (g.multipliers j h l),
          record {
            coefficients = λ k a b. rw (row.coefficients k (omega arith) b) (wider (g.coefficients k (omega arith) b));
            constant = rw row.constant g.constant;
          },
        )
      where
        wider : {a : ℕ} → a ≤ 2560000000 → a ≤ 4000000000
        wider u = omega arith

    -- a column of the rows above holds the numbers X
    above_is : (x y : ℤ) (k : ℕ) (X : ℕ → ℤ) → x ≡ y → ((i : ℕ) → i < j → cell rows i k ≡ X i) → with_above x rows j k ≡ y +ℤ sum j (λ i. carried (M t i j) (X i))
    above_is x y k X e f =
        ap₂ ◌+ℤ◌ e (sum_ext j (λ i. carried (cell rows j i) (cell rows i k)) (λ i. carried (M t i j) (X i)) (λ i h. ap₂ carried (r.multiplied i h j h l) (f i h)))

    pub row_reduced : (own next : List ℤ) → Holds j t.n (N t j) (pos 1000 *ℤ t.w j) own → Holds j t.n (λ k. with_above (at own k) rows j k) (with_above (at own CONSTANT) rows j CONSTANT) next → Holds j t.n (D t j) (L t j) next
    row_reduced own next g e = record {
      coefficients = λ k a b. e.coefficients k a b
          ∙ above_is (at own k) (N t j k) k (λ i. D t i k) (g.coefficients k a b) (λ i h. (r.reduced i h).coefficients k (omega arith) b) ∙ sym (D_rule j k);
      constant = e.constant ∙ above_is (at own CONSTANT) (pos 1000 *ℤ t.w j) CONSTANT (L t) g.constant (λ i h. (r.reduced i h).constant) ∙ sym (L_rule j);
    }

  module _ (j : ℕ) (row : List ℤ) (l : j < t.n) (g : Holds j t.n (D t j) (L t j) row) where
    pub row_weak : (entry : ℤ) → entry ≡ N t j j → weak_row t.n j entry (at row) (at row CONSTANT) ≡ weak t j
    unfolding weak
    row_weak entry e = weak_ext t.n j entry (N t j j) (at row) (D t j) (at row CONSTANT) (L t j) l e g.coefficients g.constant

    pub row_multiplied : (m : ℕ → ℤ) → From (suc j) t.n (λ k. m k ≡ multiplier (at row k) (at row j)) → From (suc j) t.n (λ k. m k ≡ M t j k)
    unfolding M
    row_multiplied m e k a b = e k a b ∙ ap₂ multiplier (g.coefficients k (omega arith) b) (g.coefficients j (le_refl j) l)

  -- ---- the rows, one after another
  pub rows_none : (rows : List (List ℤ)) → Rows t 0 rows
  rows_none rows = record { reduced = λ h l. absurd (omega arith); multiplied = λ h l. absurd (omega arith) }

  pub rows_more : (j : ℕ) (rows : List (List ℤ)) → Rows t j rows → Holds j t.n (D t j) (L t j) (row_at rows j) → From (suc j) t.n (λ k. cell rows k j ≡ M t j k) → Rows t (j + 1) rows
  rows_more j rows r g e = record {
    reduced = below_more (λ h. Holds h t.n (D t h) (L t h) (row_at rows h)) j r.reduced g;
    multiplied = below_more (λ h. From (suc h) t.n (λ k. cell rows k h ≡ M t h k)) j r.multiplied e;
  }

-- ---- a row of N
module _ (qs cs ws : List ℤ) (s : Sound qs cs ws) where
  abbrev t : Table
  t = table_of qs cs ws

  -- what the first i directions add to N(j,k)
  pub parts_within : (j k i : ℕ) → j < t.n → k < t.n → i ≤ t.m → nat_abs (sum i (share t j k)) ≤ 2560000000
  parts_within j k i h l b =
      sum_within i 64 40000000 (share t j k) (omega (arith, s.m_most))
      (λ e c. let d : e < t.m = omega arith in term_size (t.q e) (t.a j e) (t.a k e) (s.q_most e d) (s.a_most j h e d) (s.a_most k l e d))

  pub N_size : (j k : ℕ) → j < t.n → k < t.n → nat_abs (N t j k) ≤ 2560000000
  unfolding N
  N_size j k h l = parts_within j k t.m h l (le_refl t.m)

  pub normal_within : (j : ℕ) (own : List ℤ) → j < t.n → Holds j t.n (N t j) (pos 1000 *ℤ t.w j) own → RowWithin 2560000000 j t.n own
  normal_within j own l g = record {
    coefficients = λ k a b. rw (g.coefficients k a b) (N_size j k l b);
    constant = rw g.constant (omega (arith, abs_mul (pos 1000) (t.w j), s.w_most j l));
  }
