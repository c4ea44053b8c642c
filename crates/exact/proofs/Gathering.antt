-- The laws of `gather`: the values at those of the numbers below n at which a test holds. Assumes nothing.
--   gather_taken, gather_passed       one more number: its value stands at the end where the test holds, and nothing new where it fails
--   gather_ext                        tests and values that agree below n
--   gather_rank, gather_long, gather_most      how many they are: whatever the values, and n at most
--   gather_parts                      those at which the test holds and those at which it fails are n together
--   gather_all, gather_none           a test that holds everywhere; nowhere
--   rank, nth                         how many come before h; which number stands at place m
--   rank_more, rank_same, rank_grows  the rank after one more number, and of a larger one
--   nth_in, nth_test, nth_rise        it is one of them, and they stand in their order
--   gather_at                         the value at place m is that of the number there
--   rank_in, nth_rank, rank_nth       each of them stands at one place: rank and nth lead back to each other
--   sum_gathered                      a sum over them is the sum, over all, of those terms at which the test holds
--   Gathered, gathered_none, gathered_taken, gathered_passed      a loop that stores them in the first places of a list: before the first number, and after
--                                     one more, whose value is stored or not; gathered_as: the same under other names
use mathlib.Core.Path.{◌≡◌, refl, sym, ◌∙◌, ap, subst}
use mathlib.Core.Bool.{Bool, true, false, not, cond}
use mathlib.Core.List.{List, [], ◌∷◌, ◌++◌, append-nil}
use Prim.Native.Nat.{ℕ, zero, suc, ◌+◌, ◌<◌, ◌≤◌}
use native.Mathlib.Decide.{dec_lt}
use native.Mathlib.Nat.{le_refl, zero-add}
use native.Mathlib.Numerals.{add-one}
use native.Mathlib.Omega.{arith}
use lib.IntN.{ℤ, pos, ◌+ℤ◌, +ℤ_idr}
use lib.ListN.{length, get_or, set, length-append, length-set, get_or-append}
use lib.Seq.{sets, get_or-append_seam}
use Rattle.exact.specs.Gather.{gather}
use Rattle.exact.specs.Sum.{sum}
use Rattle.exact.specs.Tabulate.{tabulate}
use Rattle.exact.proofs.Filling.{tabulate_more, sets_append}
use Rattle.exact.proofs.Sum.{sum_none, sum_next, sum_ext}

-- ---- one more number
module _ {A : Type 0} (n : ℕ) (test : ℕ → Bool) (f : ℕ → A) where
  next_taken : test n ≡ true → gather (suc n) test f ≡ gather n test f ++ (f n ∷ [])
  unfolding gather
  next_taken e = rw e

  next_passed : test n ≡ false → gather (suc n) test f ≡ gather n test f
  unfolding gather
  next_passed e = rw e (append-nil (gather n test f))

  -- as code counts
  pub gather_taken : test n ≡ true → gather (n + 1) test f ≡ gather n test f ++ (f n ∷ [])
  gather_taken e = rw add-one (next_taken e)

  pub gather_passed : test n ≡ false → gather (n + 1) test f ≡ gather n test f
  gather_passed e = rw add-one (next_passed e)

module _ {A : Type 0} where
  pub gather_ext : (n : ℕ) (s t : ℕ → Bool) (f g : ℕ → A) → ((h : ℕ) → h < n → s h ≡ t h) → ((h : ℕ) → h < n → f h ≡ g h) → gather n s f ≡ gather n t g
  unfolding gather
  gather_ext zero s t f g e v = refl
  gather_ext (suc n) s t f g e v =
      λ i. gather_ext n s t f g (λ h l. e h (omega arith)) (λ h l. v h (omega arith)) i ++ cond (e n (omega arith) i) (v n (omega arith) i ∷ []) []

  pub gather_all : (n : ℕ) (test : ℕ → Bool) (f : ℕ → A) → ((h : ℕ) → h < n → test h ≡ true) → gather n test f ≡ tabulate n f
  unfolding gather tabulate
  gather_all zero test f e = refl
  gather_all (suc n) test f e =
      next_taken n test f (e n (omega arith)) ∙ ap (λ (l : List A). l ++ (f n ∷ [])) (gather_all n test f (λ h l. e h (omega arith))) ∙ sym (tabulate_more n f)

  pub gather_none : (n : ℕ) (test : ℕ → Bool) (f : ℕ → A) → ((h : ℕ) → h < n → test h ≡ false) → gather n test f ≡ []
  unfolding gather
  gather_none zero test f e = refl
  gather_none (suc n) test f e = next_passed n test f (e n (omega arith)) ∙ gather_none n test f (λ h l. e h (omega arith))

-- ---- how many come before h
abbrev pub rank : (ℕ → Bool) → ℕ → ℕ
rank t h = length (gather h t (λ i. i))

module _ (t : ℕ → Bool) where
  rank_zero : rank t 0 ≡ 0
  unfolding gather
  rank_zero = refl

  pub rank_more : (n : ℕ) → t n ≡ true → rank t (suc n) ≡ suc (rank t n)
  rank_more n e = ap length (next_taken n t (λ i. i) e) ∙ length-append (gather n t (λ i. i)) (n ∷ []) ∙ add-one (rank t n)

  pub rank_same : (n : ℕ) → t n ≡ false → rank t (suc n) ≡ rank t n
  rank_same n e = ap length (next_passed n t (λ i. i) e)

  pub rank_grows : (h n : ℕ) → h ≤ n → rank t h ≤ rank t n
  rank_grows h zero l = subst (λ (k : ℕ). rank t k ≤ rank t 0) (sym (none h l)) (le_refl (rank t 0))
    where
      none : (h : ℕ) → h ≤ 0 → h ≡ 0
      none h l = omega arith
  rank_grows h (suc n) l = by_order (dec_lt n h) (rank_grows h n)
    where
      here : n < h → h ≡ suc n
      here k = omega arith

      by_test : (b : Bool) → t n ≡ b → rank t h ≤ rank t n → rank t h ≤ rank t (suc n)
      by_test true e r = omega (arith, rank_more n e)
      by_test false e r = omega (arith, rank_same n e)

      by_order : Dec (n < h) → (h ≤ n → rank t h ≤ rank t n) → rank t h ≤ rank t (suc n)
      by_order (yes k) r = subst (λ (i : ℕ). rank t i ≤ rank t (suc n)) (sym (here k)) (le_refl (rank t (suc n)))
      by_order (no k) r = by_test (t n) refl (r (omega arith))

  -- the values do not count
  pub gather_rank : {A : Type 0} (n : ℕ) (f : ℕ → A) → length (gather n t f) ≡ rank t n
  unfolding gather
  gather_rank zero f = refl
  gather_rank {A} (suc n) f = by_test (t n) refl (gather_rank n f)
    where
      by_test : (b : Bool) → t n ≡ b → length (gather n t f) ≡ rank t n → length (gather (suc n) t f) ≡ rank t (suc n)
      by_test true e r = ap length (next_taken n t f e) ∙ length-append (gather n t f) (f n ∷ []) ∙ omega (arith, rank_more n e)
      by_test false e r = ap length (next_passed n t f e) ∙ r ∙ sym (rank_same n e)

  pub gather_long : {A B : Type 0} (n : ℕ) (f : ℕ → A) (g : ℕ → B) → length (gather n t f) ≡ length (gather n t g)
  gather_long n f g = gather_rank n f ∙ sym (gather_rank n g)

-- those at which a test holds and those at which it fails
ranks_add : (t : ℕ → Bool) (n : ℕ) → rank t n + rank (λ h. not (t h)) n ≡ n
ranks_add t zero = omega (arith, rank_zero t, rank_zero (λ h. not (t h)))
ranks_add t (suc n) = by_test (t n) refl (ranks_add t n)
  where
    by_test : (b : Bool) → t n ≡ b → rank t n + rank (λ h. not (t h)) n ≡ n → rank t (suc n) + rank (λ h. not (t h)) (suc n) ≡ suc n
    by_test true e r = omega (arith, rank_more t n e, rank_same (λ h. not (t h)) n (ap not e))
    by_test false e r = omega (arith, rank_same t n e, rank_more (λ h. not (t h)) n (ap not e))

pub gather_parts : {A B : Type 0} (n : ℕ) (t : ℕ → Bool) (f : ℕ → A) (g : ℕ → B) → length (gather n t f) + length (gather n (λ h. not (t h)) g) ≡ n
gather_parts n t f g = rw (gather_rank t n f, gather_rank (λ h. not (t h)) n g) (ranks_add t n)

pub gather_most : {A : Type 0} (n : ℕ) (t : ℕ → Bool) (f : ℕ → A) → length (gather n t f) ≤ n
gather_most n t f = omega (arith, gather_parts n t f (λ h. h))

-- ---- which number stands at place m
abbrev pub nth : (ℕ → Bool) → ℕ → ℕ → ℕ
nth t n m = get_or (gather n t (λ i. i)) m 0

module _ {A : Type 0} (t : ℕ → Bool) (f : ℕ → A) (d : A) (n : ℕ) where
  at_before : (m : ℕ) → m < rank t n → get_or (gather (suc n) t f) m d ≡ get_or (gather n t f) m d
  unfolding gather
  at_before m l = get_or-append (gather n t f) (cond (t n) (f n ∷ []) []) d m (omega (arith, gather_rank t n f))

  at_last : t n ≡ true → get_or (gather (suc n) t f) (rank t n) d ≡ f n
  at_last e =
      ap (λ (l : List A). get_or l (rank t n) d) (next_taken n t f e)
      ∙ ap (λ (k : ℕ). get_or (gather n t f ++ (f n ∷ [])) k d) (sym (gather_rank t n f))
      ∙ get_or-append_seam (gather n t f) (f n) [] d

-- a place below n + 1 things is one of those before, or the last, where the test holds
data Spot (t : ℕ → Bool) (n m : ℕ) : Type 0 where
  before : m < rank t n → Spot t n m
  last : t n ≡ true → rank t n ≡ m → Spot t n m

spot : (t : ℕ → Bool) (n m : ℕ) → m < rank t (suc n) → Spot t n m
spot t n m l = by_test (t n) refl (dec_lt m (rank t n))
  where
    by_test : (b : Bool) → t n ≡ b → Dec (m < rank t n) → Spot t n m
    by_test b e (yes k) = before k
    by_test true e (no k) = last e (omega (arith, rank_more t n e))
    by_test false e (no k) = absurd (omega (arith, rank_same t n e))

-- what is said of each place, from the last number on
module _ (t : ℕ → Bool) (P : ℕ → ℕ → Type 0) (step : (n m : ℕ) → m < rank t n → P n m → P (suc n) m) (end : (n : ℕ) → t n ≡ true → P (suc n) (rank t n)) where
  each_place : (n m : ℕ) → m < rank t n → P n m
  each_place zero m l = absurd (omega (arith, rank_zero t))
  each_place (suc n) m l = by_spot (each_place n m) (spot t n m l)
    where
      by_spot : (m < rank t n → P n m) → Spot t n m → P (suc n) m
      by_spot r (before k) = step n m k (r k)
      by_spot r (last e k) = subst (λ (i : ℕ). P (suc n) i) k (end n e)

module _ (t : ℕ → Bool) where
  nth_before : (n m : ℕ) → m < rank t n → nth t (suc n) m ≡ nth t n m
  nth_before n m l = at_before t (λ i. i) 0 n m l

  nth_last : (n : ℕ) → t n ≡ true → nth t (suc n) (rank t n) ≡ n
  nth_last n e = at_last t (λ i. i) 0 n e

  pub nth_in : (n m : ℕ) → m < rank t n → nth t n m < n
  nth_in = each_place t (λ n m. nth t n m < n) (λ n m l r. omega (arith, nth_before n m l)) (λ n e. omega (arith, nth_last n e))

  pub nth_test : (n m : ℕ) → m < rank t n → t (nth t n m) ≡ true
  nth_test = each_place t (λ n m. t (nth t n m) ≡ true) (λ n m l r. ap t (nth_before n m l) ∙ r) (λ n e. ap t (nth_last n e) ∙ e)

  pub gather_at : {A : Type 0} (f : ℕ → A) (d : A) (n m : ℕ) → m < rank t n → get_or (gather n t f) m d ≡ f (nth t n m)
  gather_at f d =
      each_place t (λ n m. get_or (gather n t f) m d ≡ f (nth t n m))
      (λ n m l r. at_before t f d n m l ∙ r ∙ ap f (sym (nth_before n m l))) (λ n e. at_last t f d n e ∙ ap f (sym (nth_last n e)))

  pub nth_rise : (n k m : ℕ) → k < m → m < rank t n → nth t n k < nth t n m
  nth_rise n k m a l = each_place t (λ n m. k < m → nth t n k < nth t n m) go_on at_end n m l a
    where
      go_on : (n m : ℕ) → m < rank t n → (k < m → nth t n k < nth t n m) → k < m → nth t (suc n) k < nth t (suc n) m
      go_on n m l r a = omega (arith, r a, nth_before n m l, nth_before n k (omega arith))

      at_end : (n : ℕ) → t n ≡ true → k < rank t n → nth t (suc n) k < nth t (suc n) (rank t n)
      at_end n e a = omega (arith, nth_last n e, nth_before n k a, nth_in n k a)

  pub rank_in : (h n : ℕ) → h < n → t h ≡ true → rank t h < rank t n
  rank_in h n l e = omega (arith, rank_more t h e, rank_grows t (suc h) n l)

  pub nth_rank : (h n : ℕ) → h < n → t h ≡ true → nth t n (rank t h) ≡ h
  nth_rank h zero l e = absurd (omega arith)
  nth_rank h (suc n) l e = by_order (dec_lt h n) (nth_rank h n)
    where
      at_end : ¬ (h < n) → h ≡ n
      at_end k = omega arith

      by_order : Dec (h < n) → (h < n → t h ≡ true → nth t n (rank t h) ≡ h) → nth t (suc n) (rank t h) ≡ h
      by_order (yes k) r = nth_before n (rank t h) (rank_in h n k e) ∙ r k e
      by_order (no k) r = subst (λ (i : ℕ). nth t (suc i) (rank t h) ≡ h) (at_end k) (nth_last h e)

  pub rank_nth : (n m : ℕ) → m < rank t n → rank t (nth t n m) ≡ m
  rank_nth = each_place t (λ n m. rank t (nth t n m) ≡ m) (λ n m l r. ap (rank t) (nth_before n m l) ∙ r) (λ n e. ap (rank t) (nth_last n e))

  -- ---- sums
  pub sum_gathered : (v : ℕ → ℤ) (n : ℕ) → sum (rank t n) (λ m. v (nth t n m)) ≡ sum n (λ h. cond (t h) (v h) (pos 0))
  sum_gathered v zero = ap (λ (k : ℕ). sum k (λ m. v (nth t 0 m))) (rank_zero t) ∙ sum_none (λ m. v (nth t 0 m)) ∙ sym (sum_none (λ h. cond (t h) (v h) (pos 0)))
  sum_gathered v (suc n) = by_test (t n) refl (sum_gathered v n) ∙ sym (sum_next n (λ h. cond (t h) (v h) (pos 0)))
    where
      so_far : sum (rank t n) (λ m. v (nth t (suc n) m)) ≡ sum (rank t n) (λ m. v (nth t n m))
      so_far = sum_ext (rank t n) (λ m. v (nth t (suc n) m)) (λ m. v (nth t n m)) (λ m l. ap v (nth_before n m l))

      by_test : (b : Bool) → t n ≡ b → sum (rank t n) (λ m. v (nth t n m)) ≡ sum n (λ h. cond (t h) (v h) (pos 0))
          → sum (rank t (suc n)) (λ m. v (nth t (suc n) m)) ≡ sum n (λ h. cond (t h) (v h) (pos 0)) +ℤ cond (t n) (v n) (pos 0)
      by_test true e r =
          ap (λ (k : ℕ). sum k (λ m. v (nth t (suc n) m))) (rank_more t n e) ∙ sum_next (rank t n) (λ m. v (nth t (suc n) m))
          ∙ (λ i. (so_far ∙ r) i +ℤ (ap v (nth_last n e) ∙ (λ j. cond (sym e j) (v n) (pos 0))) i)
      by_test false e r =
          ap (λ (k : ℕ). sum k (λ m. v (nth t (suc n) m))) (rank_same t n e) ∙ so_far ∙ r
          ∙ sym (+ℤ_idr (sum n (λ h. cond (t h) (v h) (pos 0)))) ∙ (λ i. sum n (λ h. cond (t h) (v h) (pos 0)) +ℤ cond (sym e i) (v n) (pos 0))

-- ---- a loop that stores them, one after another, in the first places of a list: after h numbers xs has become ys, with n of them
pub record Gathered {A : Type 0} (test : ℕ → Bool) (f : ℕ → A) (h : ℕ) (xs ys : List A) (n : ℕ) : Type 0 where
  pub stored : ys ≡ sets xs 0 (gather h test f)
  pub count : n ≡ length (gather h test f)
  pub few : n ≤ h
  pub long : length ys ≡ length xs

module _ {A : Type 0} (test : ℕ → Bool) (f : ℕ → A) (xs : List A) where
  pub gathered_none : Gathered test f 0 xs xs 0
  unfolding gather
  gathered_none = record { stored = refl; count = refl; few = omega arith; long = refl }

  module _ (h n : ℕ) (ys : List A) (g : Gathered test f h xs ys n) where
    pub gathered_taken : test h ≡ true → (v : A) → v ≡ f h → Gathered test f (h + 1) xs (set ys n v) (n + 1)
    gathered_taken t v e = record {
      stored =
          (λ i. set (g.stored i) ((g.count ∙ sym (zero-add (length (gather h test f)))) i) (e i)) ∙ sets_append (gather h test f) (f h ∷ []) xs 0 ∙ ap (sets xs 0) (sym (gather_taken h test f t));
      count = ap (λ (k : ℕ). k + 1) g.count ∙ sym (length-append (gather h test f) (f h ∷ [])) ∙ ap length (sym (gather_taken h test f t));
      few = omega (arith, g.few);
      long = length-set ys n v ∙ g.long;
    }

    pub gathered_passed : test h ≡ false → Gathered test f (h + 1) xs ys n
    gathered_passed t = record {
      stored = g.stored ∙ ap (sets xs 0) (sym (gather_passed h test f t));
      count = g.count ∙ ap length (sym (gather_passed h test f t));
      few = omega (arith, g.few);
      long = g.long;
    }

-- the same list and number, under other names
pub gathered_as : {A : Type 0} {test : ℕ → Bool} {f : ℕ → A} {h n n' : ℕ} {xs ys ys' : List A} → ys' ≡ ys → n' ≡ n → Gathered test f h xs ys n → Gathered test f h xs ys' n'
gathered_as {A} {test} {f} {h} {n} {n'} {xs} {ys} {ys'} p q g = subst (λ (l : List A). Gathered test f h xs l n') (sym p) (subst (Gathered test f h xs ys) (sym q) g)
