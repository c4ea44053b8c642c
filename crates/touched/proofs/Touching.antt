-- The words tell what the coefficients say. Assumes nothing.
--   shared_ones_lem            the ones of the `and` of the words of two conditions are the directions that both touch, counted from the coefficients
--   word_fits              the touched directions of a condition fit one 64-bit number
--   shares_three_lem           two conditions share three or more directions where two of their words have three or more ones in common
--   word_below, word_none, word_more    the word of n directions is below 2^n; of none; with one direction more
--   word_row               the word of a condition is that of its row of coefficients
use mathlib.Core.Path.{◌≡◌, refl, ◌∙◌, ap, ap₂}
use mathlib.Core.Bool.{Bool, true, false, not, ◌&&◌}
use mathlib.Core.List.{List}
use Prim.Native.Nat.{ℕ, zero, suc, ◌+◌, ◌*◌, ◌^◌, ◌≤◌, ◌<◌}
use native.Mathlib.Nat.{add_comm, pow-suc, lt_of_lt_of_le}
use native.Mathlib.Numerals.{add-one}
use native.Mathlib.Omega.{arith}
use lib.Bits.{bit_and, and_block, and_lt}
use lib.Count.{ones, ones_cat}
use lib.Dec.{leb, lit<}
use lib.ListN.{length, get_or}
use lib.Pow.{pow_mono}
use lib.IntN.{ℤ, pos}
use Rattle.exact.specs.First.{some_below}
use Rattle.std.proofs.Common.{take, drop, ◌-◌}
use Rattle.std.proofs.lemmas.List.{length-take-le, length-drop, get_or-take, get_or-drop}
use Rattle.exact.specs.Same.{same}
use Rattle.exact.proofs.Searching.{some_ext}
use Rattle.touched.specs.Shared.{one_if, touches, count, shared_by, shares_three}
use Rattle.touched.specs.Inner.{word, word_of, touches_in, word_in, shared_ones, shares_before, WordsOf}

-- a digit fills its place, and no more
digit_below : (b : Bool) {p w : ℕ} → w < p → one_if b * p + w < p * 2
digit_below true l = omega arith
digit_below false l = omega arith

pub word_below : (n : ℕ) (p : ℕ → Bool) → word n p < 2 ^ n
unfolding word
word_below zero p = lit< tt
word_below (suc n) p = rw (pow-suc 2 n) (digit_below (p n) (word_below n p))

pub word_none : (p : ℕ → Bool) → word 0 p ≡ 0
unfolding word
word_none p = refl

pub word_more : (n : ℕ) (p : ℕ → Bool) → word (n + 1) p ≡ one_if (p n) * 2 ^ n + word n p
unfolding word
word_more n p = ap (λ (k : ℕ). word k p) (add-one n)

word_ext : (n : ℕ) (p r : ℕ → Bool) → ((i : ℕ) → i < n → p i ≡ r i) → word n p ≡ word n r
unfolding word
word_ext zero p r e = refl
word_ext (suc n) p r e =
    ap₂ (λ (b : Bool) (w : ℕ). one_if b * 2 ^ n + w) (e n (omega arith)) (word_ext n p r (λ i l. e i (omega arith)))

pub word_row : (a : List ℤ) (m j : ℕ) → j * m + m ≤ length a → word_in (take (j * m + m - j * m) (drop (j * m) a)) ≡ word_of a m j
word_row a m j l =
    let s = j * m in let row = take (s + m - s) (drop s a) in
    let long : length row ≡ m = length-take-le (s + m - s) (drop s a) (omega (arith, length-drop s a)) ∙ omega arith in
    ap (λ (n : ℕ). word n (touches_in row)) long
    ∙ word_ext m (touches_in row) (touches a m j)
    (λ i k. ap (λ (x : ℤ). not (same x (pos 0))) (get_or-take (s + m - s) (drop s a) i (pos 0) (omega arith) ∙ get_or-drop s a i (pos 0)))

-- a digit that both words have
one_digit : (a b : Bool) → ones (bit_and (one_if a) (one_if b)) ≡ one_if (a && b)
unfolding ones
one_digit true true = refl
one_digit true false = refl
one_digit false true = refl
one_digit false false = refl

-- of any two tests: digit by digit, the last number first
ones_counted : (n : ℕ) (p r : ℕ → Bool) → ones (bit_and (word n p) (word n r)) ≡ count n (λ i. p i && r i)
unfolding ones word count
ones_counted zero p r = refl
ones_counted (suc n) p r =
    let v = word n p in let w = word n r in let a = one_if (p n) in let b = one_if (r n) in
    ap ones (and_block n a b v w (word_below n p) (word_below n r))
    ∙ ones_cat n (bit_and a b) (bit_and v w) (and_lt n v w (word_below n p) (word_below n r))
    ∙ ap₂ (λ (x y : ℕ). x + y) (one_digit (p n) (r n)) (ones_counted n p r)
    ∙ add_comm (one_if (p n && r n)) (count n (λ i. p i && r i))

-- ---- the theorem, and the form that it is about
pub shared_ones_lem : (a : List ℤ) (m j k : ℕ) → ones (bit_and (word_of a m j) (word_of a m k)) ≡ shared_by a m j k
shared_ones_lem a m j k = ones_counted m (touches a m j) (touches a m k)

pub word_fits : (a : List ℤ) (m j : ℕ) → m ≤ 64 → word_of a m j < 2 ^ 64
word_fits a m j h = lt_of_lt_of_le (word_below m (touches a m j)) (pow_mono h)

-- ---- the answer that is made of it
pub shares_three_lem : (a : List ℤ) (m n : ℕ) (words : List ℕ) → WordsOf a m n words → some_below n (shares_before words) ≡ shares_three a m n
unfolding shares_three
shares_three_lem a m n words w = some_ext n _ _ (λ j l. some_ext j _ _ (λ k h. ap (leb 3) (both j k l (omega arith))))
  where
    both : (j k : ℕ) → j < n → k < n → shared_ones (get_or words j 0) (get_or words k 0) ≡ shared_by a m j k
    both j k l h = ap₂ shared_ones (w j l) (w k h) ∙ shared_ones_lem a m j k
