-- The laws of `first`, for a loop that goes through the numbers from 0 up and stops where a test holds. Assumes nothing.
--   first_at            it is the number that passes the test after all before it have failed
--   first_none          n where all fail; some_at, some_none the same of `some_below`
--   first_before        whatever lies before it fails; all_failed: where none passes, all fail
--   first_least         no number that passes the test is below it
--   first_ext, some_ext           of tests that agree below n; first_until: of tests that agree as long as all have failed
--   first_most, first_found      it is n at most; first_more: one number more changes nothing where one before it passes
--   first_either        of one test or another, where the first of the other is known
--   from_failed, from_test, from_ext, from_none      a search that begins at j: whatever lies before j fails, from j on the test decides
--   Failed, failed_none, failed_more       the loop's invariant: all below i fail
--   some_in_range, some_in_list, some_in_slice     `some_below` is what std's `any` answers over `0..n`, over a list, and over its places from j to n
--   not_both            a test does not both hold and fail
use mathlib.Core.Path.{◌≡◌, refl, sym, ◌∙◌, ap, subst}
use mathlib.Core.Bool.{Bool, true, false, cond, ◌||◌, ◌&&◌}
use Prim.Native.Nat.{ℕ, zero, suc, ◌+◌, ◌-◌, ◌<◌, ◌≤◌}
use native.Mathlib.Omega.{arith}
use native.Mathlib.Decide.{dec_le, dec_lt}
use borrow.Author.Tests.{lt-ltb, le-ltb, le-leb, lt-leb, ltb-false}
use borrow.Author.Count.{below_more}
use lib.Dec.{T, leb, ltb}
use lib.ListN.{length, get_or}
use Rattle.std.proofs.Common.{take, drop}
use Rattle.std.proofs.lemmas.List.{length-take-le, length-drop, get_or-take, get_or-drop}
use mathlib.Core.List.{List, [], ◌∷◌}
use Rattle.std.specs.List.{list_any, range_with_len}
use Rattle.std.proofs.lemmas.Bool.{or_right}
use Rattle.std.proofs.lemmas.Bool.Decides.{nat_tests}
use Rattle.exact.specs.First.{first, some_below}

-- a test does not both hold and fail
pub not_both : {A : Type 0} → true ≡ false → A
not_both e = let z : ◌≡◌ {A = ℕ} 0 1 = cc in absurd (omega arith)

-- all numbers below i fail the test
abbrev pub Failed : (ℕ → Bool) → ℕ → Type 0
Failed p i = (h : ℕ) → h < i → p h ≡ false

pub failed_none : (p : ℕ → Bool) → Failed p 0
failed_none p h l = absurd (omega arith)

pub failed_more : (p : ℕ → Bool) (i : ℕ) → Failed p i → p i ≡ false → Failed p (i + 1)
failed_more p i f e = below_more (λ h. p h ≡ false) i f e

pub first_at : (n : ℕ) (p : ℕ → Bool) (i : ℕ) → i < n → Failed p i → p i ≡ true → first n p ≡ i
unfolding first
first_at zero p i l f e = absurd (omega arith)
first_at (suc n) p zero l f e = rw e
first_at (suc n) p (suc i) l f e = rw (f 0 (omega arith)) (ap suc (first_at n (λ h. p (suc h)) i (omega arith) (λ h k. f (suc h) (omega arith)) e))

pub first_none : (n : ℕ) (p : ℕ → Bool) → Failed p n → first n p ≡ n
unfolding first
first_none zero p f = refl
first_none (suc n) p f = rw (f 0 (omega arith)) (ap suc (first_none n (λ h. p (suc h)) (λ h k. f (suc h) (omega arith))))

pub some_at : (n : ℕ) (p : ℕ → Bool) (i : ℕ) → i < n → Failed p i → p i ≡ true → some_below n p ≡ true
some_at n p i l f e = lt-ltb (first n p) n (rw (first_at n p i l f e) l)

pub some_none : (n : ℕ) (p : ℕ → Bool) → Failed p n → some_below n p ≡ false
some_none n p f = le-ltb (first n p) n (omega (arith, first_none n p f))

pub first_before : (n : ℕ) (p : ℕ → Bool) → Failed p (first n p)
unfolding first
first_before zero p h l = absurd (omega arith)
first_before (suc n) p h l = by_test (p 0) refl (first_before n (λ i. p (suc i))) h l
  where
    by_test : (b : Bool) → p 0 ≡ b → Failed (λ i. p (suc i)) (first n (λ i. p (suc i))) → (h : ℕ) → h < cond b 0 (suc (first n (λ i. p (suc i)))) → p h ≡ false
    by_test true e r h l = absurd (omega arith)
    by_test false e r zero l = e
    by_test false e r (suc h) l = r h (omega arith)

pub first_least : (n : ℕ) (p : ℕ → Bool) (i : ℕ) → p i ≡ true → first n p ≤ i
first_least n p i e = by_order (dec_lt i (first n p))
  where
    by_order : Dec (i < first n p) → first n p ≤ i
    by_order (yes l) = absurd (subst T (sym e ∙ first_before n p i l) tt)
    by_order (no l) = omega arith

-- where no number below n passes, all fail
pub all_failed : (n : ℕ) (p : ℕ → Bool) → some_below n p ≡ false → Failed p n
all_failed n p e h l = first_before n p h (omega (arith, ltb-false (first n p) n e))

pub first_ext : (n : ℕ) (p r : ℕ → Bool) → ((i : ℕ) → i < n → p i ≡ r i) → first n p ≡ first n r
unfolding first
first_ext zero p r e = refl
first_ext (suc n) p r e =
    λ t. cond (e 0 (omega arith) t) 0 (suc (first_ext n (λ i. p (suc i)) (λ i. r (suc i)) (λ i l. e (suc i) (omega arith)) t))

pub some_ext : (n : ℕ) (p r : ℕ → Bool) → ((i : ℕ) → i < n → p i ≡ r i) → some_below n p ≡ some_below n r
some_ext n p r e = ap (λ (h : ℕ). ltb h n) (first_ext n p r e)

-- a search that begins at j
pub from_failed : (j : ℕ) (p : ℕ → Bool) → Failed (λ k. leb j k && p k) j
from_failed j p h l = rw (lt-leb j h l)

pub from_test : (j k : ℕ) (p : ℕ → Bool) → j ≤ k → (leb j k && p k) ≡ p k
from_test j k p l = rw (le-leb j k l)

pub from_ext : (n j : ℕ) (p r : ℕ → Bool) → ((k : ℕ) → j ≤ k → k < n → p k ≡ r k) → first n (λ k. leb j k && p k) ≡ first n (λ k. leb j k && r k)
from_ext n j p r e = first_ext n (λ k. leb j k && p k) (λ k. leb j k && r k) (λ k l. by_order k l (dec_le j k))
  where
    under : (k : ℕ) → ¬ (j ≤ k) → k < j
    under k h = omega arith

    by_order : (k : ℕ) → k < n → Dec (j ≤ k) → (leb j k && p k) ≡ (leb j k && r k)
    by_order k l (yes h) = from_test j k p h ∙ e k h l ∙ sym (from_test j k r h)
    by_order k l (no h) = from_failed j p k (under k h) ∙ sym (from_failed j r k (under k h))

-- where none passes, none from j on does
pub from_none : (n j : ℕ) (p : ℕ → Bool) → some_below n (λ k. leb j k && p k) ≡ false → (k : ℕ) → j ≤ k → k < n → p k ≡ false
from_none n j p e k h l = sym (from_test j k p h) ∙ all_failed n (λ k. leb j k && p k) e k l

-- ---- tests that agree as long as all have failed
pub first_until : (n : ℕ) (p r : ℕ → Bool) → ((i : ℕ) → i < n → Failed p i → p i ≡ r i) → first n p ≡ first n r
unfolding first
first_until zero p r e = refl
first_until (suc n) p r e = by_first (p 0) (r 0) refl (e 0 (omega arith) (λ h l. absurd (omega arith))) (first_until n (λ i. p (suc i)) (λ i. r (suc i)))
  where
    failed : (i : ℕ) → p 0 ≡ false → Failed (λ h. p (suc h)) i → Failed p (suc i)
    failed i t f zero l = t
    failed i t f (suc h) l = f h (omega arith)

    by_first : (x y : Bool) → p 0 ≡ x → x ≡ y
        → (((i : ℕ) → i < n → Failed (λ h. p (suc h)) i → p (suc i) ≡ r (suc i)) → first n (λ i. p (suc i)) ≡ first n (λ i. r (suc i)))
        → cond x 0 (suc (first n (λ i. p (suc i)))) ≡ cond y 0 (suc (first n (λ i. r (suc i))))
    by_first x y t same rec = rw (← same) (by_test x t)
      where
        by_test : (x : Bool) → p 0 ≡ x → cond x 0 (suc (first n (λ i. p (suc i)))) ≡ cond x 0 (suc (first n (λ i. r (suc i))))
        by_test true t = refl
        by_test false t = ap suc (rec (λ i l f. e (suc i) (omega arith) (failed i t f)))

-- ---- one of two tests
pub first_either : (n : ℕ) (p q : ℕ → Bool) → first n (λ i. p i || q i) ≡ first (first n q) p
unfolding first
first_either zero p q = refl
first_either (suc n) p q = by_tests (p 0) refl (q 0) (first_either n (λ i. p (suc i)) (λ i. q (suc i)))
  where
    by_first : (a : Bool) → p 0 ≡ a → first n (λ i. p (suc i) || q (suc i)) ≡ first (first n (λ i. q (suc i))) (λ i. p (suc i))
        → cond (a || false) 0 (suc (first n (λ i. p (suc i) || q (suc i)))) ≡ first (suc (first n (λ i. q (suc i)))) p
    by_first true e rec = rw e
    by_first false e rec = rw e (ap suc rec)

    by_tests : (a : Bool) → p 0 ≡ a → (b : Bool) → first n (λ i. p (suc i) || q (suc i)) ≡ first (first n (λ i. q (suc i))) (λ i. p (suc i))
        → cond (a || b) 0 (suc (first n (λ i. p (suc i) || q (suc i)))) ≡ first (cond b 0 (suc (first n (λ i. q (suc i))))) p
    by_tests a e true rec = rw (or_right a true refl)
    by_tests a e false rec = by_first a e rec

pub first_most : (n : ℕ) (p : ℕ → Bool) → first n p ≤ n
unfolding first
first_most zero p = omega arith
first_most (suc n) p = by_test (p 0) (first_most n (λ i. p (suc i)))
  where
    by_test : (b : Bool) → first n (λ i. p (suc i)) ≤ n → cond b 0 (suc (first n (λ i. p (suc i)))) ≤ suc n
    by_test true rec = omega arith
    by_test false rec = omega arith

pub first_found : {n stop : ℕ} (p : ℕ → Bool) → stop ≡ first n p → stop ≤ n
first_found {n} {stop} p e = omega (arith, e, first_most n p)

-- one number more, where one before it passes
pub first_more : (n : ℕ) (p : ℕ → Bool) (i : ℕ) → i < n → p i ≡ true → first (suc n) p ≡ first n p
unfolding first
first_more zero p i l e = absurd (omega arith)
first_more (suc n) p zero l e = rw e
first_more (suc n) p (suc i) l e = ap (λ (k : ℕ). cond (p 0) 0 (suc k)) (first_more n (λ h. p (suc h)) i (omega arith) e)

-- ---- what std's `any` answers over a range of numbers or over the elements of a list
ltb_suc : (f n : ℕ) → ltb (suc f) (suc n) ≡ ltb f n
ltb_suc f n = grind (arith, nat_tests)

leb_suc : (j k : ℕ) → leb (suc j) (suc k) ≡ leb j k
leb_suc j k = grind (arith, nat_tests)

some_from : (a n : ℕ) (p : ℕ → Bool) → some_below n (λ i. p (a + i)) ≡ list_any p (range_with_len a n)
unfolding first
some_from a zero p = refl
some_from a (suc n) p =
    by_test (p a) (ap p (omega arith)) (some_ext n (λ i. p (a + suc i)) (λ i. p (a + 1 + i)) (λ i l. ap p (omega arith)) ∙ some_from (a + 1) n p)
  where
    by_test : (b : Bool) → p (a + 0) ≡ b → some_below n (λ i. p (a + suc i)) ≡ list_any p (range_with_len (a + 1) n)
        → some_below (suc n) (λ i. p (a + i)) ≡ (b || list_any p (range_with_len (a + 1) n))
    by_test true e r = rw e (lt-ltb 0 (suc n) (omega arith))
    by_test false e r = rw e (ltb_suc (first n (λ i. p (a + suc i))) n ∙ r)

pub some_in_range : (n : ℕ) (p : ℕ → Bool) → some_below n p ≡ list_any p (range_with_len 0 n)
some_in_range n p = some_ext n p (λ i. p (0 + i)) (λ i l. ap p (omega arith)) ∙ some_from 0 n p

from_shifted : (j n : ℕ) (p : ℕ → Bool) → some_below n (λ k. leb j k && p k) ≡ some_below (n - j) (λ i. p (j + i))
unfolding first
from_shifted zero n p =
    let e : n ≡ n - 0 = omega arith in
    some_ext n (λ k. leb 0 k && p k) (λ i. p (0 + i)) (λ i l. from_test 0 i p (omega arith) ∙ ap p (omega arith))
    ∙ ap (λ (m : ℕ). some_below m (λ i. p (0 + i))) e
from_shifted (suc j) zero p = let e : 0 ≡ 0 - suc j = omega arith in ap (λ (m : ℕ). some_below m (λ i. p (suc j + i))) e
from_shifted (suc j) (suc n) p =
    let e : n - j ≡ suc n - suc j = omega arith in
    let b : leb (suc j) 0 ≡ false = lt-leb (suc j) 0 (omega arith) in
    rw b (ltb_suc (first n (λ k. leb (suc j) (suc k) && p (suc k))) n)
    ∙ some_ext n (λ k. leb (suc j) (suc k) && p (suc k)) (λ k. leb j k && p (suc k)) (λ k l. ap (λ (b : Bool). b && p (suc k)) (leb_suc j k))
    ∙ from_shifted j n (λ k. p (suc k)) ∙ some_ext (n - j) (λ i. p (suc (j + i))) (λ i. p (suc j + i)) (λ i l. ap p (omega arith))
    ∙ ap (λ (m : ℕ). some_below m (λ i. p (suc j + i))) e

pub some_in_list : {A : Type 0} (xs : List A) (p : A → Bool) (d : A) → some_below (length xs) (λ i. p (get_or xs i d)) ≡ list_any p xs
unfolding first
some_in_list [] p d = refl
some_in_list (x ∷ xs) p d = by_test (p x) (some_in_list xs p d)
  where
    rest : ℕ
    rest = first (length xs) (λ i. p (get_or xs i d))

    by_test : (b : Bool) → ltb rest (length xs) ≡ list_any p xs → ltb (cond b 0 (suc rest)) (suc (length xs)) ≡ (b || list_any p xs)
    by_test true r = lt-ltb 0 (suc (length xs)) (omega arith)
    by_test false r = ltb_suc rest (length xs) ∙ r

pub some_in_slice : {A : Type 0} (xs : List A) (j n : ℕ) (p : A → Bool) (d : A) → j ≤ n → n ≤ length xs
    → list_any p (take (n - j) (drop j xs)) ≡ some_below n (λ k. leb j k && p (get_or xs k d))
some_in_slice xs j n p d a b =
    let part = take (n - j) (drop j xs) in
    let long : length part ≡ n - j = length-take-le (n - j) (drop j xs) (omega (arith, length-drop j xs)) in
    sym (some_in_list part p d) ∙ ap (λ (m : ℕ). some_below m (λ i. p (get_or part i d))) long
    ∙ some_ext (n - j) (λ i. p (get_or part i d)) (λ i. p (get_or xs (j + i) d))
    (λ i l. ap p (get_or-take (n - j) (drop j xs) i d l ∙ get_or-drop j xs i d))
    ∙ sym (from_shifted j n (λ k. p (get_or xs k d)))
