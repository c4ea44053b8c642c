-- The test of two whole numbers for equality. Assumes nothing.
--   same_yes, same_no       it passes for equal numbers, and fails for unequal ones; same_true: where it passes, they are equal
--   bits_same, bits_other   what the machine's `==` on their bits told
--   bits_test               that `==` is the same test
use mathlib.Core.Path.{◌≡◌, refl, sym, ap, subst}
use mathlib.Core.Bool.{Bool, true, false}
use borrow.Author.Tests.{eq-eqb, eqb-true, eqb-false}
use lib.Dec.{T, eqb}
use lib.IntN.{ℤ, pos, negsuc}
use mir.Syntax.{w64}
use mir.Val.{SFits, of_z}
use Rattle.exact.specs.Same.{same}
use Rattle.exact.proofs.Bound.{bits_equal}

same_itself : (z : ℤ) → same z z ≡ true
unfolding same
same_itself (pos n) = eq-eqb n n refl
same_itself (negsuc n) = eq-eqb n n refl

pub same_yes : {a b : ℤ} → a ≡ b → same a b ≡ true
same_yes {a} {b} e = subst (λ (z : ℤ). same a z ≡ true) e (same_itself a)

pub same_true : (a b : ℤ) → same a b ≡ true → a ≡ b
unfolding same
same_true (pos a) (pos b) e = ap pos (eqb-true a b e)
same_true (pos a) (negsuc b) e = absurd (subst T (sym e) tt)
same_true (negsuc a) (pos b) e = absurd (subst T (sym e) tt)
same_true (negsuc a) (negsuc b) e = ap negsuc (eqb-true a b e)

pub same_no : (a b : ℤ) → (a ≡ b → ⊥) → same a b ≡ false
same_no a b n = by_test (same a b) refl
  where
    by_test : (t : Bool) → same a b ≡ t → t ≡ false
    by_test true e = absurd (n (same_true a b e))
    by_test false e = refl

-- ---- the machine compares bits
pub bits_same : {a b : ℤ} → SFits w64 a → SFits w64 b → of_z w64 a ≡ of_z w64 b → same a b ≡ true
bits_same f g e = same_yes (bits_equal f g e)

pub bits_other : (a b : ℤ) → (of_z w64 a ≡ of_z w64 b → ⊥) → same a b ≡ false
bits_other a b n = same_no a b (λ e. n (ap (of_z w64) e))

pub bits_test : {a b : ℤ} → SFits w64 a → SFits w64 b → eqb (of_z w64 a) (of_z w64 b) ≡ same a b
bits_test {a} {b} f g = by_test (eqb (of_z w64 a) (of_z w64 b)) refl
  where
    by_test : (t : Bool) → eqb (of_z w64 a) (of_z w64 b) ≡ t → t ≡ same a b
    by_test true e = sym (bits_same f g (eqb-true (of_z w64 a) (of_z w64 b) e))
    by_test false e = sym (bits_other a b (eqb-false (of_z w64 a) (of_z w64 b) e))
