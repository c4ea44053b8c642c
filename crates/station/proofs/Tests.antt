-- What the code's tests tell. Assumes nothing.
--   and_true               both sides of an `&&` that passes
--   refuted, upheld        what `!x` tells of the rule v that x is
--   same_tests             two tests that pass together are the same
use mathlib.Core.Path.{◌≡◌, refl, sym, ◌∙◌, subst}
use mathlib.Core.Bool.{Bool, true, false, not, ◌&&◌}
use borrow.Author.Tests.{not-true, not-false}
use lib.Dec.{T}

pub and_true : (a b : Bool) → a && b ≡ true → (a ≡ true) × (b ≡ true)
and_true true b p = (refl, p)
and_true false b p = absurd (subst T (sym p) tt)

pub refuted : {x v : Bool} → x ≡ v → not x ≡ true → v ≡ false
refuted {x} e t = sym e ∙ not-true x t

pub upheld : {x v : Bool} → x ≡ v → not x ≡ false → v ≡ true
upheld {x} e t = sym e ∙ not-false x t

pub same_tests : (x y : Bool) → (x ≡ true → y ≡ true) → (y ≡ true → x ≡ true) → x ≡ y
same_tests true y f g = sym (f refl)
same_tests false true f g = g refl
same_tests false false f g = refl
