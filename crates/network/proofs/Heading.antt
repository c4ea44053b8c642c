-- A term's letter under a heading, as `condition` judges it. Assumes nothing.
--   belongs_some   under a kind of condition
use mathlib.Core.Path.{◌≡◌, refl, sym, subst}
use mathlib.Core.Bool.{Bool, true, false, cond, ◌||◌}
use Prim.Native.Nat.{ℕ}
use borrow.Author.Tests.{eqb-true}
use lib.Dec.{eqb}
use lib.IntN.{pos}
use Rattle.exact.specs.Same.{same}
use Rattle.condition.specs.declared.Kind.{Kind}
use Rattle.condition.specs.declared.Kind.TheVariants.{Angle, Side}
use Rattle.condition.specs.declared.term.Letter.{Letter}
use Rattle.condition.specs.declared.term.Letter.TheVariants.{P, F, L, R}
use Rattle.condition.specs.Terms.{letter_of, suits}
use Rattle.network.specs.Records.{letter_P, letter_F, letter_L, letter_R}
use Rattle.network.specs.Scan.{belongs}
use Rattle.std.specs.Prelude.{Option, Some, None}

-- the letter that four tests find, one after another
abbrev found : (p f l r : Bool) → Option Letter
found p f l r = cond p (Some P) (cond f (Some F) (cond l (Some L) (cond r (Some R) None)))

angle : (p f l r : Bool) → suits Angle (found p f l r) ≡ (p || f)
angle true f l r = refl
angle false true l r = refl
angle false false true r = refl
angle false false false true = refl
angle false false false false = refl

side : (p f l r : Bool) → (p ≡ true → (l || r) ≡ false) → (f ≡ true → (l || r) ≡ false) → suits Side (found p f l r) ≡ (l || r)
side true f l r x y = sym (x refl)
side false true l r x y = sym (y refl)
side false false true r x y = refl
side false false false true x y = refl
side false false false false x y = refl

-- a letter of angles is none of sides
no_side : (letter known : ℕ) → (eqb known letter_L || eqb known letter_R) ≡ false → eqb letter known ≡ true → (eqb letter letter_L || eqb letter letter_R) ≡ false
no_side letter known n e = subst (λ (x : ℕ). (eqb x letter_L || eqb x letter_R) ≡ false) (sym (eqb-true letter known e)) n

pub belongs_some : (kind : Kind) (letter : ℕ) → suits kind (letter_of (pos letter)) ≡ belongs (Some kind) letter
unfolding letter_of same belongs
belongs_some Angle letter = angle (eqb letter letter_P) (eqb letter letter_F) (eqb letter letter_L) (eqb letter letter_R)
belongs_some Side letter =
    side (eqb letter letter_P) (eqb letter letter_F) (eqb letter letter_L) (eqb letter letter_R)
    (no_side letter letter_P refl) (no_side letter letter_F refl)
