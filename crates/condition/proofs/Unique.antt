-- The promises leave nothing open: two answers that meet one promise are equal. Assumes nothing.
--   one_answer       of `coefficients`: its reply, and the final contents of the lent list
--   one_figure       of `misclosure`
--   one_fault, one_target, one_belonging     of `term_fault`, of `target_fault` and of `belongs`
use mathlib.Core.Path.{◌≡◌}
use mathlib.Core.Bool.{Bool}
use mathlib.Core.List.{List}
use Prim.Native.Nat.{ℕ}
use lib.IntN.{ℤ, pos}
use Rattle.exact.proofs.Unique.{only}
use Rattle.reply.specs.Reply.{Reply}
use Rattle.reply.specs.Reply.{Figure}
use Rattle.condition.specs.declared.Kind.{Kind}
use Rattle.condition.specs.Terms.{letter_of, suits, term_fault}
use Rattle.condition.specs.Rules.{Lent, target_fault}
use Rattle.condition.specs.Promise.{Coefficients, Misclosed}

pub one_answer : (l : Lent) (before : List ℤ) (r s : Reply) (a b : List ℤ) → Coefficients l before r a → Coefficients l before s b → (r ≡ s) × (a ≡ b)
one_answer l before r s a b x y = (only x.answer y.answer, only x.list y.list)

pub one_figure : (l : Lent) (f g : Figure) → Misclosed l f → Misclosed l g → f ≡ g
one_figure l f g x y = only x.answer y.answer

pub one_fault : (m : ℤ) (letter : ℕ) (value d i k : ℤ) (a b : Bool) → a ≡ term_fault m letter value d i k → b ≡ term_fault m letter value d i k → a ≡ b
one_fault m letter value d i k a b x y = only x y

pub one_target : (target : ℤ) (a b : Bool) → a ≡ target_fault target → b ≡ target_fault target → a ≡ b
one_target target a b x y = only x y

pub one_belonging : (kind : Kind) (letter : ℕ) (a b : Bool) → a ≡ suits kind (letter_of (pos letter)) → b ≡ suits kind (letter_of (pos letter)) → a ≡ b
one_belonging kind letter a b x y = only x y
