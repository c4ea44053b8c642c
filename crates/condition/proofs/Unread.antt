-- Fields that a kind of term doesn't use, and a side condition's target, are not read: whatever is lent there, the answers are the same.
-- Assumes nothing.
--   angle_unread             the value and d of an angle
--   fixed_angle_unread       the d, i and k of a fixed angle
--   reply_target_unread, figure_target_unread      a side condition's target
use mathlib.Core.Path.{◌≡◌, refl}
use mathlib.Core.List.{List}
use Prim.Native.Nat.{ℕ}
use lib.IntN.{ℤ}
use Rattle.std.specs.Prelude.{Some}
use Rattle.condition.specs.declared.Kind.TheVariants.{Side}
use Rattle.condition.specs.declared.term.Letter.{Letter}
use Rattle.condition.specs.declared.term.Letter.TheVariants.{P, F}
use Rattle.condition.specs.declared.term.Term.{Term}
use Rattle.condition.specs.Terms.{fault, share, angle, part}
use Rattle.condition.specs.Rules.{lent, checks, coefficient, coefficients_reply, misclosure, misclosure_figure}

abbrev term : Letter → ℤ → ℤ → ℤ → ℤ → Term
term letter value d i k = record { letter = Some letter; value = value; d = d; i = i; k = k }

-- two terms that no check and neither answer tells apart
pub record Alike (t u : Term) : Type 0 where
  pub faults : (m : ℤ) → fault m t ≡ fault m u
  pub shares : (h : ℕ) → share t h ≡ share u h
  pub parts : (directions : List ℤ) → part directions t ≡ part directions u

pub angle_unread : (i k value value' d d' : ℤ) → Alike (term P value d i k) (term P value' d' i k)
unfolding share part angle
angle_unread i k value value' d d' = record { faults = λ m. refl; shares = λ h. refl; parts = λ directions. refl }

pub fixed_angle_unread : (value d d' i i' k k' : ℤ) → Alike (term F value d i k) (term F value d' i' k')
unfolding share part
fixed_angle_unread value d d' i i' k k' = record { faults = λ m. refl; shares = λ h. refl; parts = λ directions. refl }

module _ (directions q kinds values d i k : List ℤ) (target target' : ℤ) where
  pub reply_target_unread : (room : ℕ) →
      coefficients_reply (lent directions q Side target kinds values d i k) room ≡ coefficients_reply (lent directions q Side target' kinds values d i k) room
  unfolding coefficients_reply checks coefficient
  reply_target_unread room = refl

  pub figure_target_unread :
      misclosure_figure (lent directions q Side target kinds values d i k) ≡ misclosure_figure (lent directions q Side target' kinds values d i k)
  unfolding misclosure_figure misclosure checks
  figure_target_unread = refl
