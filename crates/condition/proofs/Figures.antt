-- Worked conditions, by computation from the rules. Assumes nothing.
--   first_misclosure                       the first condition of the rules' figure 3
--   side_coefficients, side_misclosure     a side condition with a fixed length
--   refused_reply                          the second term names direction 4 of 3
use mathlib.Core.Path.{◌≡◌, refl}
use mathlib.Core.List.{List, [], ◌∷◌}
use lib.IntN.{ℤ, pos, neg_ℤ}
use Rattle.exact.specs.Circle.{floor, modulo}
use Rattle.exact.specs.First.{first}
use Rattle.exact.specs.Same.{same}
use Rattle.exact.specs.Sum.{sum}
use Rattle.exact.specs.Tabulate.{tabulate}
use Rattle.reply.specs.declared.Refusal.TheVariants.{OutOfRange}
use Rattle.reply.specs.Checks.{in_turn}
use Rattle.direction.specs.Ranges.{directions_reply}
use Rattle.condition.specs.declared.Kind.TheVariants.{Angle, Side}
use Rattle.condition.specs.Terms.{letter_of, share, angle, part}
use Rattle.condition.specs.Rules.{Lent, lent, directions_miscounted, terms_miscounted, terms_check, checks, coefficient, coefficients_reply, coefficients_list, misclosure, misclosure_figure}
use Rattle.std.specs.Prelude.{Ok, Err}

abbrev directions : List ℤ
directions = pos 216000000 ∷ pos 216003000 ∷ pos 215997000 ∷ []

abbrev ones : List ℤ
ones = pos 1 ∷ pos 1 ∷ pos 1 ∷ []

abbrev pub zeros : List ℤ
zeros = pos 0 ∷ pos 0 ∷ pos 0 ∷ []

-- an angle condition of the terms P 0 k, P 0 l and F 216000000
abbrev pub triangle : ℤ → ℤ → Lent
triangle k l =
    lent directions ones Angle (pos 648000000) (pos 80 ∷ pos 80 ∷ pos 70 ∷ []) (pos 0 ∷ pos 0 ∷ pos 216000000 ∷ []) zeros zeros (k ∷ l ∷ pos 0 ∷ [])

-- L 98000000 105 0 1, R 97000000 -212 1 2 and the fixed length R 999000: 105 at 1; on the right -212 at 1 and 212 at 2
abbrev pub side : Lent
side =
    lent directions ones Side (pos 0) (pos 76 ∷ pos 82 ∷ pos 82 ∷ []) (pos 98000000 ∷ pos 97000000 ∷ pos 999000 ∷ [])
    (pos 105 ∷ neg_ℤ (pos 212) ∷ pos 0 ∷ []) (pos 0 ∷ pos 1 ∷ pos 0 ∷ []) (pos 1 ∷ pos 2 ∷ pos 0 ∷ [])

pub first_misclosure : misclosure_figure (triangle (pos 1) (pos 2)) ≡ Ok (pos 3000)
unfolding directions_miscounted terms_miscounted directions_reply in_turn terms_check checks misclosure misclosure_figure same letter_of part angle first sum floor modulo
first_misclosure = refl

pub side_coefficients : (coefficients_reply side 3 ≡ Ok tt) × (coefficients_list side zeros ≡ neg_ℤ (pos 107) ∷ pos 212 ∷ pos 0 ∷ [])
unfolding directions_miscounted terms_miscounted directions_reply in_turn terms_check checks coefficient coefficients_reply coefficients_list same letter_of share first sum tabulate
side_coefficients = (refl, refl)

pub side_misclosure : misclosure_figure side ≡ Ok (pos 100000)
unfolding directions_miscounted terms_miscounted directions_reply in_turn terms_check checks misclosure misclosure_figure same letter_of part angle first sum floor modulo
side_misclosure = refl

pub refused_reply : (coefficients_reply (triangle (pos 1) (pos 4)) 3 ≡ Err (OutOfRange 2)) × (misclosure_figure (triangle (pos 1) (pos 4)) ≡ Err (OutOfRange 2))
unfolding directions_miscounted terms_miscounted directions_reply in_turn terms_check checks coefficient coefficients_reply misclosure misclosure_figure same letter_of share part angle first sum floor modulo
refused_reply = (refl, refl)
