-- What one net has in the report: its share in each of the sixteen totals.
use Rattle.std.specs.Prelude.{Bool, true, false, cond, ◌&&◌, List, [], ◌∷◌, ◌++◌, ℕ, zero, suc, ◌+◌, max, eqb, ltb, ℤ, pos, nat_abs, length, get_or}
use Rattle.exact.specs.Tabulate.{tabulate}
use Rattle.reply.specs.Reply.{Reply}
use Rattle.reply.specs.Checks.{leaves}
use Rattle.reply.specs.Verdicts.{verdict_of}
use Rattle.text.specs.Lines.{lines_of}
use Rattle.touched.specs.Shared.{one_if, shares_three}
use Rattle.condition.specs.declared.Kind.{Kind}
use Rattle.condition.specs.declared.Kind.TheVariants.{Angle, Side}
use Rattle.network.specs.Net.{Net, net_of, rows_of, misclosures_of, kinds_of}
use Rattle.listing.specs.File.{file_reply}

-- ---- "how many were accepted, how many refused under each number": one net, under its number, which is 0 where it is accepted
unfoldable pub counted_under : (number : ℕ) → List ℕ
counted_under number = 1 ∷ tabulate 10 (λ k. one_if (eqb k number))

-- ---- "the sum of the sizes and the largest size of the misclosures by kind of condition"
-- f 0 + .. + f (n − 1), and the largest of them
unfoldable pub sum_to : ℕ → (ℕ → ℕ) → ℕ
sum_to zero f = 0
sum_to (suc n) f = sum_to n f + f n

unfoldable pub most_to : ℕ → (ℕ → ℕ) → ℕ
most_to zero f = 0
most_to (suc n) f = max (most_to n f) (f n)

-- two kinds are one
unfoldable pub alike : Kind → Kind → Bool
alike Angle Angle = true
alike Angle Side = false
alike Side Angle = false
alike Side Side = true

-- the size of condition j's misclosure, where there is such a condition and it is of this kind
unfoldable pub size_at : (kind : Kind) (kinds : List Kind) (w : List ℤ) (j : ℕ) → ℕ
size_at kind kinds w j = cond (ltb j (length kinds) && alike (get_or kinds j Angle) kind) (nat_abs (get_or w j (pos 0))) 0

-- the last five of an accepted net, whose conditions have these kinds, misclosures and rows of m coefficients
unfoldable pub figures : (kinds : List Kind) (w a : List ℤ) (m : ℕ) → List ℕ
figures kinds w a m =
    sum_to (length w) (size_at Angle kinds w)
    ∷ most_to (length w) (size_at Angle kinds w)
    ∷ sum_to (length w) (size_at Side kinds w)
    ∷ most_to (length w) (size_at Side kinds w)
    -- "the number of nets with two conditions that share three or more directions"
    ∷ one_if (shares_three a m (length w))
    ∷ []

abbrev pub no_figures : List ℕ
no_figures = 0 ∷ 0 ∷ 0 ∷ 0 ∷ 0 ∷ []

unfoldable pub net_figures : Net → List ℕ
net_figures net =
    figures (kinds_of net.conditions) (misclosures_of net.directions net.q net.conditions)
    (rows_of net.directions net.q net.conditions) (length net.directions)

-- ---- a net that is closed: as the adjusting program replies to it; figures "over the accepted nets" alone
unfoldable pub share_with : Reply → (figures : List ℕ) → List ℕ
share_with reply five = counted_under (verdict_of reply).number ++ leaves reply five no_figures

unfoldable pub share_of : (file : List ℕ) → List ℕ
share_of file = share_with (file_reply file) (net_figures (net_of (lines_of file)))

-- ---- "Bytes left after the last full stop line are a net counted under 1"
unfoldable pub left_share : List ℕ
left_share = counted_under 1 ++ no_figures

-- "A net over 65,535 bytes counts under 2"
unfoldable pub long_share : List ℕ
long_share = counted_under 2 ++ no_figures
