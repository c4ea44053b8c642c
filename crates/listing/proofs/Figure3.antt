-- Figure 3: its file is accepted, and its listing, byte for byte, also with its E line, by computation from the rules. Assumes nothing.
use mathlib.Core.Path.{◌≡◌, refl, ap}
use mathlib.Core.List.{List, [], ◌∷◌, ◌++◌}
use Prim.Native.Nat.{ℕ}
use native.Mathlib.Omega.{arith}
use lib.IntN.{ℤ}
use Rattle.exact.specs.Circle.{floor, modulo}
use Rattle.exact.specs.First.{first}
use Rattle.exact.specs.Nearest.{nearest}
use Rattle.exact.specs.Same.{same}
use Rattle.exact.specs.Sum.{sum}
use Rattle.exact.specs.Tabulate.{tabulate}
use Rattle.reply.specs.Checks.{in_turn, figure_value}
use Rattle.direction.specs.Ranges.{directions_reply}
use Rattle.condition.specs.Terms.{letter_of as kind_of, term_fault, share, angle, part}
use Rattle.condition.specs.Rules.{directions_miscounted, terms_miscounted, terms_check, checks}
use Rattle.condition.specs.Rules.{coefficient, coefficients_reply, coefficients_list, misclosure, misclosure_figure}
use Rattle.doolittle.specs.Solution.{N, reduced, D, L, M, weak_row, weak, back, K}
use Rattle.adjustment.specs.Corrections.{V_of, R_of, u_of, adjusted_of, Q_of}
use Rattle.adjustment.specs.Refusals.{counts_amiss, differs, lengths_amiss, coefficient_fault, misclosure_fault}
use Rattle.adjustment.specs.Refusals.{conditions_reply as table_reply, rows_reply, correlates_reply, remainders_reply, corrections_reply, solution_reply, input_reply}
use Rattle.adjustment.specs.Promise.{adjust_reply}
use Rattle.precision.specs.Errors.{S, probable_error, errors_of}
use Rattle.precision.proofs.Meaning.{mean_found}
use Rattle.text.specs.Parts.{on_first, parted}
use Rattle.text.specs.Lines.{lines_of}
use Rattle.text.specs.Fields.{fields_of, field_at, letter_of}
use Rattle.text.specs.Numbers.{read_digits, unsigned_of, plus, minus, numeral_within}
use Rattle.text.specs.Decimal.{digits, digits_of, written}
use Rattle.network.specs.Records.{with, direction_line, angles_line, sides_line, condition_line, angle_line, fixed_line, side_line, line_of, record_of}
use Rattle.network.specs.Scan.{belongs, out_of_turn, one_too_many, direction_reply, angles_reply, sides_reply, term_reply, line_reply, counted, end_fault, end_reply, scanned, scan_reply}
use Rattle.network.specs.Net.{line_before, net_of, refused_as, zeros, lent_of, condition_reply, formed_reply, row_of, misclosure_of, rows_of, misclosures_of}
use Rattle.text.specs.Written.{in_order}
use Rattle.page.specs.Page.{printed}
use Rattle.listing.specs.declared.Sheet.TheVariants.{Plain, WithErrors}
use Rattle.listing.specs.Listing.{e_line, on_sheet}
use Rattle.listing.specs.File.{table_in, room, net_reply, net_answers, file_reply, answers_listing, answers_errors, answers_on, net_listing, listing_of}
use Rattle.std.specs.Prelude.{Ok}

-- figure 3, "Case 3 input to the adjusting program". Each byte by its number; a blank stands for a tab, and | for an LF:
-- D 1 216000000 1|D 2 216003000 1|D 3 215997000 1|C A 648000000|P 0 1|P 0 2|F 216000000|C A 648000000|P 0 2|P 0 3|F 216000000|
abbrev pub file : List ℕ
file =
    68 ∷ 9 ∷ 49 ∷ 9 ∷ 50 ∷ 49 ∷ 54 ∷ 48 ∷ 48 ∷ 48 ∷ 48 ∷ 48 ∷ 48 ∷ 9 ∷ 49 ∷ 10 ∷
    68 ∷ 9 ∷ 50 ∷ 9 ∷ 50 ∷ 49 ∷ 54 ∷ 48 ∷ 48 ∷ 51 ∷ 48 ∷ 48 ∷ 48 ∷ 9 ∷ 49 ∷ 10 ∷
    68 ∷ 9 ∷ 51 ∷ 9 ∷ 50 ∷ 49 ∷ 53 ∷ 57 ∷ 57 ∷ 55 ∷ 48 ∷ 48 ∷ 48 ∷ 9 ∷ 49 ∷ 10 ∷
    67 ∷ 9 ∷ 65 ∷ 9 ∷ 54 ∷ 52 ∷ 56 ∷ 48 ∷ 48 ∷ 48 ∷ 48 ∷ 48 ∷ 48 ∷ 10 ∷
    80 ∷ 9 ∷ 48 ∷ 9 ∷ 49 ∷ 10 ∷
    80 ∷ 9 ∷ 48 ∷ 9 ∷ 50 ∷ 10 ∷
    70 ∷ 9 ∷ 50 ∷ 49 ∷ 54 ∷ 48 ∷ 48 ∷ 48 ∷ 48 ∷ 48 ∷ 48 ∷ 10 ∷
    67 ∷ 9 ∷ 65 ∷ 9 ∷ 54 ∷ 52 ∷ 56 ∷ 48 ∷ 48 ∷ 48 ∷ 48 ∷ 48 ∷ 48 ∷ 10 ∷
    80 ∷ 9 ∷ 48 ∷ 9 ∷ 50 ∷ 10 ∷
    80 ∷ 9 ∷ 48 ∷ 9 ∷ 51 ∷ 10 ∷
    70 ∷ 9 ∷ 50 ∷ 49 ∷ 54 ∷ 48 ∷ 48 ∷ 48 ∷ 48 ∷ 48 ∷ 48 ∷ 10 ∷
    []

-- figure 3, "Its output". Each byte by its number; a blank stands for a tab, and | for an LF:
-- ADJ 3 2|V 1 -2000 215998000|V 2 -1000 216002000|V 3 1000 215998000|K 1 -2000000 0 0|K 2 1000000 0 0|
abbrev pub listing : List ℕ
listing =
    65 ∷ 68 ∷ 74 ∷ 9 ∷ 51 ∷ 9 ∷ 50 ∷ 10 ∷
    86 ∷ 9 ∷ 49 ∷ 9 ∷ 45 ∷ 50 ∷ 48 ∷ 48 ∷ 48 ∷ 9 ∷ 50 ∷ 49 ∷ 53 ∷ 57 ∷ 57 ∷ 56 ∷ 48 ∷ 48 ∷ 48 ∷ 10 ∷
    86 ∷ 9 ∷ 50 ∷ 9 ∷ 45 ∷ 49 ∷ 48 ∷ 48 ∷ 48 ∷ 9 ∷ 50 ∷ 49 ∷ 54 ∷ 48 ∷ 48 ∷ 50 ∷ 48 ∷ 48 ∷ 48 ∷ 10 ∷
    86 ∷ 9 ∷ 51 ∷ 9 ∷ 49 ∷ 48 ∷ 48 ∷ 48 ∷ 9 ∷ 50 ∷ 49 ∷ 53 ∷ 57 ∷ 57 ∷ 56 ∷ 48 ∷ 48 ∷ 48 ∷ 10 ∷
    75 ∷ 9 ∷ 49 ∷ 9 ∷ 45 ∷ 50 ∷ 48 ∷ 48 ∷ 48 ∷ 48 ∷ 48 ∷ 48 ∷ 9 ∷ 48 ∷ 9 ∷ 48 ∷ 10 ∷
    75 ∷ 9 ∷ 50 ∷ 9 ∷ 49 ∷ 48 ∷ 48 ∷ 48 ∷ 48 ∷ 48 ∷ 48 ∷ 9 ∷ 48 ∷ 9 ∷ 48 ∷ 10 ∷
    []

-- its E line. Each byte by its number; a blank stands for a tab, and | for an LF: E 1732 1168|
-- S is 2,520*6,000,000, and 1,732 is the largest whole number whose square is not above 6,000,000/2; 0.6745*1,732 is 1,168.234
abbrev pub errors_line : List ℕ
errors_line = 69 ∷ 9 ∷ 49 ∷ 55 ∷ 51 ∷ 50 ∷ 9 ∷ 49 ∷ 49 ∷ 54 ∷ 56 ∷ 10 ∷ []

pub figure_3 : (file_reply file ≡ Ok tt) × (listing_of Plain file ≡ listing) × (listing_of WithErrors file ≡ listing ++ errors_line)
unfolding floor modulo first nearest sum tabulate directions_reply kind_of share angle part directions_miscounted terms_miscounted in_turn terms_check checks coefficient coefficients_reply coefficients_list misclosure misclosure_figure N reduced D L M weak_row weak back K V_of R_of u_of adjusted_of Q_of counts_amiss differs lengths_amiss coefficient_fault misclosure_fault table_reply rows_reply correlates_reply remainders_reply corrections_reply solution_reply input_reply adjust_reply on_first parted lines_of fields_of field_at letter_of read_digits unsigned_of plus minus numeral_within digits digits_of written with direction_line angles_line sides_line condition_line angle_line fixed_line side_line line_of record_of term_fault same belongs out_of_turn one_too_many direction_reply angles_reply sides_reply term_reply line_reply counted end_fault end_reply scanned scan_reply line_before net_of refused_as figure_value zeros lent_of condition_reply formed_reply row_of misclosure_of rows_of misclosures_of table_in room net_reply net_answers file_reply in_order answers_listing net_listing answers_errors answers_on S probable_error errors_of on_sheet printed listing_of
figure_3 = (refl, refl, ap (λ (e : ℤ). listing ++ e_line e (probable_error e)) (mean_found 2 15120000000 1732 (omega arith) tt tt))
