-- A small archive, reckoned by the rule: figure 3's net, accepted; an empty net, which is 2; and a byte left, which is 1. Assumes nothing.
--   figure_parts, figure_report      its parts, and its report
--   report_none                      an empty archive has no nets
--   report_shuts_out                 no report that is the same for every archive is the rule's
use mathlib.Core.Path.{◌≡◌, refl, sym, ◌∙◌, ap}
use mathlib.Core.List.{List, [], ◌∷◌, ◌++◌}
use Prim.Native.Nat.{ℕ}
use native.Mathlib.Omega.{arith}
use lib.ListN.{get_or}
use Rattle.exact.specs.Circle.{floor, modulo}
use Rattle.exact.specs.First.{first}
use Rattle.exact.specs.Nearest.{nearest}
use Rattle.exact.specs.Same.{same}
use Rattle.exact.specs.Sum.{sum}
use Rattle.exact.specs.Tabulate.{tabulate}
use Rattle.reply.specs.Checks.{in_turn, figure_value}
use Rattle.direction.specs.Ranges.{directions_reply}
use Rattle.condition.specs.Terms.{letter_of as kind_of, term_fault, share, angle, part}
use Rattle.condition.specs.Rules.{directions_miscounted, terms_miscounted, terms_check, checks}
use Rattle.condition.specs.Rules.{coefficient, coefficients_reply, coefficients_list, misclosure, misclosure_figure}
use Rattle.doolittle.specs.Solution.{N, reduced, D, L, M, weak_row, weak, back, K}
use Rattle.adjustment.specs.Corrections.{V_of, R_of, u_of}
use Rattle.adjustment.specs.Refusals.{counts_amiss, differs, lengths_amiss, coefficient_fault, misclosure_fault}
use Rattle.adjustment.specs.Refusals.{conditions_reply as table_reply, rows_reply, correlates_reply, remainders_reply, corrections_reply, solution_reply, input_reply}
use Rattle.adjustment.specs.Promise.{adjust_reply}
use Rattle.text.specs.Parts.{on_first, onto, parted}
use Rattle.text.specs.Lines.{lines_of}
use Rattle.text.specs.Fields.{fields_of, field_at, letter_of}
use Rattle.text.specs.Numbers.{read_digits, unsigned_of, plus, minus, numeral_within}
use Rattle.network.specs.Records.{with, direction_line, angles_line, sides_line, condition_line, angle_line, fixed_line, side_line, line_of, record_of}
use Rattle.network.specs.Scan.{belongs, out_of_turn, one_too_many, direction_reply, angles_reply, sides_reply, term_reply, line_reply, counted, end_fault, end_reply, scanned, scan_reply}
use Rattle.network.specs.Net.{line_before, net_of, refused_as, zeros, lent_of, condition_reply, formed_reply, row_of, misclosure_of, rows_of, misclosures_of}
use Rattle.listing.specs.File.{room, net_reply, file_reply}
use Rattle.touched.specs.Shared.{count, shares_three}
use Rattle.totals.specs.Totals.{largest_at, joined, total, report_of}
use Rattle.season.specs.Archive.{STOP, stops, parts_in, parts_of}
use Rattle.season.specs.Share.{counted_under, sum_to, most_to, alike, size_at, figures, net_figures, share_with, share_of, left_share}
use Rattle.season.specs.Season.{left_shares, shares_in, shares_of, season_report}
use Rattle.network.specs.Net.{kinds_of}
use Rattle.listing.proofs.Figure3.{file}

-- the bytes of figure 3's file, two full stop lines, and a D
abbrev pub archive : List ℕ
archive = file ++ (STOP ∷ 10 ∷ STOP ∷ 10 ∷ 68 ∷ [])

pub figure_parts : parts_of archive ≡ file ∷ [] ∷ (68 ∷ []) ∷ []
unfolding parts_of parts_in onto stops letter_of parted on_first
figure_parts = refl

-- NETS 3, ACCEPTED 1, COUNT 1 1, COUNT 2 1; the two misclosures of figure 3 are 3,000 and 0, both of angle conditions, which share one direction
pub figure_report : season_report (shares_of archive) ≡ 3 ∷ 1 ∷ 1 ∷ 1 ∷ 0 ∷ 0 ∷ 0 ∷ 0 ∷ 0 ∷ 0 ∷ 0 ∷ 3000 ∷ 3000 ∷ 0 ∷ 0 ∷ 0 ∷ []
unfolding floor modulo first nearest sum tabulate directions_reply kind_of share angle part directions_miscounted terms_miscounted in_turn terms_check checks coefficient coefficients_reply coefficients_list misclosure misclosure_figure N reduced D L M weak_row weak back K V_of R_of u_of counts_amiss differs lengths_amiss coefficient_fault misclosure_fault table_reply rows_reply correlates_reply remainders_reply corrections_reply solution_reply input_reply adjust_reply on_first parted lines_of fields_of field_at letter_of read_digits unsigned_of plus minus numeral_within with direction_line angles_line sides_line condition_line angle_line fixed_line side_line line_of record_of term_fault same belongs out_of_turn one_too_many direction_reply angles_reply sides_reply term_reply line_reply counted end_fault end_reply scanned scan_reply line_before net_of refused_as figure_value zeros lent_of condition_reply formed_reply row_of misclosure_of rows_of misclosures_of room net_reply file_reply count shares_three largest_at joined total report_of stops onto parts_in parts_of counted_under sum_to most_to alike size_at figures net_figures share_with share_of left_share left_shares shares_in shares_of season_report kinds_of
figure_report = refl

pub report_none : season_report (shares_of []) ≡ 0 ∷ 0 ∷ 0 ∷ 0 ∷ 0 ∷ 0 ∷ 0 ∷ 0 ∷ 0 ∷ 0 ∷ 0 ∷ 0 ∷ 0 ∷ 0 ∷ 0 ∷ 0 ∷ []
unfolding tabulate parted parts_in parts_of left_shares shares_in shares_of total report_of season_report
report_none = refl

pub report_shuts_out : (totals : List ℕ) → ((bytes : List ℕ) → season_report (shares_of bytes) ≡ totals) → ⊥
report_shuts_out totals same = omega (arith, ap (λ (x : List ℕ). get_or x 0 0) (sym report_none ∙ same [] ∙ sym (same archive) ∙ figure_report))
