-- Sheets held against nets, by computation from the rules: figure 3's, and a net that the adjusting program refuses. Assumes nothing.
-- Each byte by its number; in the comments a blank stands for a tab, and | for an LF.
--   figure_3_yes                 figure 3's own listing gets yes; other_yes: so does a sheet with other K whose remainders are small
--   digit_no, remainder_no, large_no, idle_no, counts_no      a digit of a u changed, and of an R; a K beyond 10^8, before the lines; no corrections at all; another net's counts
--   empty_refused, cut_refused, more_refused, net_first     an empty listing; one whose last LF is missing; one line more; a net that is refused itself
--   weak_yes                     the net of two equal conditions is refused with 6, and a sheet of it gets yes
--   opinion_shuts_out            no opinion that is the same for every net and listing is the rule's
use mathlib.Core.Path.{◌≡◌, refl, sym, ◌∙◌}
use mathlib.Core.List.{List, [], ◌∷◌, ◌++◌}
use Prim.Native.Nat.{ℕ}
use native.Mathlib.Omega.{arith}
use lib.ListN.{take, drop}
use Rattle.exact.specs.Circle.{floor, modulo}
use Rattle.exact.specs.First.{first}
use Rattle.exact.specs.Nearest.{nearest}
use Rattle.exact.specs.Same.{same}
use Rattle.exact.specs.Sum.{sum}
use Rattle.exact.specs.Tabulate.{tabulate}
use Rattle.reply.specs.declared.Refusal.TheVariants.{Count, WeakRow, Sheet}
use Rattle.reply.specs.Checks.{in_turn, figure_value}
use Rattle.direction.specs.Ranges.{directions_reply}
use Rattle.condition.specs.Terms.{letter_of as kind_of, term_fault, share, angle, part}
use Rattle.condition.specs.Rules.{directions_miscounted, terms_miscounted, terms_check, checks, coefficient, coefficients_reply, coefficients_list, misclosure, misclosure_figure}
use Rattle.doolittle.specs.Solution.{N, reduced, D, L, M, weak_row, weak}
use Rattle.adjustment.specs.Corrections.{V_of, R_of, u_of, adjusted_of, Q_of}
use Rattle.adjustment.specs.Refusals.{counts_amiss, differs, lengths_amiss, coefficient_fault, misclosure_fault, conditions_reply, rows_reply, solution_reply, input_reply}
use Rattle.adjustment.specs.Promise.{adjust_reply}
use Rattle.text.specs.Parts.{bytes_before, place_from, on_first, parted, begins}
use Rattle.text.specs.Lines.{line_at, lines_of, line_no, bytes_of}
use Rattle.text.specs.Fields.{fields_of, field_at, letter_of}
use Rattle.text.specs.Numbers.{read_digits, unsigned_of, plus, minus, numeral_within}
use Rattle.text.specs.Rows.{before, numbers_within, behind_within, row_values, row_within}
use Rattle.network.specs.Records.{with, direction_line, angles_line, sides_line, condition_line, angle_line, fixed_line, side_line, line_of, record_of}
use Rattle.network.specs.Scan.{belongs, out_of_turn, one_too_many, direction_reply, angles_reply, sides_reply, term_reply, line_reply, counted, end_fault, end_reply, scanned, scan_reply}
use Rattle.network.specs.Net.{line_before, net_of, refused_as, zeros, lent_of, condition_reply, formed_reply, row_of, misclosure_of, rows_of, misclosures_of, table_reply}
use Rattle.listing.specs.File.{table_in, room, net_reply, file_reply}
use Rattle.listing.proofs.Figure3.{file, listing}
use Rattle.reply.specs.declared.Refusal.{Refusal}
use Rattle.std.specs.Prelude.{Result, Ok, Err}
use Rattle.sheet.specs.declared.Opinion.{Opinion}
use Rattle.sheet.specs.declared.Opinion.TheVariants.{Yes, No}
use Rattle.sheet.specs.Form.{heading_of, heading_amiss, count_no, letter_due, fields_due, number_due, numbered, due_at, row_no, malformed, goes_on, form_reply, field_no}
use Rattle.sheet.specs.Check.{counts_differ, correlate_too_large, direction_differs, condition_differs, disagreement, check_reply, opinion_of}

-- ---- sheets of figure 3's net
-- K(1) is one less than the adjusting program has it. The corrections are the same, and the remainders far within 50,000,000
-- ADJ 3 2|V 1 -2000 215998000|V 2 -1000 216002000|V 3 1000 215998000|K 1 -2000001 -20000 0|K 2 1000000 -10000 0|
abbrev pub other : List ℕ
other =
    65 ∷ 68 ∷ 74 ∷ 9 ∷ 51 ∷ 9 ∷ 50 ∷ 10 ∷
    86 ∷ 9 ∷ 49 ∷ 9 ∷ 45 ∷ 50 ∷ 48 ∷ 48 ∷ 48 ∷ 9 ∷ 50 ∷ 49 ∷ 53 ∷ 57 ∷ 57 ∷ 56 ∷ 48 ∷ 48 ∷ 48 ∷ 10 ∷
    86 ∷ 9 ∷ 50 ∷ 9 ∷ 45 ∷ 49 ∷ 48 ∷ 48 ∷ 48 ∷ 9 ∷ 50 ∷ 49 ∷ 54 ∷ 48 ∷ 48 ∷ 50 ∷ 48 ∷ 48 ∷ 48 ∷ 10 ∷
    86 ∷ 9 ∷ 51 ∷ 9 ∷ 49 ∷ 48 ∷ 48 ∷ 48 ∷ 9 ∷ 50 ∷ 49 ∷ 53 ∷ 57 ∷ 57 ∷ 56 ∷ 48 ∷ 48 ∷ 48 ∷ 10 ∷
    75 ∷ 9 ∷ 49 ∷ 9 ∷ 45 ∷ 50 ∷ 48 ∷ 48 ∷ 48 ∷ 48 ∷ 48 ∷ 49 ∷ 9 ∷ 45 ∷ 50 ∷ 48 ∷ 48 ∷ 48 ∷ 48 ∷ 9 ∷ 48 ∷ 10 ∷
    75 ∷ 9 ∷ 50 ∷ 9 ∷ 49 ∷ 48 ∷ 48 ∷ 48 ∷ 48 ∷ 48 ∷ 48 ∷ 9 ∷ 45 ∷ 49 ∷ 48 ∷ 48 ∷ 48 ∷ 48 ∷ 9 ∷ 48 ∷ 10 ∷
    []

-- the u of direction 2 is -1,001
-- ADJ 3 2|V 1 -2000 215998000|V 2 -1001 216002000|V 3 1000 215998000|K 1 -2000000 0 0|K 2 1000000 0 0|
abbrev pub digit : List ℕ
digit = take 36 listing ++ (49 ∷ drop 37 listing)

-- R(1) is 1 for 0
-- ADJ 3 2|V 1 -2000 215998000|V 2 -1000 216002000|V 3 1000 215998000|K 1 -2000000 1 0|K 2 1000000 0 0|
abbrev pub remainder : List ℕ
remainder = take 80 listing ++ (49 ∷ drop 81 listing)

-- K(1) is 100,000,001, from which the u of direction 1 does not follow either
-- ADJ 3 2|V 1 -2000 215998000|V 2 -1000 216002000|V 3 1000 215998000|K 1 100000001 0 0|K 2 1000000 0 0|
abbrev pub large : List ℕ
large =
    65 ∷ 68 ∷ 74 ∷ 9 ∷ 51 ∷ 9 ∷ 50 ∷ 10 ∷
    86 ∷ 9 ∷ 49 ∷ 9 ∷ 45 ∷ 50 ∷ 48 ∷ 48 ∷ 48 ∷ 9 ∷ 50 ∷ 49 ∷ 53 ∷ 57 ∷ 57 ∷ 56 ∷ 48 ∷ 48 ∷ 48 ∷ 10 ∷
    86 ∷ 9 ∷ 50 ∷ 9 ∷ 45 ∷ 49 ∷ 48 ∷ 48 ∷ 48 ∷ 9 ∷ 50 ∷ 49 ∷ 54 ∷ 48 ∷ 48 ∷ 50 ∷ 48 ∷ 48 ∷ 48 ∷ 10 ∷
    86 ∷ 9 ∷ 51 ∷ 9 ∷ 49 ∷ 48 ∷ 48 ∷ 48 ∷ 9 ∷ 50 ∷ 49 ∷ 53 ∷ 57 ∷ 57 ∷ 56 ∷ 48 ∷ 48 ∷ 48 ∷ 10 ∷
    75 ∷ 9 ∷ 49 ∷ 9 ∷ 49 ∷ 48 ∷ 48 ∷ 48 ∷ 48 ∷ 48 ∷ 48 ∷ 48 ∷ 49 ∷ 9 ∷ 48 ∷ 9 ∷ 48 ∷ 10 ∷
    75 ∷ 9 ∷ 50 ∷ 9 ∷ 49 ∷ 48 ∷ 48 ∷ 48 ∷ 48 ∷ 48 ∷ 48 ∷ 9 ∷ 48 ∷ 9 ∷ 48 ∷ 10 ∷
    []

-- every correction is zero: all follows from the K, and R(1) is 10^7 times the misclosure of 3,000
-- ADJ 3 2|V 1 0 216000000|V 2 0 216003000|V 3 0 215997000|K 1 0 30000000000 30000000000|K 2 0 0 0|
abbrev pub idle : List ℕ
idle =
    65 ∷ 68 ∷ 74 ∷ 9 ∷ 51 ∷ 9 ∷ 50 ∷ 10 ∷
    86 ∷ 9 ∷ 49 ∷ 9 ∷ 48 ∷ 9 ∷ 50 ∷ 49 ∷ 54 ∷ 48 ∷ 48 ∷ 48 ∷ 48 ∷ 48 ∷ 48 ∷ 10 ∷
    86 ∷ 9 ∷ 50 ∷ 9 ∷ 48 ∷ 9 ∷ 50 ∷ 49 ∷ 54 ∷ 48 ∷ 48 ∷ 51 ∷ 48 ∷ 48 ∷ 48 ∷ 10 ∷
    86 ∷ 9 ∷ 51 ∷ 9 ∷ 48 ∷ 9 ∷ 50 ∷ 49 ∷ 53 ∷ 57 ∷ 57 ∷ 55 ∷ 48 ∷ 48 ∷ 48 ∷ 10 ∷
    75 ∷ 9 ∷ 49 ∷ 9 ∷ 48 ∷ 9 ∷ 51 ∷ 48 ∷ 48 ∷ 48 ∷ 48 ∷ 48 ∷ 48 ∷ 48 ∷ 48 ∷ 48 ∷ 48 ∷ 9 ∷ 51 ∷ 48 ∷ 48 ∷ 48 ∷ 48 ∷ 48 ∷ 48 ∷ 48 ∷ 48 ∷ 48 ∷ 48 ∷ 10 ∷
    75 ∷ 9 ∷ 50 ∷ 9 ∷ 48 ∷ 9 ∷ 48 ∷ 9 ∷ 48 ∷ 10 ∷
    []

-- a listing of another net
-- ADJ 1 1|V 1 0 0|K 1 0 0 0|
abbrev pub small : List ℕ
small =
    65 ∷ 68 ∷ 74 ∷ 9 ∷ 49 ∷ 9 ∷ 49 ∷ 10 ∷
    86 ∷ 9 ∷ 49 ∷ 9 ∷ 48 ∷ 9 ∷ 48 ∷ 10 ∷
    75 ∷ 9 ∷ 49 ∷ 9 ∷ 48 ∷ 9 ∷ 48 ∷ 9 ∷ 48 ∷ 10 ∷
    []

-- the last LF is missing
abbrev pub cut : List ℕ
cut = take 99 listing

-- ---- a net of two equal conditions, which are both met. Its second row is nothing
-- two directions, and twice the angle between them
-- D 1 0 1|D 2 0 1|C A 0|P 1 2|C A 0|P 1 2|
abbrev pub twice : List ℕ
twice =
    68 ∷ 9 ∷ 49 ∷ 9 ∷ 48 ∷ 9 ∷ 49 ∷ 10 ∷
    68 ∷ 9 ∷ 50 ∷ 9 ∷ 48 ∷ 9 ∷ 49 ∷ 10 ∷
    67 ∷ 9 ∷ 65 ∷ 9 ∷ 48 ∷ 10 ∷
    80 ∷ 9 ∷ 49 ∷ 9 ∷ 50 ∷ 10 ∷
    67 ∷ 9 ∷ 65 ∷ 9 ∷ 48 ∷ 10 ∷
    80 ∷ 9 ∷ 49 ∷ 9 ∷ 50 ∷ 10 ∷
    []

-- a sheet of it
-- ADJ 2 2|V 1 0 0|V 2 0 0|K 1 0 0 0|K 2 0 0 0|
abbrev pub sheet : List ℕ
sheet =
    65 ∷ 68 ∷ 74 ∷ 9 ∷ 50 ∷ 9 ∷ 50 ∷ 10 ∷
    86 ∷ 9 ∷ 49 ∷ 9 ∷ 48 ∷ 9 ∷ 48 ∷ 10 ∷
    86 ∷ 9 ∷ 50 ∷ 9 ∷ 48 ∷ 9 ∷ 48 ∷ 10 ∷
    75 ∷ 9 ∷ 49 ∷ 9 ∷ 48 ∷ 9 ∷ 48 ∷ 9 ∷ 48 ∷ 10 ∷
    75 ∷ 9 ∷ 50 ∷ 9 ∷ 48 ∷ 9 ∷ 48 ∷ 9 ∷ 48 ∷ 10 ∷
    []

-- ---- opinions, all by one computation
opinions :
    (opinion_of file listing ≡ Ok Yes)
    × (opinion_of file other ≡ Ok Yes)
    × (opinion_of file digit ≡ Ok (No 3))
    × (opinion_of file remainder ≡ Ok (No 5))
    × (opinion_of file large ≡ Ok (No 5))
    × (opinion_of file idle ≡ Ok (No 5))
    × (opinion_of file small ≡ Ok (No 1))
    × (opinion_of file [] ≡ Err (Sheet 1))
    × (opinion_of file cut ≡ Err (Sheet 6))
    × (opinion_of file (listing ++ (10 ∷ [])) ≡ Err (Sheet 7))
    × (opinion_of [] [] ≡ Err (Count 0))
    × ((file_reply twice ≡ Err (WeakRow 2)) × (opinion_of twice sheet ≡ Ok Yes))
unfolding floor modulo first nearest sum tabulate directions_reply kind_of share angle part directions_miscounted terms_miscounted in_turn terms_check checks coefficient coefficients_reply coefficients_list misclosure misclosure_figure on_first parted lines_of fields_of field_at letter_of read_digits unsigned_of plus minus numeral_within with direction_line angles_line sides_line condition_line angle_line fixed_line side_line line_of record_of term_fault same belongs out_of_turn one_too_many direction_reply angles_reply sides_reply term_reply line_reply counted end_fault end_reply scanned scan_reply line_before net_of refused_as figure_value zeros lent_of condition_reply formed_reply row_of misclosure_of rows_of misclosures_of N V_of R_of u_of adjusted_of Q_of table_reply table_in bytes_before place_from begins line_at line_no bytes_of before numbers_within behind_within row_values row_within heading_of heading_amiss count_no letter_due fields_due number_due numbered due_at row_no malformed goes_on form_reply field_no counts_differ correlate_too_large direction_differs condition_differs disagreement check_reply opinion_of reduced D L M weak_row weak counts_amiss differs lengths_amiss coefficient_fault misclosure_fault conditions_reply rows_reply solution_reply input_reply adjust_reply room net_reply file_reply
opinions = (refl, refl, refl, refl, refl, refl, refl, refl, refl, refl, refl, (refl, refl))

pub figure_3_yes : opinion_of file listing ≡ Ok Yes
figure_3_yes = opinions.0

pub other_yes : opinion_of file other ≡ Ok Yes
other_yes = opinions.1

pub digit_no : opinion_of file digit ≡ Ok (No 3)
digit_no = opinions.2

pub remainder_no : opinion_of file remainder ≡ Ok (No 5)
remainder_no = opinions.3

pub large_no : opinion_of file large ≡ Ok (No 5)
large_no = opinions.4

pub idle_no : opinion_of file idle ≡ Ok (No 5)
idle_no = opinions.5

pub counts_no : opinion_of file small ≡ Ok (No 1)
counts_no = opinions.6

pub empty_refused : opinion_of file [] ≡ Err (Sheet 1)
empty_refused = opinions.7

pub cut_refused : opinion_of file cut ≡ Err (Sheet 6)
cut_refused = opinions.8

pub more_refused : opinion_of file (listing ++ (10 ∷ [])) ≡ Err (Sheet 7)
more_refused = opinions.9

-- the net comes first
pub net_first : opinion_of [] [] ≡ Err (Count 0)
net_first = opinions.10

-- "the net's 1 to 5 first": 6 to 9 are not asked
pub weak_yes : (file_reply twice ≡ Err (WeakRow 2)) × (opinion_of twice sheet ≡ Ok Yes)
weak_yes = opinions.11

pub opinion_shuts_out : (opinion : Result Opinion Refusal) → ((net listing : List ℕ) → opinion_of net listing ≡ opinion) → ⊥
opinion_shuts_out opinion same =
    let e : ◌≡◌ {A = Result Opinion Refusal} (Ok Yes) (Ok (No 3)) = sym figure_3_yes ∙ same file listing ∙ sym (same file digit) ∙ digit_no in let z : ◌≡◌ {A = ℕ} 0 1 = cc in omega arith
