-- Small texts of reports, and what the rule answers to them, by computation. Assumes nothing.
--   two_reports            two reports, and their sum
--   nothing, unended       an empty text, and a report without its last LF: refused where a line was due
--   miscounts, out_of_turn_lem counts that do not add up to the nets, and a report that ends with REFUSED
--   at_most, past_most     100,000 nets together, and one more
use mathlib.Core.Path.{◌≡◌, refl}
use mathlib.Core.Bool.{true, false}
use mathlib.Core.List.{List, [], ◌∷◌, ◌++◌}
use Prim.Native.Nat.{ℕ, ◌-◌}
use lib.ListN.{length, take}
use Rattle.text.specs.Parts.{bytes_before, place_from, on_first, parted, begins}
use Rattle.text.specs.Lines.{line_at}
use Rattle.text.specs.Fields.{fields_of}
use Rattle.text.specs.Numbers.{read_digits, unsigned_of, plus, minus, numeral_within}
use Rattle.text.specs.Rows.{before, numbers_within, row_within}
use Rattle.text.specs.Decimal.{digits, digits_of}
use Rattle.text.specs.Written.{in_order}
use Rattle.page.specs.Lines.{refused_line}
use Rattle.totals.specs.Totals.{largest_at, joined}
use Rattle.totals.specs.Promise.{too_large}
use Rattle.totals.specs.Text.{head_of, place_of, pair_on, ending_of, line_of, last_line, report_text}
use Rattle.totals.specs.Adding.{entry_with, entry_of, entry_at, line_after, due_after, nets_after, counted_after, miscounted, past_after, passes, added, sum_after}
use Rattle.totals.specs.Adding.{faulty, fault_in, well_entered, entered_with, entered, after_line, after_lines, none_read, unfinished, answer_of, sum_text}

abbrev first : List ℕ
first = 3 ∷ 2 ∷ 0 ∷ 1 ∷ 0 ∷ 0 ∷ 0 ∷ 0 ∷ 0 ∷ 0 ∷ 0 ∷ 1500 ∷ 900 ∷ 20 ∷ 20 ∷ 1 ∷ []

abbrev second : List ℕ
second = 2 ∷ 1 ∷ 0 ∷ 0 ∷ 0 ∷ 0 ∷ 0 ∷ 0 ∷ 0 ∷ 0 ∷ 1 ∷ 700 ∷ 700 ∷ 35 ∷ 30 ∷ 0 ∷ []

abbrev both : List ℕ
both = 5 ∷ 3 ∷ 0 ∷ 1 ∷ 0 ∷ 0 ∷ 0 ∷ 0 ∷ 0 ∷ 0 ∷ 1 ∷ 2200 ∷ 900 ∷ 55 ∷ 30 ∷ 1 ∷ []

-- so many nets, of which so many are accepted
abbrev only : (nets accepted : ℕ) → List ℕ
only nets accepted = nets ∷ accepted ∷ 0 ∷ 0 ∷ 0 ∷ 0 ∷ 0 ∷ 0 ∷ 0 ∷ 0 ∷ 0 ∷ 0 ∷ 0 ∷ 0 ∷ 0 ∷ 0 ∷ []

pub two_reports : sum_text (report_text first false ++ report_text second false) ≡ report_text both false
unfolding
    sum_text answer_of unfinished none_read after_lines after_line entered entered_with well_entered fault_in faulty sum_after added passes past_after miscounted
    counted_after nets_after due_after line_after entry_at entry_of entry_with report_text last_line line_of ending_of pair_on place_of head_of too_large largest_at joined
    in_order digits digits_of before numbers_within row_within read_digits unsigned_of plus minus numeral_within fields_of line_at bytes_before place_from on_first
    parted begins
two_reports = refl

pub nothing : sum_text [] ≡ refused_line 1 1
unfolding
    sum_text answer_of unfinished none_read after_lines after_line entered entered_with well_entered fault_in faulty sum_after added passes past_after miscounted
    counted_after nets_after due_after line_after entry_at entry_of entry_with report_text last_line line_of ending_of pair_on place_of head_of too_large largest_at joined
    in_order digits digits_of before numbers_within row_within read_digits unsigned_of plus minus numeral_within fields_of line_at bytes_before place_from on_first
    parted begins
nothing = refl

pub unended : let text = report_text first false in sum_text (take (length text - 1) text) ≡ refused_line 1 14
unfolding
    sum_text answer_of unfinished none_read after_lines after_line entered entered_with well_entered fault_in faulty sum_after added passes past_after miscounted
    counted_after nets_after due_after line_after entry_at entry_of entry_with report_text last_line line_of ending_of pair_on place_of head_of too_large largest_at joined
    in_order digits digits_of before numbers_within row_within read_digits unsigned_of plus minus numeral_within fields_of line_at bytes_before place_from on_first
    parted begins
unended = refl

pub miscounts : sum_text (report_text first false ++ report_text (only 5 4) false) ≡ refused_line 1 25
unfolding
    sum_text answer_of unfinished none_read after_lines after_line entered entered_with well_entered fault_in faulty sum_after added passes past_after miscounted
    counted_after nets_after due_after line_after entry_at entry_of entry_with report_text last_line line_of ending_of pair_on place_of head_of too_large largest_at joined
    in_order digits digits_of before numbers_within row_within read_digits unsigned_of plus minus numeral_within fields_of line_at bytes_before place_from on_first
    parted begins
miscounts = refl

pub out_of_turn_lem : sum_text (report_text first true) ≡ refused_line 1 15
unfolding
    sum_text answer_of unfinished none_read after_lines after_line entered entered_with well_entered fault_in faulty sum_after added passes past_after miscounted
    counted_after nets_after due_after line_after entry_at entry_of entry_with report_text last_line line_of ending_of pair_on place_of head_of too_large largest_at joined
    in_order digits digits_of before numbers_within row_within read_digits unsigned_of plus minus numeral_within fields_of line_at bytes_before place_from on_first
    parted begins
out_of_turn_lem = refl

pub at_most : sum_text (report_text (only 99999 99999) false ++ report_text (only 1 1) false) ≡ report_text (only 100000 100000) false
unfolding
    sum_text answer_of unfinished none_read after_lines after_line entered entered_with well_entered fault_in faulty sum_after added passes past_after miscounted
    counted_after nets_after due_after line_after entry_at entry_of entry_with report_text last_line line_of ending_of pair_on place_of head_of too_large largest_at joined
    in_order digits digits_of before numbers_within row_within read_digits unsigned_of plus minus numeral_within fields_of line_at bytes_before place_from on_first
    parted begins
at_most = refl

pub past_most : sum_text (report_text (only 99999 99999) false ++ report_text first false) ≡ refused_line 30 100001
unfolding
    sum_text answer_of unfinished none_read after_lines after_line entered entered_with well_entered fault_in faulty sum_after added passes past_after miscounted
    counted_after nets_after due_after line_after entry_at entry_of entry_with report_text last_line line_of ending_of pair_on place_of head_of too_large largest_at joined
    in_order digits digits_of before numbers_within row_within read_digits unsigned_of plus minus numeral_within fields_of line_at bytes_before place_from on_first
    parted begins
past_most = refl
