-- The sum of reports that stand one after another in one text, by a fold over its lines, which are due in their order. The request leaves its refusals open; docs/DECISIONS.md
-- ("Reports as text") has what was decided.
--   entry_at         the numbers of a line that is the one due, as a report has it
--   after_line       what is known once a line has been read
--   after_lines      once all lines of a text have been read, and what stands behind the last LF
--   answer_of        the answer then
--   sum_text         the rule: the answer to a whole text
--   after_byte, after_bytes   the same byte by byte, as a stream comes
use Rattle.std.specs.Prelude.{Bool, false, cond, ◌||◌, ◌&&◌, not, List, [], ◌∷◌, ◌++◌, ℕ, ◌+◌, eqb, ltb, ℤ, pos, negsuc, length, get_or, set, take, replicate, Option, None, Some}
use Rattle.std.specs.Option.{is_some, option_map_or}
use Rattle.text.specs.Parts.{begins, parted}
use Rattle.text.specs.Lines.{LF}
use Rattle.text.specs.Fields.{TAB}
use Rattle.text.specs.Rows.{row_within}
use Rattle.text.specs.Written.{line_end}
use Rattle.page.specs.Lines.{refused_line}
use Rattle.totals.specs.Totals.{joined}
use Rattle.totals.specs.Promise.{most_nets, most_total, too_large}
use Rattle.totals.specs.Text.{head_of, place_of, pair_on, report_text, longest_report}
use Rattle.totals.specs.declared.adding.Tally.{Tally}
use Rattle.totals.specs.declared.adding.Adding.{Adding}

-- ---- one line
-- numbers without a minus; the second is 0 on a line of one
unfoldable pub entry_with : (x y : ℤ) → Option (ℕ × ℕ)
entry_with (pos x) (pos y) = Some (x, y)
entry_with (pos x) (negsuc y) = None
entry_with (negsuc x) y = None

unfoldable pub entry_of : Option (List ℤ) → Option (ℕ × ℕ)
entry_of None = None
entry_of (Some zs) = entry_with (get_or zs 0 (pos 0)) (get_or zs 1 (pos 0))

-- the line that is due, with its LF: its head, a tab, and its one or two numbers of 1 to 18 digits
unfoldable pub entry_at : (due : ℕ) (text : List ℕ) → Option (ℕ × ℕ)
entry_at due text = cond (begins (head_of due ++ (TAB ∷ [])) text) (entry_of (row_within 18 text (length (head_of due) + 1) (cond (pair_on due) 2 1))) None

-- ---- what is known of the reports read so far
-- lines are counted from 1, to 999,999,999,999,999,999 and no further: no text is so long
unfoldable pub line_after : (line : ℕ) → ℕ
line_after line = cond (ltb line most_total) (line + 1) line

unfoldable pub due_after : (due : ℕ) → ℕ
due_after due = cond (ltb due 13) (due + 1) 0

unfoldable pub nets_after : (due nets x : ℕ) → ℕ
nets_after due nets x = cond (eqb due 0) x nets

-- ACCEPTED and the nine counts of the report being read, counted to one past the largest number that NETS can have
unfoldable pub counted_after : (due counted x : ℕ) → ℕ
counted_after due counted x = cond (eqb due 0) 0 (cond (ltb due 11) (cond (too_large 1 counted x) (most_total + 1) (counted + x)) counted)

-- ACCEPTED and the nine counts must add up to NETS, which the last COUNT line shows
unfoldable pub miscounted : (due nets counted : ℕ) → Bool
miscounted due nets counted = eqb due 10 && not (eqb nets counted)

-- the reports hold more than 100,000 nets together
unfoldable pub past_after : (due : ℕ) (past : Bool) (nets x : ℕ) → Bool
past_after due past nets x = past || (eqb due 0 && ltb most_nets (nets + x))

-- a number of the line makes a total pass 18 digits
unfoldable pub passes : (sum : List ℕ) (due x y : ℕ) → Bool
passes sum due x y =
    too_large (place_of due) (get_or sum (place_of due) 0) x || (pair_on due && too_large (place_of due + 1) (get_or sum (place_of due + 1) 0) y)

-- the numbers of the line added to the totals of their places
abbrev pub joined_at : (sum : List ℕ) (place x : ℕ) → ℕ
joined_at sum place x = joined place (get_or sum place 0) x

abbrev pub added_first : (sum : List ℕ) (due x : ℕ) → List ℕ
added_first sum due x = set sum (place_of due) (joined_at sum (place_of due) x)

unfoldable pub added : (sum : List ℕ) (due x y : ℕ) → List ℕ
added sum due x y = cond (pair_on due) (set (added_first sum due x) (place_of due + 1) (joined_at sum (place_of due + 1) y)) (added_first sum due x)

-- once the nets are past 100,000 nothing more is added up
unfoldable pub sum_after : (past : Bool) (sum : List ℕ) (due x y : ℕ) → List ℕ
sum_after past sum due x y = cond past sum (added sum due x y)

-- the first line at fault
unfoldable pub faulty : Tally → Tally
faulty t = record {
  line = t.line;
  due = t.due;
  nets = t.nets;
  counted = t.counted;
  past = t.past;
  fault = Some (line_after t.line);
  sum = t.sum;
}

unfoldable pub fault_in : Tally → (past : Bool) (counted x y : ℕ) → Bool
fault_in t past counted x y = miscounted t.due t.nets counted || (not past && passes t.sum t.due x y)

unfoldable pub well_entered : Tally → (past : Bool) (counted x y : ℕ) → Tally
well_entered t past counted x y = record {
  line = line_after t.line;
  due = due_after t.due;
  nets = nets_after t.due t.nets x;
  counted = counted;
  past = past;
  fault = t.fault;
  sum = sum_after past t.sum t.due x y;
}

unfoldable pub entered_with : Tally → (past : Bool) (counted x y : ℕ) → Tally
entered_with t past counted x y = cond (fault_in t past counted x y) (faulty t) (well_entered t past counted x y)

unfoldable pub entered : Tally → Option (ℕ × ℕ) → Tally
entered t None = faulty t
entered t (Some (x, y)) = entered_with t (past_after t.due t.past (get_or t.sum 0 0) x) (counted_after t.due t.counted x) x y

-- what comes after a line at fault changes nothing
unfoldable pub after_line : Tally → (text : List ℕ) → Tally
after_line t text = cond (is_some t.fault) t (entered t (entry_at t.due text))

-- ---- a text
-- the first 64 bytes: no line of a report has more
abbrev pub cut : List ℕ → List ℕ
cut text = take 64 text

pub record Stream : Type 0 where
  pub tally : Tally
  pub begun : List ℕ

-- the lines, each without its LF, and last what stands behind the last LF
unfoldable pub after_lines : Tally → (lines : List (List ℕ)) → Stream
after_lines t [] = record { tally = t; begun = [] }
after_lines t (last ∷ []) = record { tally = t; begun = cut last }
after_lines t (line ∷ next ∷ lines) = after_lines (after_line t (cut (line ++ line_end))) (next ∷ lines)

unfoldable pub none_read : Tally
none_read = record { line = 0; due = 0; nets = 0; counted = 0; past = false; fault = None; sum = replicate 16 0 }

-- ---- the answer
-- no line, a line that is missing, or one without its LF: refused where it was due
unfoldable pub unfinished : (line due begun : ℕ) → Bool
unfinished line due begun = eqb line 0 || (not (eqb due 0) || not (eqb begun 0))

-- 1 by line, then "30 for a net past 100,000", and else the sum
unfoldable pub answer_of : Tally → (begun : ℕ) → List ℕ
answer_of t begun =
    option_map_or (refused_line 1) t.fault
    (cond (unfinished t.line t.due begun) (refused_line 1 (line_after t.line))
    (cond t.past (refused_line 30 (most_nets + 1)) (report_text t.sum false)))

unfoldable pub sum_text : (text : List ℕ) → List ℕ
sum_text text = let s = after_lines none_read (parted LF ([] ∷ []) text) in answer_of s.tally (length s.begun)

-- ---- what inner functions hand each other: the same, byte by byte
unfoldable pub lengthened : (begun : List ℕ) (b : ℕ) → List ℕ
lengthened begun b = cond (ltb (length begun) 64) (begun ++ (b ∷ [])) begun

unfoldable pub after_byte : Stream → (b : ℕ) → Stream
after_byte s b =
    cond (eqb b LF) (record { tally = after_line s.tally (lengthened s.begun b); begun = [] }) (record { tally = s.tally; begun = lengthened s.begun b })

unfoldable pub after_bytes : Stream → (bytes : List ℕ) → Stream
after_bytes s [] = s
after_bytes s (b ∷ bytes) = after_bytes (after_byte s b) bytes

-- parts one after another
unfoldable pub after_parts : Stream → (parts : List (List ℕ)) → Stream
after_parts s [] = s
after_parts s (part ∷ parts) = after_parts (after_bytes s part) parts

-- the stream that a state and its lent buffer stand for
abbrev pub stream_of : Adding → (held : List ℕ) → Stream
stream_of a held = record { tally = a.tally; begun = take a.length held }

-- what goes into a lent buffer of so many bytes: nothing, where it could not hold the longest report
unfoldable pub answer_in : (room : ℕ) → Tally → (begun : ℕ) → List ℕ
answer_in room t begun = cond (ltb room longest_report) [] (answer_of t begun)
