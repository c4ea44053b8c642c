-- The text of a report is read back as its totals, so that reports made apart, printed and then added are the report of all nets. Assumes nothing.
--   next_line                   the first line of a text is read, and then the others
--   line_body, body_free        a line of a report has no LF but its last byte
--   line_read                   and is read as its numbers, whatever line of the fourteen it is
--   counts_in, Addable           places 1 to k added up; totals that can be added to those before them: sixteen, ACCEPTED and the nine counts add up to
--                               NETS, at most 100,000 nets together, and no total past 18 digits
--   Reading, reading_next       what is known once k lines of a report have been read, and one line more
--   AtStart, Added              a tally at the start of a report; a report has been added, and the next one is due
--   lines_on, after_report        the line counted some lines on; the tally after a printed report
--   report_read, report_added   from any tally at the start of a report, the lines of a printed report add it, and nothing is left over
--   report_on                   and what stands behind it is read from there
--   Report, Reports, text_of     sixteen totals whose counts add up; several of them, and their texts one after another
--   Room, Summed                there is room for several reports; they have been added
--   reports_read                several printed reports, read one after another
--   all_sums_back               the theorem: any number of printed reports one after another have the text of their sum for answer
--   prints_back, sums_back      one report, and two
--   sum_report, reports_report  the sum of reports is a report, so that sums can be added again
--   groups_back                 nets in any groups: their reports, printed and then added, are the printed report of all nets
--   past_read, past_refused_on, past_refused   a report printed with a net past 100,000 is refused at its fifteenth line, whatever follows
use mathlib.Core.Path.{◌≡◌, refl, sym, ◌∙◌, ap}
use mathlib.Core.Bool.{Bool, true, false, cond, ◌&&◌, not}
use mathlib.Core.List.{List, [], ◌∷◌, ◌++◌, append_assoc, append-nil, flatten, map}
use Prim.Native.Nat.{ℕ, zero, suc, ◌+◌, ◌-◌, ◌≤◌, ◌<◌, max}
use native.Mathlib.Nat.{add-zero, add-suc, le-max_left}
use native.Mathlib.Decide.{dec_lt}
use native.Mathlib.Omega.{arith}
use borrow.Author.Tests.{eq-eqb, ne_eqb, lt-ltb, le-ltb, eqb-true, eqb-false, ltb-true, ltb-false, not-false}
use lib.Dec.{eqb, ltb}
use lib.IntN.{pos}
use lib.ListN.{length, get_or, set, get_or-replicate, length-append, length-map, get_or-eq_default}
use lib.Seq.{take_all, drop_at}
use Rattle.exact.specs.First.{first, some_below}
use Rattle.exact.specs.Tabulate.{tabulate}
use Rattle.exact.proofs.Searching.{all_failed}
use Rattle.exact.proofs.Filling.{Filled, filled_none, filled_more, filled_all}
use Rattle.text.specs.Parts.{bytes_before, parted, begins}
use Rattle.text.specs.Lines.{LF}
use Rattle.text.specs.Fields.{TAB, fields_of}
use Rattle.text.specs.Numbers.{numeral_within}
use Rattle.text.specs.Rows.{before, numbers_within}
use Rattle.text.specs.Decimal.{digits, digits_of, written}
use Rattle.text.specs.Written.{count_field, line_end, in_order}
use Rattle.text.proofs.Parting.{begins_word}
use Rattle.text.proofs.Spanning.{High, numeral_high}
use Rattle.text.proofs.Sparing.{Free, free_both, free_high, part_first, row_written}
use Rattle.text.proofs.Rowing.{fields_tab, fields_plain}
use Rattle.text.proofs.ReadingBack.{reads_back, few_digits}
use Rattle.page.specs.Lines.{refused_line}
use Rattle.totals.specs.Totals.{largest_at, joined, sum_of, total, report_of}
use Rattle.totals.specs.Promise.{most_nets, most_total, too_large}
use Rattle.totals.specs.Text.{head_of, place_of, pair_on, ending_of, line_of, last_line, report_text}
use Rattle.totals.specs.Adding.{entry_with, entry_of, entry_at, line_after, due_after, nets_after, counted_after, miscounted, past_after, passes, added, sum_after}
use Rattle.totals.specs.Adding.{added_first, joined_at}
use Rattle.totals.specs.Adding.{faulty, fault_in, well_entered, entered, Stream, cut, after_line, after_lines, none_read, unfinished, answer_of, sum_text}
use Rattle.std.specs.Prelude.{Some, None}
use Rattle.totals.specs.declared.adding.Tally.{Tally}
use Rattle.totals.proofs.Totalling.{joined_sum, joined_none, joined_comm, joined_assoc, sum_length, sum_at_lem, sum_none, sum_comm, sum_more}
use Rattle.totals.proofs.Totalling.{report_at, report_first, report_length, report_joined}
use Rattle.totals.proofs.Printing.{pair_within}
use Rattle.totals.proofs.Entering.{other_head, due_head, well_entered_lem, line_due}
use Rattle.totals.proofs.Summing.{lines_in, lines_on_lem}
use Rattle.std.specs.Prelude.{Some}

-- ---- the first line of a text
pub next_line : (t : Tally) (line rest : List ℕ) → Free LF line
    → after_lines t (lines_in ((line ++ line_end) ++ rest)) ≡ after_lines (after_line t (cut (line ++ line_end))) (lines_in rest)
next_line t line rest e = rw (append_assoc line line_end rest, part_first LF ([] ∷ []) line rest e) (lines_on_lem t line rest)

-- ---- facts of the fourteen lines, by computation
fourteen : (p : ℕ → Bool) → some_below 14 (λ d. not (p d)) ≡ false → (d : ℕ) → d < 14 → p d ≡ true
fourteen p e d l = not-false (p d) (all_failed 14 (λ d. not (p d)) e d l)

head_free : (d : ℕ) → d < 14 → Free LF (head_of d)
unfolding first head_of bytes_before digits digits_of
head_free d l = eqb-true (bytes_before LF (head_of d)) (length (head_of d)) (fourteen (λ d. eqb (bytes_before LF (head_of d)) (length (head_of d))) refl d l)

head_short : (d : ℕ) → d < 14 → length (head_of d) < 9
unfolding first head_of digits digits_of
head_short d l = ltb-true (length (head_of d)) 9 (fourteen (λ d. ltb (length (head_of d)) 9) refl d l)

place_within : (d : ℕ) → d < 14 → place_of d < 16
unfolding first place_of
place_within d l = ltb-true (place_of d) 16 (fourteen (λ d. ltb (place_of d) 16) refl d l)

-- ---- a line of a report is read as its numbers
read_number : (n : ℕ) → n ≤ most_total → numeral_within 18 (digits_of n) ≡ Some (pos n)
unfolding written
read_number n l = reads_back 17 (omega arith) (pos n) (omega arith)

number_high : (n : ℕ) → n ≤ most_total → High (digits_of n)
number_high n l = numeral_high 18 (digits_of n) (pos n) (read_number n l)

number_free : (n : ℕ) → n ≤ most_total → Free LF (digits_of n)
number_free n l = free_high LF (digits_of n) (omega arith) (number_high n l)

-- what stands behind the head and its tab, before the LF
abbrev figures : (pair : Bool) (a b : ℕ) → List ℕ
figures pair a b = digits_of a ++ cond pair (count_field b) []

figures_free : (pair : Bool) (a b : ℕ) → a ≤ most_total → b ≤ most_total → Free LF (figures pair a b)
unfolding bytes_before
figures_free true a b l m = free_both LF (digits_of a) (count_field b) (number_free a l) (ap suc (number_free b m))
figures_free false a b l m = free_both LF (digits_of a) [] (number_free a l) refl

figures_short : (pair : Bool) (a b : ℕ) → a ≤ most_total → b ≤ most_total → length (figures pair a b) ≤ 37
figures_short true a b l m = omega (arith, length-append (digits_of a) (count_field b), few_digits 17 a (omega arith), few_digits 17 b (omega arith))
figures_short false a b l m = omega (arith, length-append (digits_of a) [], few_digits 17 a (omega arith))

figures_read : (pair : Bool) (a b : ℕ) → a ≤ most_total → b ≤ most_total
    → entry_of (numbers_within 18 (cond pair 2 1) (fields_of (figures pair a b))) ≡ Some (a, cond pair b 0)
unfolding entry_of entry_with numbers_within before
figures_read true a b l m =
    rw (fields_tab (digits_of a) (digits_of b) (number_high a l), fields_plain (digits_of b) (number_high b m), read_number a l, read_number b m)
figures_read false a b l m = rw (append-nil (digits_of a), fields_plain (digits_of a) (number_high a l), read_number a l)

module _ (x : List ℕ) (d : ℕ) where
  abbrev first_on : ℕ
  first_on = get_or x (place_of d) 0

  abbrev second_on : ℕ
  second_on = get_or x (place_of d + 1) 0

  abbrev body_of : List ℕ
  body_of = head_of d ++ (TAB ∷ figures (pair_on d) first_on second_on)

  line_body : line_of x d ≡ body_of ++ line_end
  unfolding line_of ending_of
  line_body = by_pair (pair_on d)
    where
      by_pair : (p : Bool)
          → head_of d ++ (count_field first_on ++ cond p (count_field second_on ++ line_end) line_end) ≡ (head_of d ++ (TAB ∷ figures p first_on second_on)) ++ line_end
      by_pair true = simp append_assoc
      by_pair false = simp append_assoc

  module _ (l : d < 14) (m : first_on ≤ most_total) (n : second_on ≤ most_total) where
    pub body_free : Free LF body_of
    unfolding bytes_before
    body_free = free_both LF (head_of d) (TAB ∷ figures (pair_on d) first_on second_on) (head_free d l) (ap suc (figures_free (pair_on d) first_on second_on m n))

    pub line_uncut : cut (line_of x d) ≡ line_of x d
    line_uncut =
        take_all 64 (line_of x d)
        (omega (
          arith,
          ap length line_body,
          length-append body_of line_end,
          length-append (head_of d) (TAB ∷ figures (pair_on d) first_on second_on),
          head_short d l,
          figures_short (pair_on d) first_on second_on m n,
        ))

    pub line_read : entry_at d (cut (line_of x d)) ≡ Some (first_on, cond (pair_on d) second_on 0)
    line_read =
        let f = figures (pair_on d) first_on second_on in
        let text = (head_of d ++ (TAB ∷ [])) ++ (f ++ line_end) in
        let same : cut (line_of x d) ≡ text = line_uncut ∙ line_body ∙ simp append_assoc in
        let at = length (head_of d) + 1 in
        let reach : length (head_of d ++ (TAB ∷ [])) ≡ at = length-append (head_of d) (TAB ∷ []) in
        let starts : begins (head_of d ++ (TAB ∷ [])) text ≡ true = rw (append_assoc (head_of d) (TAB ∷ []) (f ++ line_end)) (begins_word (head_of d) TAB (f ++ line_end)) in
        ap (entry_at d) same
        ∙ sym (due_head d text starts)
        ∙ ap entry_of
        (row_written text at f [] (drop_at (head_of d ++ (TAB ∷ [])) (f ++ line_end) at reach) (figures_free (pair_on d) first_on second_on m n) 18 (cond (pair_on d) 2 1))
        ∙ figures_read (pair_on d) first_on second_on m n

place_count : (d : ℕ) → d < 12 → place_of d ≡ d
unfolding place_of
place_count d l = rw (lt-ltb d 12 l)

-- ---- a report whose lines can be added to those before it
-- places 1 to k added up
unfoldable pub counts_in : (x : List ℕ) (k : ℕ) → ℕ
counts_in x zero = 0
counts_in x (suc k) = counts_in x k + get_or x (suc k) 0

counts_more : (x : List ℕ) (k m : ℕ) → counts_in x k ≤ counts_in x (k + m)
unfolding counts_in
counts_more x k zero = rw (add-zero k) (omega arith)
counts_more x k (suc m) = rw (add-suc k m) (omega (arith, counts_more x k m))

joined_least : (i x y : ℕ) → x ≤ joined i x y
unfolding joined
joined_least i x y = by_place (largest_at i)
  where
    by_place : (b : Bool) → x ≤ cond b (max x y) (x + y)
    by_place true = le-max_left x y
    by_place false = omega arith

-- the totals x can be added to the totals s
pub record Addable (s x : List ℕ) : Type 0 where
  pub sixteen : length x ≡ 16
  pub counted : counts_in x 10 ≡ get_or x 0 0
  pub few : get_or s 0 0 + get_or x 0 0 ≤ most_nets
  pub fits : (i : ℕ) → i < 16 → joined i (get_or s i 0) (get_or x i 0) ≤ most_total

counted_step : (x : List ℕ) → counts_in x 10 ≡ get_or x 0 0 → get_or x 0 0 ≤ most_total
    → (k counted : ℕ) → k ≤ 10 → ((j : ℕ) → k ≡ suc j → j ≤ 10 → counted ≡ counts_in x j) → counted_after k counted (get_or x (place_of k) 0) ≡ counts_in x k
unfolding counted_after counts_in too_large joined largest_at
counted_step x e s zero counted l h = refl
counted_step x e s (suc m) counted l h =
    let same : suc m + (10 - suc m) ≡ 10 = omega arith in
    let most : counts_in x m + get_or x (suc m) 0 ≤ most_total = omega (arith, counts_more x (suc m) (10 - suc m), ap (counts_in x) same) in
    rw (
      h m refl (omega arith),
      place_count (suc m) (omega arith),
      ne_eqb (suc m) 0 (λ z. omega arith),
      lt-ltb (suc m) 11 (omega arith),
      le-ltb most_total (counts_in x m) (omega arith),
      le-ltb most_total (get_or x (suc m) 0) (omega arith),
      le-ltb most_total (counts_in x m + get_or x (suc m) 0) most,
    )

-- lines counted on
unfoldable pub lines_on : (k line : ℕ) → ℕ
lines_on zero line = line
lines_on (suc k) line = line_after (lines_on k line)

-- totals that the first k lines hold
unfoldable places_in : (k : ℕ) → ℕ
places_in k = cond (ltb k 14) (place_of k) 16

places_next : (d : ℕ) → d < 14 → places_in (suc d) ≡ cond (pair_on d) (place_of d + 1 + 1) (place_of d + 1)
unfolding first places_in place_of pair_on
places_next d l =
    eqb-true (places_in (suc d)) (cond (pair_on d) (place_of d + 1 + 1) (place_of d + 1))
    (fourteen (λ d. eqb (places_in (suc d)) (cond (pair_on d) (place_of d + 1 + 1) (place_of d + 1))) refl d l)

places_here : (d : ℕ) → d < 14 → places_in d ≡ place_of d
unfolding places_in
places_here d l = rw (lt-ltb d 14 l)

due_next : (d : ℕ) → d < 14 → due_after d ≡ cond (ltb (suc d) 14) (suc d) 0
unfolding first due_after
due_next d l =
    eqb-true (due_after d) (cond (ltb (suc d) 14) (suc d) 0) (fourteen (λ d. eqb (due_after d) (cond (ltb (suc d) 14) (suc d) 0)) refl d l)

module _ (t : Tally) (x : List ℕ) where
  abbrev sum_at : ℕ → ℕ
  sum_at i = joined i (get_or t.sum i 0) (get_or x i 0)

  -- what is known once k lines of the report have been read
  record Reading (k : ℕ) (now : Tally) : Type 0 where
    pub line : now.line ≡ lines_on k t.line
    pub due : now.due ≡ cond (ltb k 14) k 0
    pub nets : 1 ≤ k → now.nets ≡ get_or x 0 0
    pub counted : (j : ℕ) → k ≡ suc j → j ≤ 10 → now.counted ≡ counts_in x j
    pub past : now.past ≡ false
    pub fault : now.fault ≡ None
    pub sum : Filled 0 sum_at 0 (places_in k) t.sum now.sum

  module _ (long : length t.sum ≡ 16) (adds : Addable t.sum x) where
    -- the numbers are small
    here_small : (i : ℕ) → i < 16 → get_or x i 0 ≤ most_total
    here_small i l = omega (arith, adds.fits i l, joined_least i (get_or x i 0) (get_or t.sum i 0), joined_comm i (get_or x i 0) (get_or t.sum i 0))

    all_small : (i : ℕ) → get_or x i 0 ≤ most_total
    all_small i = by_place (dec_lt i 16)
      where
        by_place : Dec (i < 16) → get_or x i 0 ≤ most_total
        by_place (yes l) = here_small i l
        by_place (no n) = rw (get_or-eq_default x 0 {n = i} (omega (arith, adds.sixteen))) (omega arith)

    none_large : (i : ℕ) → i < 16 → too_large i (get_or t.sum i 0) (get_or x i 0) ≡ false
    unfolding too_large
    none_large i l =
        rw (
          le-ltb most_total (get_or t.sum i 0) (omega (arith, adds.fits i l, joined_least i (get_or t.sum i 0) (get_or x i 0))),
          le-ltb most_total (get_or x i 0) (here_small i l),
          le-ltb most_total (sum_at i) (adds.fits i l),
        )

    -- one line more
    module _ (k : ℕ) (l : k < 14) (now : Tally) (r : Reading k now) where
      abbrev a : ℕ
      a = get_or x (place_of k) 0

      abbrev b : ℕ
      b = cond (pair_on k) (get_or x (place_of k + 1) 0) 0

      due_here : now.due ≡ k
      due_here = r.due ∙ rw (lt-ltb k 14 l)

      still : (i : ℕ) → place_of k ≤ i → get_or now.sum i 0 ≡ get_or t.sum i 0
      still i m = r.sum.rest i (omega (arith, places_here k l))

      not_past : past_after k now.past (get_or now.sum 0 0) a ≡ false
      unfolding past_after
      not_past = rw r.past (by_first (eqb k 0) refl)
        where
          by_first : (z : Bool) → eqb k 0 ≡ z → (z && ltb most_nets (get_or now.sum 0 0 + a)) ≡ false
          by_first true e =
              let least : place_of k ≡ 0 = place_count k (omega (arith, eqb-true k 0 e)) ∙ eqb-true k 0 e in
              le-ltb most_nets (get_or now.sum 0 0 + a) (omega (arith, still 0 (omega (arith, least)), ap (λ (n : ℕ). get_or x n 0) least, adds.few))
          by_first false e = refl

      counts_on : k ≤ 10 → counted_after k now.counted a ≡ counts_in x k
      counts_on m = counted_step x adds.counted (here_small 0 (omega arith)) k now.counted m r.counted

      counts_well : miscounted k now.nets (counted_after k now.counted a) ≡ false
      unfolding miscounted
      counts_well = by_last (eqb k 10) refl
        where
          by_last : (z : Bool) → eqb k 10 ≡ z → (z && not (eqb now.nets (counted_after k now.counted a))) ≡ false
          by_last true e =
              let last = eqb-true k 10 e in
              rw (eq-eqb now.nets (counted_after k now.counted a)
              (r.nets (omega (arith, last)) ∙ sym (counts_on (omega (arith, last)) ∙ ap (counts_in x) last ∙ adds.counted)))
          by_last false e = refl

      not_passing : passes now.sum k a b ≡ false
      unfolding passes
      not_passing = rw (still (place_of k) (omega arith), none_large (place_of k) (place_within k l)) (by_pair (pair_on k) refl)
        where
          by_pair : (q : Bool) → pair_on k ≡ q → (q && too_large (place_of k + 1) (get_or now.sum (place_of k + 1) 0) (cond q (get_or x (place_of k + 1) 0) 0)) ≡ false
          by_pair true e = rw (still (place_of k + 1) (omega arith), none_large (place_of k + 1) (pair_within k e))
          by_pair false e = refl

      filled_on : Filled 0 sum_at 0 (places_in (suc k)) t.sum (added now.sum k a b)
      unfolding added
      filled_on = rw (places_next k l) (by_pair (pair_on k) refl)
        where
          one : Filled 0 sum_at 0 (place_of k + 1) t.sum (added_first now.sum k a)
          one =
              filled_more 0 sum_at 0 (place_of k) t.sum now.sum (joined_at now.sum (place_of k) a) (omega (arith, place_within k l, long))
              (rw (places_here k l) at r.sum) (ap (λ (n : ℕ). joined (place_of k) n a) (still (place_of k) (omega arith)))

          by_pair : (q : Bool) → pair_on k ≡ q
              → Filled 0 sum_at 0 (cond q (place_of k + 1 + 1) (place_of k + 1)) t.sum
              (cond q (set (added_first now.sum k a) (place_of k + 1) (joined_at now.sum (place_of k + 1) (cond q (get_or x (place_of k + 1) 0) 0))) (added_first now.sum k a))
          by_pair true e =
              filled_more 0 sum_at 0 (place_of k + 1) t.sum (added_first now.sum k a) (joined_at now.sum (place_of k + 1) (get_or x (place_of k + 1) 0))
              (omega (arith, pair_within k e, long)) one
              (ap (λ (n : ℕ). joined (place_of k + 1) n (get_or x (place_of k + 1) 0)) (still (place_of k + 1) (omega arith)))
          by_pair false e = one

      no_fault : fault_in now false (counted_after k now.counted a) a b ≡ false
      unfolding fault_in
      no_fault = rw (due_here, counts_well, not_passing)

      stepped : after_line now (cut (line_of x k)) ≡ well_entered now false (counted_after k now.counted a) a b
      stepped =
          line_due now (cut (line_of x k)) r.fault
          ∙ ap (entered now) (ap (λ (n : ℕ). entry_at n (cut (line_of x k))) due_here ∙ line_read x k l (all_small (place_of k)) (all_small (place_of k + 1)))
          ∙ sym (well_entered_lem now false (counted_after k now.counted a) a b (rw due_here (sym not_past)) (rw due_here) no_fault)

      nets_on : nets_after k now.nets a ≡ get_or x 0 0
      unfolding nets_after
      nets_on = by_first (eqb k 0) refl
        where
          by_first : (z : Bool) → eqb k 0 ≡ z → cond z a now.nets ≡ get_or x 0 0
          by_first true e = ap (λ (n : ℕ). get_or x n 0) (place_count k (omega (arith, eqb-true k 0 e)) ∙ eqb-true k 0 e)
          by_first false e = r.nets (omega (arith, eqb-false k 0 e))

      reading_next : Reading (suc k) (after_line now (cut (line_of x k)))
      unfolding well_entered lines_on sum_after
      reading_next =
          rw stepped (record {
            line = ap line_after r.line;
            due = ap due_after due_here ∙ due_next k l;
            nets = λ h. rw due_here nets_on;
            counted = λ j e m. counts_on (omega arith) ∙ ap (counts_in x) (omega arith);
            past = refl;
            fault = r.fault;
            sum = rw due_here filled_on;
          })

    -- the tally once k lines have been read
    unfoldable lines_read_lem : (k : ℕ) → Tally
    lines_read_lem zero = t
    lines_read_lem (suc k) = after_line (lines_read_lem k) (cut (line_of x k))

    module _ (d : t.due ≡ 0) (p : t.past ≡ false) (f : t.fault ≡ None) where
      reading : (k : ℕ) → k ≤ 14 → Reading k (lines_read_lem k)
      unfolding lines_read_lem lines_on places_in place_of
      reading zero l = record {
        line = refl;
        due = d;
        nets = λ h. absurd (omega arith);
        counted = λ j e m. absurd (omega arith);
        past = p;
        fault = f;
        sum = filled_none 0 sum_at 0 t.sum;
      }
      reading (suc k) l = reading_next k (omega arith) (lines_read_lem k) (reading k (omega arith))

    lines_read : (k : ℕ) → k ≤ 14 → (rest : List ℕ) → after_lines t (lines_in (in_order k (line_of x) ++ rest)) ≡ after_lines (lines_read_lem k) (lines_in rest)
    unfolding lines_read_lem in_order
    lines_read zero l rest = refl
    lines_read (suc k) l rest =
        let m : first_on x k ≤ most_total = all_small (place_of k) in
        let n : second_on x k ≤ most_total = all_small (place_of k + 1) in
        ap (λ (text : List ℕ). after_lines t (lines_in text)) (append_assoc (in_order k (line_of x)) (line_of x k) rest)
        ∙ lines_read k (omega arith) (line_of x k ++ rest)
        ∙ rw (line_body x k) (next_line (lines_read_lem k) (body_of x k) rest (body_free x k (omega arith) m n))

-- ---- a whole report
-- nothing is at fault, and a report's first line is due
pub record AtStart (t : Tally) : Type 0 where
  pub due : t.due ≡ 0
  pub past : t.past ≡ false
  pub fault : t.fault ≡ None
  pub sixteen : length t.sum ≡ 16

-- the totals x are added, and the next report is due
pub record Added (t : Tally) (x : List ℕ) (now : Tally) : Type 0 where
  pub start : AtStart now
  pub line : now.line ≡ lines_on 14 t.line
  pub sum : now.sum ≡ sum_of t.sum x

abbrev pub after_report : Tally → (x : List ℕ) → Tally
after_report t x = (after_lines t (lines_in (report_text x false))).tally

module _ (t : Tally) (x : List ℕ) (start : AtStart t) (adds : Addable t.sum x) where
  abbrev fourteen_read : Tally
  fourteen_read = lines_read_lem t x start.sixteen adds 14

  fourteen_lines : (past : Bool) (rest : List ℕ) → after_lines t (lines_in (report_text x past ++ rest)) ≡ after_lines fourteen_read (lines_in (last_line past ++ rest))
  unfolding report_text
  fourteen_lines past rest =
      ap (λ (text : List ℕ). after_lines t (lines_in text)) (append_assoc (in_order 14 (line_of x)) (last_line past) rest)
      ∙ lines_read t x start.sixteen adds 14 (omega arith) (last_line past ++ rest)

  report_whole : after_lines t (lines_in (report_text x false)) ≡ record { tally = fourteen_read; begun = [] }
  unfolding last_line after_lines parted
  report_whole = ap (λ (text : List ℕ). after_lines t (lines_in text)) (sym (append-nil (report_text x false))) ∙ fourteen_lines false []

  same_read : fourteen_read ≡ after_report t x
  same_read = sym (ap (λ (s : Stream). s.tally) report_whole)

  pub report_read : after_lines t (lines_in (report_text x false)) ≡ record { tally = after_report t x; begun = [] }
  report_read = report_whole ∙ ap (λ (u : Tally). record { tally = u; begun = [] }) same_read

  pub report_on : (rest : List ℕ) → after_lines t (lines_in (report_text x false ++ rest)) ≡ after_lines (after_report t x) (lines_in rest)
  unfolding last_line
  report_on rest = fourteen_lines false rest ∙ ap (λ (u : Tally). after_lines u (lines_in rest)) same_read

  fourteen_added : Added t x fourteen_read
  unfolding places_in sum_of
  fourteen_added =
      let r = reading t x start.sixteen adds start.due start.past start.fault 14 (omega arith) in
      let s : fourteen_read.sum ≡ sum_of t.sum x = filled_all 0 (sum_at t x) 16 t.sum fourteen_read.sum start.sixteen r.sum in
      record {
        start = record { due = r.due; past = r.past; fault = r.fault; sixteen = ap length s ∙ sum_length t.sum x };
        line = r.line;
        sum = s;
      }

  pub report_added : Added t x (after_report t x)
  report_added = rw same_read at fourteen_added

-- ---- reports one after another
pub record Report (x : List ℕ) : Type 0 where
  pub sixteen : length x ≡ 16
  pub counted : counts_in x 10 ≡ get_or x 0 0

unfoldable pub Reports : (xs : List (List ℕ)) → Type 0
Reports [] = Unit {0}
Reports (x ∷ xs) = Report x × Reports xs

unfoldable pub text_of : (xs : List (List ℕ)) → List ℕ
text_of [] = []
text_of (x ∷ xs) = report_text x false ++ text_of xs

line_on : (line : ℕ) → 1 ≤ line_after line
unfolding line_after
line_on line = by_room (ltb line most_total) refl
  where
    by_room : (b : Bool) → ltb line most_total ≡ b → 1 ≤ cond b (line + 1) line
    by_room true e = omega arith
    by_room false e = omega (arith, ltb-false line most_total e)

fourteen_on : (line : ℕ) → 1 ≤ lines_on 14 line
unfolding lines_on
fourteen_on line = line_on (lines_on 13 line)

pub record Summed (t : Tally) (xs : List (List ℕ)) (s : Stream) : Type 0 where
  pub start : AtStart s.tally
  pub line : 1 ≤ length xs + t.line → 1 ≤ s.tally.line
  pub sum : s.tally.sum ≡ sum_of t.sum (report_of xs)
  pub begun : s.begun ≡ []

-- the totals of all that have been read, and of those to come
pub record Room (s : List ℕ) (xs : List (List ℕ)) : Type 0 where
  pub few : get_or s 0 0 + total 0 xs ≤ most_nets
  pub fits : (i : ℕ) → i < 16 → joined i (get_or s i 0) (total i xs) ≤ most_total

room_first : (s x : List ℕ) (xs : List (List ℕ)) → Report x → Room s (x ∷ xs) → Addable s x
unfolding total
room_first s x xs r m = record {
  sixteen = r.sixteen;
  counted = r.counted;
  few = omega (arith, m.few, joined_least 0 (get_or x 0 0) (total 0 xs));
  fits =
      λ i l.
      omega (arith, m.fits i l, joined_assoc i (get_or s i 0) (get_or x i 0) (total i xs), joined_least i (joined i (get_or s i 0) (get_or x i 0)) (total i xs));
}

room_rest : (s x : List ℕ) (xs : List (List ℕ)) → Room s (x ∷ xs) → Room (sum_of s x) xs
unfolding total largest_at
room_rest s x xs m = record {
  few = omega (arith, m.few, sum_at_lem s x 0 (omega arith), joined_sum 0 (get_or s 0 0) (get_or x 0 0) refl, joined_sum 0 (get_or x 0 0) (total 0 xs) refl);
  fits = λ i l. rw (sum_at_lem s x i l, joined_assoc i (get_or s i 0) (get_or x i 0) (total i xs)) (m.fits i l);
}

pub reports_read : (xs : List (List ℕ)) (t : Tally) → AtStart t → Reports xs → Room t.sum xs → Summed t xs (after_lines t (lines_in (text_of xs)))
unfolding text_of Reports after_lines parted
reports_read [] t start rs m = record { start = start; line = λ l. omega arith; sum = sym (sum_none t.sum start.sixteen); begun = refl }
reports_read (x ∷ xs) t start rs m =
    let adds = room_first t.sum x xs rs.0 m in
    let a = report_added t x start adds in
    let next = after_report t x in
    let u = reports_read xs next a.start rs.1 (rw a.sum (room_rest t.sum x xs m)) in
    rw (report_on t x start adds (text_of xs)) (record {
      start = u.start;
      line = λ l. u.line (omega (arith, a.line, fourteen_on t.line));
      sum = u.sum ∙ ap (λ (s : List ℕ). sum_of s (report_of xs)) a.sum ∙ sum_more t.sum x xs;
      begun = u.begun;
    })

-- ---- the answer
answer_sum : (t : Tally) (begun : ℕ) → AtStart t → 1 ≤ t.line → begun ≡ 0 → answer_of t begun ≡ report_text t.sum false
unfolding answer_of unfinished
answer_sum t begun start l e =
    rw (start.fault, ne_eqb t.line 0 (λ z. omega arith), eq-eqb t.due 0 start.due, eq-eqb begun 0 e, start.past)

none_start : AtStart none_read
unfolding none_read
none_start = record { due = refl; past = refl; fault = refl; sixteen = refl }

none_sum : (x : List ℕ) → length x ≡ 16 → sum_of none_read.sum x ≡ x
unfolding none_read report_of total tabulate
none_sum x e = sum_comm (report_of []) x ∙ sum_none x e

none_joined : (i x : ℕ) → i < 16 → joined i (get_or none_read.sum i 0) x ≡ x
unfolding none_read
none_joined i x l = ap (λ (n : ℕ). joined i n x) (get_or-replicate 16 i 0 0 l) ∙ joined_comm i 0 x ∙ joined_none i x

none_room : (xs : List (List ℕ)) → get_or (report_of xs) 0 0 ≤ most_nets → ((i : ℕ) → i < 16 → get_or (report_of xs) i 0 ≤ most_total) → Room none_read.sum xs
unfolding none_read
none_room xs few fits = record {
  few = omega (arith, report_at xs 0 (omega arith));
  fits = λ i l. rw (none_joined i (total i xs) l, ← report_at xs i l) (fits i l);
}

-- any number of reports, printed and read one after another, give the text of the report that adds them all
pub all_sums_back : (xs : List (List ℕ)) → 1 ≤ length xs → Reports xs
    → get_or (report_of xs) 0 0 ≤ most_nets → ((i : ℕ) → i < 16 → get_or (report_of xs) i 0 ≤ most_total)
    → sum_text (text_of xs) ≡ report_text (report_of xs) false
unfolding sum_text
all_sums_back xs one rs few fits =
    let s = after_lines none_read (lines_in (text_of xs)) in
    let u = reports_read xs none_read none_start rs (none_room xs few fits) in
    answer_sum s.tally (length s.begun) u.start (u.line (omega arith)) (ap length u.begun)
    ∙ ap (λ (x : List ℕ). report_text x false) (u.sum ∙ none_sum (report_of xs) (report_length xs))

-- one report: the sum of it alone is what was printed
pub prints_back : (x : List ℕ) → Report x → get_or x 0 0 ≤ most_nets → ((i : ℕ) → i < 16 → get_or x i 0 ≤ most_total) → sum_text (report_text x false) ≡ report_text x false
unfolding text_of Reports
prints_back x r few fits =
    let same : report_of (x ∷ []) ≡ x = report_first x [] ∙ sum_none x r.sixteen in
    ap sum_text (sym (append-nil (report_text x false)))
    ∙ all_sums_back (x ∷ []) (omega arith) (r, tt) (rw same few) (rw same fits)
    ∙ ap (λ (z : List ℕ). report_text z false) same

-- two
pub sums_back : (x y : List ℕ) → Report x → Report y → get_or x 0 0 + get_or y 0 0 ≤ most_nets → ((i : ℕ) → i < 16 → get_or (sum_of x y) i 0 ≤ most_total)
    → sum_text (report_text x false ++ report_text y false) ≡ report_text (sum_of x y) false
unfolding text_of Reports largest_at
sums_back x y r q few fits =
    let same : report_of (x ∷ y ∷ []) ≡ sum_of x y = report_first x (y ∷ []) ∙ ap (sum_of x) (report_first y [] ∙ sum_none y q.sixteen) in
    let nets : get_or (sum_of x y) 0 0 ≤ most_nets = omega (arith, sum_at_lem x y 0 (omega arith), joined_sum 0 (get_or x 0 0) (get_or y 0 0) refl) in
    ap (λ (text : List ℕ). sum_text (report_text x false ++ text)) (sym (append-nil (report_text y false)))
    ∙ all_sums_back (x ∷ y ∷ []) (omega arith) (r, (q, tt)) (rw same nets) (rw same fits)
    ∙ ap (λ (z : List ℕ). report_text z false) same

-- ---- reports that are sums themselves
counts_sum : (x y : List ℕ) (k : ℕ) → k ≤ 10 → counts_in (sum_of x y) k ≡ counts_in x k + counts_in y k
unfolding counts_in largest_at
counts_sum x y zero l = refl
counts_sum x y (suc k) l =
    let sums : largest_at (suc k) ≡ false = rw (ne_eqb (suc k) 12 (λ e. omega arith), ne_eqb (suc k) 14 (λ e. omega arith)) in
    omega (arith, counts_sum x y k (omega arith), sum_at_lem x y (suc k) (omega arith), joined_sum (suc k) (get_or x (suc k) 0) (get_or y (suc k) 0) sums)

pub sum_report : (x y : List ℕ) → Report x → Report y → Report (sum_of x y)
unfolding largest_at
sum_report x y r q = record {
  sixteen = sum_length x y;
  counted =
      omega (
        arith,
        counts_sum x y 10 (omega arith),
        r.counted,
        q.counted,
        sum_at_lem x y 0 (omega arith),
        joined_sum 0 (get_or x 0 0) (get_or y 0 0) refl,
      );
}

pub reports_report : (xs : List (List ℕ)) → Reports xs → Report (report_of xs)
unfolding Reports counts_in report_of tabulate total
reports_report [] rs = record { sixteen = refl; counted = refl }
reports_report (x ∷ xs) rs = rw (report_first x xs) (sum_report x (report_of xs) rs.0 (reports_report xs rs.1))

reports_split : (xs ys : List (List ℕ)) → Reports (xs ++ ys) → Reports xs × Reports ys
unfolding Reports
reports_split [] ys rs = (tt, rs)
reports_split (x ∷ xs) ys rs = let s = reports_split xs ys rs.1 in ((rs.0, s.0), s.1)

reports_each : (groups : List (List (List ℕ))) → Reports (flatten groups) → Reports (map report_of groups)
unfolding Reports flatten
reports_each [] rs = tt
reports_each (xs ∷ groups) rs = let s = reports_split xs (flatten groups) rs in (reports_report xs s.0, reports_each groups s.1)

report_flat : (groups : List (List (List ℕ))) → report_of (map report_of groups) ≡ report_of (flatten groups)
unfolding flatten
report_flat [] = refl
report_flat (xs ∷ groups) =
    report_first (report_of xs) (map report_of groups) ∙ ap (sum_of (report_of xs)) (report_flat groups) ∙ sym (report_joined xs (flatten groups))

-- nets in any groups: the reports of the groups, printed and then added, are the report of all nets
pub groups_back : (groups : List (List (List ℕ))) → 1 ≤ length groups → Reports (flatten groups)
    → get_or (report_of (flatten groups)) 0 0 ≤ most_nets → ((i : ℕ) → i < 16 → get_or (report_of (flatten groups)) i 0 ≤ most_total)
    → sum_text (text_of (map report_of groups)) ≡ report_text (report_of (flatten groups)) false
groups_back groups one rs few fits =
    let same = report_flat groups in
    all_sums_back (map report_of groups) (rw (length-map groups report_of) one) (reports_each groups rs) (rw same few) (rw same fits)
    ∙ ap (λ (x : List ℕ). report_text x false) same

-- ---- a report that ends with REFUSED
-- what comes after a line at fault changes nothing
fault_kept : (t : Tally) → (line : ℕ) → t.fault ≡ Some line → (lines : List (List ℕ)) → (after_lines t lines).tally ≡ t
unfolding after_lines after_line
fault_kept t at f [] = refl
fault_kept t at f (last ∷ []) = refl
fault_kept t at f (line ∷ next ∷ lines) =
    ap (λ (u : Tally). (after_lines u (next ∷ lines)).tally) (rw f) ∙ fault_kept t at f (next ∷ lines)

abbrev refused_body : List ℕ
refused_body = (82 ∷ 69 ∷ 70 ∷ 85 ∷ 83 ∷ 69 ∷ 68 ∷ []) ++ (count_field 30 ++ count_field 100001)

refused_body_lem : refused_line 30 (most_nets + 1) ≡ refused_body ++ line_end
unfolding digits digits_of
refused_body_lem = refl

refused_free : Free LF refused_body
unfolding digits digits_of bytes_before
refused_free = refl

refused_read : (t : Tally) → AtStart t → after_line t (cut (refused_body ++ line_end)) ≡ faulty t
unfolding entered begins head_of
refused_read t start =
    let text = cut (refused_body ++ line_end) in
    line_due t text start.fault ∙ ap (entered t) (ap (λ (n : ℕ). entry_at n text) start.due ∙ sym (other_head 0 text refl))

answer_fault : (t : Tally) (begun line : ℕ) → t.fault ≡ Some line → answer_of t begun ≡ refused_line 1 line
unfolding answer_of
answer_fault t begun line e = rw e

none_addable : (x : List ℕ) → Report x → get_or x 0 0 ≤ most_nets → ((i : ℕ) → i < 16 → get_or x i 0 ≤ most_total) → Addable none_read.sum x
unfolding none_read
none_addable x r few fits = record {
  sixteen = r.sixteen;
  counted = r.counted;
  few = omega arith;
  fits = λ i l. rw (none_joined i (get_or x i 0) l) (fits i l);
}

-- a report printed with a net past the most is refused at its fifteenth line, whatever follows
pub past_read : (t : Tally) (x : List ℕ) → AtStart t → Addable t.sum x → (rest : List ℕ)
    → (after_lines t (lines_in (report_text x true ++ rest))).tally.fault ≡ Some (lines_on 15 t.line)
unfolding last_line lines_on faulty
past_read t x start adds rest =
    let now = fourteen_read t x start adds in
    let a = fourteen_added t x start adds in
    let read : after_lines t (lines_in (report_text x true ++ rest)) ≡ after_lines (faulty now) (lines_in rest) =
    fourteen_lines t x start adds true rest
    ∙ ap (λ (text : List ℕ). after_lines now (lines_in (text ++ rest))) refused_body_lem
    ∙ next_line now refused_body rest refused_free
    ∙ ap (λ (u : Tally). after_lines u (lines_in rest)) (refused_read now a.start) in
    ap (λ (s : Stream). s.tally.fault) read
    ∙ ap (λ (u : Tally). u.fault) (fault_kept (faulty now) (line_after now.line) refl (lines_in rest))
    ∙ ap (λ (n : ℕ). Some (line_after n)) a.line

pub past_refused_on : (x : List ℕ) → Report x → get_or x 0 0 ≤ most_nets → ((i : ℕ) → i < 16 → get_or x i 0 ≤ most_total)
    → (rest : List ℕ) → sum_text (report_text x true ++ rest) ≡ refused_line 1 15
unfolding sum_text lines_on line_after none_read
past_refused_on x r few fits rest =
    let s = after_lines none_read (lines_in (report_text x true ++ rest)) in
    answer_fault s.tally (length s.begun) 15 (past_read none_read x none_start (none_addable x r few fits) rest)

pub past_refused : (x : List ℕ) → Report x → get_or x 0 0 ≤ most_nets → ((i : ℕ) → i < 16 → get_or x i 0 ≤ most_total) → sum_text (report_text x true) ≡ refused_line 1 15
past_refused x r few fits = ap sum_text (sym (append-nil (report_text x true))) ∙ past_refused_on x r few fits []
