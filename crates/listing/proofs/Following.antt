-- After an accepted scan a file is refused with 4 or 5 by its conditions, or with 6, 7, 8 or 9 by its solution, and for nothing else. Assumes nothing.
--   InRange, in_range     the row and the misclosure of an accepted condition are in range
--   AllInRange, all_in_range   the rows of all conditions, one after the other, and their misclosures are
--   table_passes          so the table passes the input checks of `adjustment`
--   file_replies          so what follows the conditions is the solution's reply
--   lone_file             so a file of one condition is refused with 6 exactly where all its coefficients are zero
use mathlib.Core.Path.{◌≡◌, refl, sym, ◌∙◌, ap, subst}
use mathlib.Core.Bool.{false, cond, ◌||◌}
use mathlib.Core.List.{List, [], ◌∷◌, ◌++◌}
use Prim.Native.Nat.{ℕ, zero, suc, ◌+◌, ◌*◌, ◌<◌, ◌≤◌}
use native.Mathlib.Nat.{suc-mul, zero-mul, zero-add}
use borrow.Author.Tests.{ltb-false, le-ltb, eq-eqb}
use native.Mathlib.Omega.{arith}
use lib.Dec.{ltb}
use lib.IntN.{ℤ, pos, nat_abs}
use lib.ListN.{length, get_or, length-append, get_or-append}
use Rattle.exact.specs.Tabulate.{tabulate}
use Rattle.exact.proofs.Filling.{tabulate_length, tabulate_at}
use Rattle.exact.proofs.Searching.{all_failed, some_none}
use Rattle.reply.specs.declared.Refusal.TheVariants.{Coefficient, Misclosure}
use Rattle.reply.specs.Reply.{Reply}
use Rattle.reply.specs.Checks.{refuse_if, ◌and_then◌, figure_value}
use Rattle.reply.proofs.Checking.{both_accepted, if_accepted, refuse_none}
use Rattle.condition.specs.Rules.{Lent, checks, coefficient, beyond, misclosure, coefficients_reply, coefficients_list, misclosure_figure}
use Rattle.doolittle.specs.Table.{Table, table_of}
use Rattle.adjustment.specs.Refusals.{counts_amiss, differs, lengths_amiss, coefficient_fault, misclosure_fault, conditions_reply as table_reply, solution_reply, input_reply}
use Rattle.adjustment.specs.Promise.{Answers}
use Rattle.adjustment.proofs.Promising.{input, passed_solved}
use Rattle.adjustment.proofs.Lone.{WeakExactly, lone_table}
use Rattle.doolittle.proofs.Lone.{Untouching}
use Rattle.text.specs.Lines.{lines_of}
use Rattle.network.specs.Scan.{none, scan_reply}
use Rattle.network.specs.Net.{Condition, Net, lent_of, zeros, condition_reply, formed_reply, row_of, misclosure_of, rows_of, misclosures_of, net_of, net_from}
use Rattle.listing.specs.File.{room, table_in, net_reply, file_reply}
use Rattle.network.proofs.Bounding.{Room, scan_bounds}
use Rattle.network.proofs.Passing.{Passed, Checked, directions_pass, file_passed, scan_checks, four_and_five}
use Rattle.network.proofs.Tables.{misclosures_long}
use Rattle.std.proofs.lemmas.List.{get_or-append-add}
use Rattle.std.specs.Prelude.{Ok, Err}

module _ (ds q : List ℤ) where
  abbrev m : ℕ
  m = length ds

  -- ---- one condition that is accepted: its row and its misclosure are within their ranges
  record InRange (c : Condition) : Type 0 where
    pub long : length (row_of ds q c) ≡ m
    pub row : (i : ℕ) → i < m → nat_abs (get_or (row_of ds q c) i (pos 0)) ≤ 2000
    pub closing : nat_abs (misclosure_of ds q c) ≤ 1000000

  module _ (j : ℕ) (c : Condition) (checked : checks (lent_of ds q c) ≡ Ok tt) (e : condition_reply ds q j c ≡ Ok tt) where
    abbrev l : Lent
    l = lent_of ds q c

    both : (refuse_if (beyond l) (Coefficient j) ≡ Ok tt) × (refuse_if (ltb 1000000 (nat_abs (misclosure l))) (Misclosure j) ≡ Ok tt)
    both = both_accepted (refuse_if (beyond l) (Coefficient j)) (refuse_if (ltb 1000000 (nat_abs (misclosure l))) (Misclosure j)) (sym (four_and_five ds q j c checked) ∙ e)

    low : beyond l ≡ false
    low = if_accepted (beyond l) (Coefficient j) both.0

    small : ltb 1000000 (nat_abs (misclosure l)) ≡ false
    small = if_accepted (ltb 1000000 (nat_abs (misclosure l))) (Misclosure j) both.1

    accepted : coefficients_reply l m ≡ Ok tt
    unfolding coefficients_reply lent_of
    accepted = rw (eq-eqb m m refl, checked, low)

    row_value : row_of ds q c ≡ tabulate m (λ h. coefficient l (h + 1))
    unfolding row_of coefficients_list zeros lent_of
    row_value = rw (tabulate_length m, accepted)

    closing_value : misclosure_of ds q c ≡ misclosure l
    unfolding misclosure_of misclosure_figure figure_value
    closing_value = rw (checked, small)

    in_range : InRange c
    unfolding lent_of
    in_range = record {
      long = ap length row_value ∙ tabulate_length m (λ h. coefficient l (h + 1));
      row = λ i h. rw (row_value, tabulate_at m (λ h. coefficient l (h + 1)) i (pos 0) h)
          (ltb-false 2000 (nat_abs (coefficient l (i + 1))) (all_failed m (λ h. ltb 2000 (nat_abs (coefficient l (h + 1)))) low i h));
      closing = rw closing_value (ltb-false 1000000 (nat_abs (misclosure l)) small);
    }

  -- ---- all of them
  record AllInRange (cs : List Condition) : Type 0 where
    pub long : length (rows_of ds q cs) ≡ length cs * m
    pub rows : (j : ℕ) → j < length cs → (i : ℕ) → i < m → nat_abs (get_or (rows_of ds q cs) (j * m + i) (pos 0)) ≤ 2000
    pub closings : (j : ℕ) → j < length cs → nat_abs (get_or (misclosures_of ds q cs) j (pos 0)) ≤ 1000000

  all_more : (c : Condition) (cs : List Condition) → InRange c → AllInRange cs → AllInRange (c ∷ cs)
  unfolding rows_of misclosures_of
  all_more c cs w a = record {
    long = omega (arith, length-append (row_of ds q c) (rows_of ds q cs), w.long, a.long, suc-mul (length cs) m);
    rows = each;
    closings = every;
  }
    where
      each : (j : ℕ) → j < suc (length cs) → (i : ℕ) → i < m → nat_abs (get_or (row_of ds q c ++ rows_of ds q cs) (j * m + i) (pos 0)) ≤ 2000
      each zero h i l = rw (zero-mul m, zero-add i, get_or-append (row_of ds q c) (rows_of ds q cs) (pos 0) i (omega (arith, l, w.long))) (w.row i l)
      each (suc j) h i l =
          let place : suc j * m + i ≡ length (row_of ds q c) + (j * m + i) = omega (arith, suc-mul j m, w.long) in
          rw (place, get_or-append-add (row_of ds q c) (rows_of ds q cs) (j * m + i) (pos 0)) (a.rows j (omega arith) i l)

      every : (j : ℕ) → j < suc (length cs) → nat_abs (get_or (misclosure_of ds q c ∷ misclosures_of ds q cs) j (pos 0)) ≤ 1000000
      every zero h = w.closing
      every (suc j) h = a.closings j (omega arith)

  all_in_range : (j : ℕ) (cs : List Condition) → Checked ds q cs → formed_reply ds q j cs ≡ Ok tt → AllInRange cs
  unfolding Checked formed_reply rows_of misclosures_of
  all_in_range j [] k e = record { long = omega (arith, zero-mul m); rows = λ j h i l. absurd (omega arith); closings = λ j h. absurd (omega arith) }
  all_in_range j (c ∷ cs) k e =
      let b = both_accepted (condition_reply ds q j c) (formed_reply ds q (suc j) cs) e in all_more c cs (in_range j c k.0 b.0) (all_in_range (suc j) cs k.1 b.1)

-- ---- the input checks of `adjustment`
module _ (net : Net) where
  abbrev rows : List ℤ
  rows = rows_of net.directions net.q net.conditions

  abbrev closings : List ℤ
  closings = misclosures_of net.directions net.q net.conditions

  abbrev n : ℕ
  n = length net.conditions

  abbrev t : Table
  t = table_of net.q rows closings

  abbrev lent : Answers
  lent = room (length net.directions) n

  -- 4 and 5, condition by condition
  abbrev formed : Reply
  formed = formed_reply net.directions net.q 1 net.conditions

  module _ (p : Passed none net) (r : Room none net) (e : formed ≡ Ok tt) (k : Checked net.directions net.q net.conditions) where
    all : AllInRange net.directions net.q net.conditions
    all = all_in_range net.directions net.q 1 net.conditions k e

    closings_long : length closings ≡ n
    closings_long = misclosures_long net.directions net.q net.conditions

    counts : counts_amiss (length net.directions) (length closings) ≡ false
    unfolding counts_amiss
    counts =
        rw (
          closings_long,
          le-ltb (length net.directions) 1 (omega (arith, p.total.0)),
          le-ltb 64 (length net.directions) (omega (arith, r.m)),
          le-ltb n 1 (omega (arith, p.total.1)),
          le-ltb 24 n (omega (arith, r.n)),
          le-ltb (length net.directions) n (omega (arith, p.total.2)),
        )

    coefficients_low : (j : ℕ) → j < n → coefficient_fault t j ≡ false
    unfolding coefficient_fault
    coefficients_low j h =
        some_none (length net.q) (λ i. ltb 2000 (nat_abs (t.a j i)))
        (λ i l. le-ltb 2000 (nat_abs (t.a j i))
        (subst (λ (m : ℕ). nat_abs (get_or rows (j * m + i) (pos 0)) ≤ 2000) (sym p.directions.even) (all.rows j h i (omega (arith, l, p.directions.even)))))

    closings_low : (j : ℕ) → j < n → misclosure_fault t j ≡ false
    unfolding misclosure_fault
    closings_low j h = le-ltb 1000000 (nat_abs (t.w j)) (all.closings j h)

    table : table_reply t ≡ Ok tt
    unfolding table_reply
    table =
        refuse_none (length closings) (λ j. coefficient_fault t j || misclosure_fault t j) (λ j. cond (coefficient_fault t j) (Coefficient (j + 1)) (Misclosure (j + 1)))
        (λ j h. rw (coefficients_low j (omega (arith, h, closings_long)), closings_low j (omega (arith, h, closings_long))))

    lengths :
        lengths_amiss (length net.directions) (length closings) (length net.q) (length rows) (length lent.corrections) (length lent.printed) (length lent.adjusted) (length lent.correlates) (length lent.remainders) (length lent.misses) ≡ false
    unfolding lengths_amiss differs room zeros
    lengths =
        rw (
          tabulate_length (length net.directions),
          tabulate_length n,
          closings_long,
          p.directions.even,
          all.long,
          eq-eqb (length net.directions) (length net.directions) refl,
          eq-eqb (n * length net.directions) (n * length net.directions) refl,
          eq-eqb n n refl,
        )

    pub table_passes : input net.directions net.q rows closings lent ≡ Ok tt
    unfolding input_reply
    table_passes = rw (counts, lengths, directions_pass net.directions net.q p.directions, table)

-- ---- the file
after : (r s t : Reply) → (r ≡ Ok tt → s ≡ t) → r and_then s ≡ r and_then t
after (Ok _) s t h = h refl
after (Err why) s t h = refl

module _ (file : List ℕ) (e : scan_reply file ≡ Ok tt) where
  abbrev given : Net
  given = net_of (lines_of file)

  file_passes : formed given ≡ Ok tt → input given.directions given.q (rows given) (closings given) (lent given) ≡ Ok tt
  unfolding net_from
  file_passes h = table_passes given (file_passed file e) (scan_bounds file e) h (scan_checks file e)

  pub file_replies : file_reply file ≡ formed given and_then solution_reply (table_in given)
  unfolding file_reply net_reply table_in
  file_replies = rw e (after (formed given) _ _ (λ h. passed_solved given.directions given.q (rows given) (closings given) (lent given) (file_passes h)))

  pub lone_file : formed given ≡ Ok tt → length given.conditions ≡ 1 → WeakExactly (file_reply file) (Untouching (table_in given) 0)
  unfolding file_reply net_reply table_in
  lone_file h one =
      rw (e, h)
      (lone_table given.directions given.q (rows given) (closings given) (lent given) (file_passes h)
      (misclosures_long given.directions given.q given.conditions ∙ one))
