-- What a yes says of a net and a listing, both ways, and what follows from it. Assumes nothing.
--   net_passed                   the table of a net that passes 1 to 5 is sound, and its lists are as long as they must be
--   Says, yes_says, says_yes     all that a yes says; where all of it holds, the opinion is yes
--   yes_demand3, yes_within_minute      a yes carries demand 3 with it, and no correction on the sheet is past one minute
use mathlib.Core.Path.{◌≡◌, refl, sym, ◌∙◌}
use mathlib.Core.Bool.{Bool, true, false, cond, not, ◌||◌}
use mathlib.Core.List.{List}
use Prim.Native.Nat.{ℕ, zero, suc, ◌+◌, ◌≤◌, ◌<◌}
use native.Mathlib.Omega.{arith}
use borrow.Author.Tests.{ltb-false, le-ltb, eq-eqb, eqb-true, not-false}
use lib.Dec.{ltb, eqb}
use lib.IntN.{ℤ, nat_abs}
use lib.ListN.{length}
use Rattle.exact.specs.First.{some_below}
use Rattle.exact.specs.Same.{same}
use Rattle.exact.proofs.Searching.{Failed, all_failed, some_none}
use Rattle.std.proofs.lemmas.Bool.{or_parts}
use Rattle.exact.proofs.Sameness.{same_true, same_yes}
use Rattle.reply.proofs.Checking.{both_accepted, figure_given}
use Rattle.doolittle.specs.Table.{Table, at}
use Rattle.adjustment.specs.Corrections.{V_of, R_of, u_of, adjusted_of, Q_of}
use Rattle.adjustment.specs.Refusals.{past_minute}
use Rattle.adjustment.proofs.Demands.{demand_3, demand_ext}
use Rattle.adjustment.proofs.Promising.{Passed, passed_table}
use Rattle.text.specs.Lines.{lines_of}
use Rattle.network.specs.Scan.{scan_reply}
use Rattle.network.specs.Net.{Net, net_of, net_from, formed_reply, rows_of, misclosures_of, table_reply}
use Rattle.network.proofs.Bounding.{scan_bounds}
use Rattle.network.proofs.Passing.{file_passed, scan_checks}
use Rattle.listing.specs.File.{table_in, room}
use Rattle.listing.proofs.Following.{table_passes}
use Rattle.std.specs.Prelude.{Ok}
use Rattle.sheet.specs.declared.Opinion.TheVariants.{Yes}
use Rattle.sheet.specs.Form.{directions_in, conditions_in, form_reply, own_u, own_adjusted, own_k, own_r, own_q}
use Rattle.sheet.specs.Check.{unlike, first_line, counts_differ, correlate_too_large, direction_differs, condition_differs, disagreement, opinion_at, check_reply, opinion_of}
use Rattle.sheet.specs.Promise.{SheetDemand3, SheetWithinMinute}

-- ---- a net that passes 1 to 5
pub net_passed : (net : List ℕ) → table_reply net ≡ Ok tt
    → let given = net_of (lines_of net) in
    Passed given.directions given.q (rows_of given.directions given.q given.conditions) (misclosures_of given.directions given.q given.conditions)
    (room (length given.directions) (length given.conditions))
unfolding table_reply net_from
net_passed net e =
    let given = net_of (lines_of net) in
    let b = both_accepted (scan_reply net) (formed_reply given.directions given.q 1 given.conditions) e in
    passed_table given.directions given.q (rows_of given.directions given.q given.conditions) (misclosures_of given.directions given.q given.conditions)
    (room (length given.directions) (length given.conditions))
    (table_passes given (file_passed net b.0) (scan_bounds net b.0) b.1 (scan_checks net b.0))

-- ---- the tests of a sheet, both ways
alike : (a b : ℤ) → unlike a b ≡ false → a ≡ b
alike a b e = same_true a b (not-false (same a b) e)

equal : (a b : ℤ) → a ≡ b → unlike a b ≡ false
equal a b e = rw (same_yes e)

-- a line that is none: no test has failed
by_first : (b : Bool) (line after : ℕ) → 0 < line → cond b line after ≡ 0 → (b ≡ false) × (after ≡ 0)
by_first true line after l e = absurd (omega arith)
by_first false line after l e = (refl, e)

none_failed : (n : ℕ) (fails : ℕ → Bool) (from after : ℕ) → 0 < from → first_line n fails from after ≡ 0 → Failed fails n × (after ≡ 0)
none_failed n fails from after l e = let b = by_first (some_below n fails) _ after (omega arith) e in (all_failed n fails b.0, b.1)

goes_on_lem : (n : ℕ) (fails : ℕ → Bool) (from after : ℕ) → Failed fails n → first_line n fails from after ≡ after
goes_on_lem n fails from after f = rw (some_none n fails f)

at_none : (line : ℕ) → Yes ≡ opinion_at line → line ≡ 0
at_none zero e = refl
at_none (suc line) e = cc

-- ---- all that a yes says
module _ (net listing : List ℕ) where
  abbrev given : Net
  given = net_of (lines_of net)

  abbrev t : Table
  t = table_in given

  abbrev k : ℕ → ℤ
  k = own_k listing

  pub record Says : Type 0 where
    pub table : table_reply net ≡ Ok tt
    pub form : form_reply listing ≡ Ok tt
    pub directions : directions_in listing ≡ t.m
    pub conditions : conditions_in listing ≡ t.n
    pub k_most : (j : ℕ) → j < t.n → nat_abs (k j) ≤ 100000000
    pub u : (i : ℕ) → i < t.m → own_u listing i ≡ u_of t k i
    pub adjusted : (i : ℕ) → i < t.m → own_adjusted listing i ≡ adjusted_of t k (at given.directions) i
    pub u_most : (i : ℕ) → i < t.m → nat_abs (u_of t k i) ≤ 60000
    pub r : (j : ℕ) → j < t.n → own_r listing j ≡ R_of t k j
    pub r_most : (j : ℕ) → j < t.n → nat_abs (R_of t k j) ≤ 50000000
    pub q : (j : ℕ) → j < t.n → own_q listing j ≡ Q_of t k j

  direction_says : (i : ℕ) → direction_differs t (at given.directions) listing i ≡ false
      → (own_u listing i ≡ u_of t k i) × (own_adjusted listing i ≡ adjusted_of t k (at given.directions) i) × (nat_abs (u_of t k i) ≤ 60000)
  unfolding direction_differs
  direction_says i e =
      let a = unlike (own_u listing i) (u_of t k i) in let b = unlike (own_adjusted listing i) (adjusted_of t k (at given.directions) i) in
      let last = or_parts (a || b) (past_minute (u_of t k i)) e in let two = or_parts a b last.0 in
      (alike (own_u listing i) (u_of t k i) two.0, alike (own_adjusted listing i) (adjusted_of t k (at given.directions) i) two.1, ltb-false 60000 (nat_abs (u_of t k i)) last.1)

  condition_says : (j : ℕ) → condition_differs t listing j ≡ false
      → (own_r listing j ≡ R_of t k j) × (own_q listing j ≡ Q_of t k j) × (nat_abs (R_of t k j) ≤ 50000000)
  unfolding condition_differs
  condition_says j e =
      let a = unlike (own_r listing j) (R_of t k j) in let b = unlike (own_q listing j) (Q_of t k j) in
      let last = or_parts (a || b) (ltb 50000000 (nat_abs (R_of t k j))) e in let two = or_parts a b last.0 in
      (alike (own_r listing j) (R_of t k j) two.0, alike (own_q listing j) (Q_of t k j) two.1, ltb-false 50000000 (nat_abs (R_of t k j)) last.1)

  pub yes_says : opinion_of net listing ≡ Ok Yes → Says
  unfolding opinion_of check_reply disagreement counts_differ correlate_too_large
  yes_says e =
      let d = at given.directions in
      let passed = figure_given (check_reply net listing) (opinion_at (disagreement t d listing)) e in
      let replies = both_accepted (table_reply net) (form_reply listing) passed.0 in
      let conditions = first_line t.n (condition_differs t listing) (t.m + 2) 0 in
      let directions = first_line t.m (direction_differs t d listing) 2 conditions in
      let sizes = first_line t.n (correlate_too_large listing) (t.m + 2) directions in
      let no-m = not (eqb (directions_in listing) t.m) in let no-n = not (eqb (conditions_in listing) t.n) in
      let first = by_first (no-m || no-n) 1 sizes (omega arith) (at_none (disagreement t d listing) passed.1) in
      let counts = or_parts no-m no-n first.0 in
      let small = none_failed t.n (correlate_too_large listing) (t.m + 2) directions (omega arith) first.1 in
      let followed = none_failed t.m (direction_differs t d listing) 2 conditions (omega arith) small.1 in
      let closed = none_failed t.n (condition_differs t listing) (t.m + 2) 0 (omega arith) followed.1 in
      record {
        table = replies.0;
        form = replies.1;
        directions = eqb-true (directions_in listing) t.m (not-false (eqb (directions_in listing) t.m) counts.0);
        conditions = eqb-true (conditions_in listing) t.n (not-false (eqb (conditions_in listing) t.n) counts.1);
        k_most = λ j l. ltb-false 100000000 (nat_abs (k j)) (small.0 j l);
        u = λ i l. (direction_says i (followed.0 i l)).0;
        adjusted = λ i l. (direction_says i (followed.0 i l)).1;
        u_most = λ i l. (direction_says i (followed.0 i l)).2;
        r = λ j l. (condition_says j (closed.0 j l)).0;
        q = λ j l. (condition_says j (closed.0 j l)).1;
        r_most = λ j l. (condition_says j (closed.0 j l)).2;
      }

  module _ (s : Says) where
    counts_agree : counts_differ t listing ≡ false
    unfolding counts_differ
    counts_agree = rw (eq-eqb (directions_in listing) t.m s.directions, eq-eqb (conditions_in listing) t.n s.conditions)

    correlates_small : Failed (correlate_too_large listing) t.n
    unfolding correlate_too_large
    correlates_small j l = le-ltb 100000000 (nat_abs (k j)) (s.k_most j l)

    directions_agree : Failed (direction_differs t (at given.directions) listing) t.m
    unfolding direction_differs
    directions_agree i l =
        rw (
          equal (own_u listing i) (u_of t k i) (s.u i l),
          equal (own_adjusted listing i) (adjusted_of t k (at given.directions) i) (s.adjusted i l),
          le-ltb 60000 (nat_abs (u_of t k i)) (s.u_most i l),
        )

    conditions_agree : Failed (condition_differs t listing) t.n
    unfolding condition_differs
    conditions_agree j l =
        rw (
          equal (own_r listing j) (R_of t k j) (s.r j l),
          equal (own_q listing j) (Q_of t k j) (s.q j l),
          le-ltb 50000000 (nat_abs (R_of t k j)) (s.r_most j l),
        )

    no_disagreement : disagreement t (at given.directions) listing ≡ 0
    unfolding disagreement
    no_disagreement =
        let d = at given.directions in
        rw counts_agree
        (goes_on_lem t.n (correlate_too_large listing) (t.m + 2) _ correlates_small
        ∙ goes_on_lem t.m (direction_differs t d listing) 2 _ directions_agree
        ∙ goes_on_lem t.n (condition_differs t listing) (t.m + 2) 0 conditions_agree)

    pub says_yes : opinion_of net listing ≡ Ok Yes
    unfolding opinion_of check_reply
    says_yes = rw (s.table, s.form, no_disagreement)

  -- ---- "A yes carries demand 3 with it, whoever made the sheet"
  pub yes_demand3 : opinion_of net listing ≡ Ok Yes → SheetDemand3 net listing
  unfolding table_in
  yes_demand3 e =
      let s = yes_says e in let sound = (net_passed net s.table).sound in
      demand_ext t (V_of t k) (V_of t k) (u_of t k) (own_u listing) (R_of t k) (own_r listing) (Q_of t k) (own_q listing) (λ i l. refl)
      (λ i l. sym (s.u i l))
      (λ j l. sym (s.r j l))
      (λ j l. sym (s.q j l))
      (demand_3 t k sound.q_least sound.q_most s.r_most)

  pub yes_within_minute : opinion_of net listing ≡ Ok Yes → SheetWithinMinute net listing
  yes_within_minute e i l = let s = yes_says e in rw (s.u i l) (s.u_most i l)
