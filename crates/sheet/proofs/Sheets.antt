-- Which sheets get yes, byte for byte, and that there is only one opinion. Assumes nothing.
--   answers_ext                        answers read the correlates of the n conditions alone
--   net_counts                         a net that passes 1 to 5 has from 1 to 64 directions and from 1 to 24 conditions
--   Fair, yes_fair, fair_own           correlates within their limits, with the remainders and corrections that they give: those of a sheet that gets yes,
--                                      and those of an accepted net
--   any_correlates, yes_bytes          the listing of any such correlates gets yes, and no other sheet does
--   own_listing                        so the adjusting program's listings of accepted nets get yes
--   same_bytes                         two sheets that get yes for one net and have the same K are equal byte for byte
--   first_bytes                        the first 7,298 bytes of a listing decide
--   one_opinion                        two opinions that keep the promise are equal
use mathlib.Core.Path.{◌≡◌, refl, sym, ◌∙◌, ap, ap₂, subst}
use mathlib.Core.Bool.{Bool}
use mathlib.Core.List.{List}
use Prim.Native.Nat.{ℕ, suc, ◌-◌, ◌≤◌, ◌<◌}
use native.Mathlib.Omega.{arith}
use borrow.Author.Tests.{ltb-false}
use lib.Dec.{ltb}
use lib.IntN.{ℤ, pos, nat_abs, ◌+ℤ◌, ◌*ℤ◌}
use lib.ListN.{take}
use lib.Seq.{take_all}
use Rattle.exact.specs.Sum.{sum}
use Rattle.exact.specs.Circle.{C}
use Rattle.exact.specs.Tabulate.{tabulate}
use Rattle.exact.proofs.Bound.{abs_add}
use Rattle.exact.proofs.Circles.{modulo_size}
use Rattle.exact.proofs.Filling.{tabulate_length, tabulate_at, tabulate_ext}
use Rattle.reply.specs.declared.Refusal.{Refusal}
use Rattle.reply.specs.declared.Refusal.TheVariants.{Correlate}
use Rattle.reply.specs.Reply.{Reply}
use Rattle.reply.specs.Checks.{◌and_then◌, figure_of}
use Rattle.reply.proofs.Checking.{both_accepted, none_refused}
use Rattle.doolittle.specs.Table.{Table, at}
use Rattle.doolittle.specs.Solution.{K}
use Rattle.doolittle.proofs.Sizes.{sum_within, product_size}
use Rattle.adjustment.specs.Corrections.{V_of, R_of, u_of, adjusted_of, Q_of}
use Rattle.adjustment.specs.Refusals.{rows_reply, correlates_reply, remainders_reply, corrections_reply, solution_reply}
use Rattle.adjustment.specs.Promise.{answers_of}
use Rattle.adjustment.proofs.Solving.{V_ext, u_ext, adjusted_ext, R_ext, Q_ext}
use Rattle.text.specs.Lines.{lines_of}
use Rattle.network.specs.Scan.{scan_reply}
use Rattle.network.specs.Net.{Net, net_of, net_from, formed_reply, table_reply}
use Rattle.network.proofs.Passing.{file_passed}
use Rattle.network.proofs.Tables.{misclosures_long}
use Rattle.listing.specs.declared.Sheet.TheVariants.{Plain}
use Rattle.listing.specs.Listing.{accepted_listing, on_sheet}
use Rattle.listing.specs.File.{table_in, net_reply, net_answers, file_reply, answers_listing, answers_on, net_listing, file_listing}
use Rattle.listing.proofs.Filing.{file_demand3, file_within_minute}
use Rattle.listing.proofs.Following.{file_replies}
use Rattle.std.specs.Prelude.{Result, Ok, Err}
use Rattle.sheet.specs.declared.Opinion.{Opinion}
use Rattle.sheet.specs.declared.Opinion.TheVariants.{Yes}
use Rattle.sheet.specs.Form.{conditions_in, form_reply, own_u, own_adjusted, own_k, own_r, own_q}
use Rattle.sheet.specs.Check.{check_reply, opinion_of}
use Rattle.sheet.specs.Promise.{Checks}
use Rattle.sheet.proofs.Judging.{net_passed, Says, yes_says, says_yes}
use Rattle.sheet.proofs.Wording.{own_text, Worded, text_worded}
use Rattle.sheet.proofs.Clipping.{form_cut, formed_short}

-- ---- what follows from equal correlates of the n conditions
module _ (t : Table) (k k' : ℕ → ℤ) (e : (j : ℕ) → j < t.n → k j ≡ k' j) where
  pub answers_ext : (direction : ℕ → ℤ) → answers_of t k direction ≡ answers_of t k' direction
  answers_ext direction = λ x. record {
    corrections = tabulate_ext t.m (V_of t k) (V_of t k') (λ i l. V_ext t k k' e i) x;
    printed = tabulate_ext t.m (u_of t k) (u_of t k') (λ i l. u_ext t k k' e i) x;
    adjusted = tabulate_ext t.m (adjusted_of t k direction) (adjusted_of t k' direction) (λ i l. adjusted_ext t k k' e direction i) x;
    correlates = tabulate_ext t.n k k' e x;
    remainders = tabulate_ext t.n (R_of t k) (R_of t k') (λ j l. R_ext t k k' e j) x;
    misses = tabulate_ext t.n (Q_of t k) (Q_of t k') (λ j l. Q_ext t k k' e j) x;
  }

-- ---- correlates within their limits, with the remainders and the corrections that they give
pub record Fair (t : Table) (k : ℕ → ℤ) : Type 0 where
  pub k_most : (j : ℕ) → j < t.n → nat_abs (k j) ≤ 100000000
  pub r_most : (j : ℕ) → j < t.n → nat_abs (R_of t k j) ≤ 50000000
  pub u_most : (i : ℕ) → i < t.m → nat_abs (u_of t k i) ≤ 60000

-- the listing of answers, by the table's counts
listing_is : (t : Table) (k direction : ℕ → ℤ)
    → answers_listing (answers_of t k direction)
    ≡ accepted_listing t.m t.n (tabulate t.m (u_of t k)) (tabulate t.m (adjusted_of t k direction)) (tabulate t.n k) (tabulate t.n (R_of t k)) (tabulate t.n (Q_of t k))
unfolding answers_listing
listing_is t k direction = rw (tabulate_length t.m (u_of t k), tabulate_length t.n k)

module _ (net : List ℕ) where
  abbrev given : Net
  given = net_of (lines_of net)

  abbrev t : Table
  t = table_in given

  abbrev direction : ℕ → ℤ
  direction = at given.directions

  module _ (e : table_reply net ≡ Ok tt) where
    pub net_counts : (1 ≤ t.m) × (t.m ≤ 64) × (1 ≤ t.n) × (t.n ≤ 24)
    unfolding table_in table_reply net_from
    net_counts =
        let passed = net_passed net e in
        let scanned = file_passed net (both_accepted (scan_reply net) (formed_reply given.directions given.q 1 given.conditions) e).0 in (
          omega (arith, passed.directions, scanned.total.0),
          passed.sound.m_most,
          omega (arith, misclosures_long given.directions given.q given.conditions, scanned.total.1),
          passed.sound.n_most,
        )

    Q_size : (k : ℕ → ℤ) → Fair t k → (j : ℕ) → j < t.n → nat_abs (Q_of t k j) ≤ 778000000000000
    unfolding table_in Q_of
    Q_size k f j l =
        let s = (net_passed net e).sound in let x = sum t.m (λ i. t.a j i *ℤ u_of t k i) in
        omega (
          arith,
          abs_add (pos 100000 *ℤ x) (pos 10000000 *ℤ t.w j),
          product_size (pos 100000) x {A = 100000} {B = 7680000000} (omega arith)
              (sum_within t.m 64 120000000 (λ i. t.a j i *ℤ u_of t k i) s.m_most (λ i h. product_size (t.a j i) (u_of t k i) (s.a_most j l i h) (f.u_most i h))),
          product_size (pos 10000000) (t.w j) {A = 10000000} {B = 1000000} (omega arith) (s.w_most j l),
        )

    adjusted_size : (k : ℕ → ℤ) (i : ℕ) → nat_abs (adjusted_of t k direction i) ≤ 1296000000
    unfolding adjusted_of
    adjusted_size k i = modulo_size (direction i +ℤ u_of t k i) C (record { lt = tt })

    module _ (k : ℕ → ℤ) (f : Fair t k) where
      worded : Worded t.m t.n (tabulate t.m (u_of t k)) (tabulate t.m (adjusted_of t k direction)) (tabulate t.n k) (tabulate t.n (R_of t k)) (tabulate t.n (Q_of t k)) (answers_listing (answers_of t k direction))
      worded =
          let c = net_counts in
          let us = tabulate t.m (u_of t k) in let ds = tabulate t.m (adjusted_of t k direction) in
          let ks = tabulate t.n k in let rs = tabulate t.n (R_of t k) in let qs = tabulate t.n (Q_of t k) in
          subst (Worded t.m t.n us ds ks rs qs) (sym (listing_is t k direction))
          (text_worded t.m t.n us ds ks rs qs c.0 c.1 c.2 c.3
          (λ i l. rw (tabulate_at t.m (u_of t k) i (pos 0) l) (omega (arith, f.u_most i l)))
          (λ i l. rw (tabulate_at t.m (adjusted_of t k direction) i (pos 0) l) (omega (arith, adjusted_size k i)))
          (λ j l. rw (tabulate_at t.n k j (pos 0) l) (omega (arith, f.k_most j l)))
          (λ j l. rw (tabulate_at t.n (R_of t k) j (pos 0) l) (omega (arith, f.r_most j l)))
          (λ j l. rw (tabulate_at t.n (Q_of t k) j (pos 0) l) (omega (arith, Q_size k f j l))))

      pub any_correlates : opinion_of net (answers_listing (answers_of t k direction)) ≡ Ok Yes
      any_correlates =
          let w = worded in let listing = answers_listing (answers_of t k direction) in
          let same : (j : ℕ) → j < t.n → k j ≡ own_k listing j = λ j l. sym (w.own_k_lem j l ∙ tabulate_at t.n k j (pos 0) l) in
          let as-u = u_ext t k (own_k listing) same in let as-r = R_ext t k (own_k listing) same in
          says_yes net listing
          (record {
            table = e;
            form = w.form;
            directions = w.directions;
            conditions = w.conditions;
            k_most = λ j l. rw (← same j l) (f.k_most j l);
            u = λ i l. w.own_u_lem i l ∙ tabulate_at t.m (u_of t k) i (pos 0) l ∙ as-u i;
            adjusted = λ i l. w.own_adjusted_lem i l ∙ tabulate_at t.m (adjusted_of t k direction) i (pos 0) l ∙ adjusted_ext t k (own_k listing) same direction i;
            u_most = λ i l. rw (← as-u i) (f.u_most i l);
            r = λ j l. w.own_r_lem j l ∙ tabulate_at t.n (R_of t k) j (pos 0) l ∙ as-r j;
            r_most = λ j l. rw (← as-r j) (f.r_most j l);
            q = λ j l. w.own_q_lem j l ∙ tabulate_at t.n (Q_of t k) j (pos 0) l ∙ Q_ext t k (own_k listing) same j;
          })

  -- ---- no other sheet gets yes
  module _ (listing : List ℕ) (e : opinion_of net listing ≡ Ok Yes) where
    pub yes_fair : Fair t (own_k listing)
    yes_fair = let s = yes_says net listing e in record { k_most = s.k_most; r_most = s.r_most; u_most = s.u_most }

    pub yes_bytes : listing ≡ answers_listing (answers_of t (own_k listing) direction)
    yes_bytes =
        let s = yes_says net listing e in let k = own_k listing in
        own_text listing s.form
        ∙ ap₂ (λ (m n : ℕ). accepted_listing m n (tabulate m (own_u listing)) (tabulate m (own_adjusted listing)) (tabulate n k) (tabulate n (own_r listing)) (tabulate n (own_q listing))) s.directions s.conditions
        ∙ told s
        ∙ sym (listing_is t k direction)
      where
        told : (s : Says net listing)
            → accepted_listing t.m t.n (tabulate t.m (own_u listing)) (tabulate t.m (own_adjusted listing)) (tabulate t.n (own_k listing)) (tabulate t.n (own_r listing)) (tabulate t.n (own_q listing))
            ≡ accepted_listing t.m t.n (tabulate t.m (u_of t (own_k listing))) (tabulate t.m (adjusted_of t (own_k listing) direction)) (tabulate t.n (own_k listing)) (tabulate t.n (R_of t (own_k listing))) (tabulate t.n (Q_of t (own_k listing)))
        told s =
            let k = own_k listing in
            rw (
              tabulate_ext t.m (own_u listing) (u_of t k) s.u,
              tabulate_ext t.m (own_adjusted listing) (adjusted_of t k direction) s.adjusted,
              tabulate_ext t.n (own_r listing) (R_of t k) s.r,
              tabulate_ext t.n (own_q listing) (Q_of t k) s.q,
            )

  -- ---- "The adjusting program's listings of accepted nets get yes."
  module _ (e : file_reply net ≡ Ok tt) where
    accepted : (table_reply net ≡ Ok tt) × (solution_reply t ≡ Ok tt)
    unfolding table_reply file_reply
    accepted =
        let formed = formed_reply given.directions given.q 1 given.conditions in
        let scanned = (both_accepted (scan_reply net) (net_reply given) e).0 in
        let solved = both_accepted formed (solution_reply t) (sym (file_replies net scanned) ∙ e) in
        (rw scanned solved.0, solved.1)

    correlates_small : (j : ℕ) → j < t.n → nat_abs (K t j) ≤ 100000000
    unfolding solution_reply correlates_reply
    correlates_small j l =
        let last = remainders_reply t (K t) and_then corrections_reply t (K t) in
        let rows = both_accepted (rows_reply t) (correlates_reply t and_then last) accepted.1 in
        let large : ℕ → Bool = λ b. ltb 100000000 (nat_abs (K t (t.n - suc b))) in
        let back : t.n - suc (t.n - suc j) ≡ j = omega arith in
        let small = none_refused t.n large (λ b. Correlate (t.n - b)) (both_accepted (correlates_reply t) last rows.1).0 (t.n - suc j) (omega arith) in
        rw (← back) (ltb-false 100000000 (nat_abs (K t (t.n - suc (t.n - suc j)))) small)

    pub fair_own : Fair t (K t)
    fair_own = record { k_most = correlates_small; r_most = (file_demand3 net e).close; u_most = file_within_minute net e }

    pub own_listing : opinion_of net (file_listing Plain net) ≡ Ok Yes
    unfolding net_listing answers_on on_sheet net_answers
    own_listing = any_correlates accepted.0 (K t) fair_own

  -- ---- the K of a sheet that gets yes are all that it tells
  pub same_bytes : (listing other : List ℕ) → opinion_of net listing ≡ Ok Yes → opinion_of net other ≡ Ok Yes
      → ((j : ℕ) → j < conditions_in listing → own_k listing j ≡ own_k other j) → listing ≡ other
  same_bytes listing other e e' same =
      let n = (yes_says net listing e).conditions in
      yes_bytes listing e
      ∙ ap answers_listing (answers_ext t (own_k listing) (own_k other) (λ j l. same j (omega (arith, n))) direction)
      ∙ sym (yes_bytes other e')

  -- ---- the first bytes of a listing
  pub first_bytes : (listing : List ℕ) (size : ℕ) → 7298 ≤ size → opinion_of net (take size listing) ≡ opinion_of net listing
  unfolding opinion_of check_reply
  first_bytes listing size far = by_form (form_reply listing) refl
    where
      refused : (r : Reply) (why : Refusal) (o o' : Opinion) → figure_of (r and_then Err why) o ≡ figure_of (r and_then Err why) o'
      refused (Ok _) why o o' = refl
      refused (Err other) why o o' = refl

      by_form : (r : Reply) → form_reply listing ≡ r → opinion_of net (take size listing) ≡ opinion_of net listing
      by_form (Ok _) e = ap (opinion_of net) (take_all size listing (omega (arith, formed_short listing e)))
      by_form (Err why) e = rw (form_cut listing size far, e) (refused (table_reply net) why _ _)

  -- ---- and there is only one
  pub one_opinion : (listing : List ℕ) (opinion opinion' : Result Opinion Refusal) → Checks net listing opinion → Checks net listing opinion' → opinion ≡ opinion'
  one_opinion listing opinion opinion' a b = a.answer ∙ sym b.answer
