-- Laws of the reply to a condition table and to a net, and of their listings, by what `adjustment` and the conditions have answered. Assumes nothing.
--   answers_errors_lem                              the errors of a table's answers
--   answered, errors_accepted, table_accepted   the reply to a table, in lent lists that fit; that an accepted one's errors are not refused; and its listing
--   given_answered, given_errors_accepted, given_table_accepted      the same of a table whose answers stand in lists of their own
--   file_refused, file_reply_lem, file_listing_lem      the reply to a file whose table is refused, and to one whose is not; its listing
--   answers_most                                the ADJ, V and K lines have no more than 6,560 bytes
use mathlib.Core.Path.{◌≡◌, refl, sym, ◌∙◌, ap, ap₂, subst}
use mathlib.Core.List.{List, [], ◌++◌}
use Prim.Native.Nat.{ℕ, ◌≤◌}
use native.Mathlib.Omega.{arith}
use lib.IntN.{ℤ}
use lib.ListN.{length}
use Rattle.exact.specs.Tabulate.{tabulate}
use Rattle.exact.proofs.Filling.{tabulate_length}
use Rattle.reply.specs.declared.Refusal.{Refusal}
use Rattle.reply.specs.Reply.{Reply}
use Rattle.reply.specs.Checks.{◌and_then◌, figure_reply}
use Rattle.reply.proofs.Checking.{never}
use Rattle.doolittle.specs.Table.{Table, at, table_of}
use Rattle.doolittle.specs.Solution.{K}
use Rattle.adjustment.specs.Corrections.{u_of}
use Rattle.adjustment.specs.Promise.{Answers, adjust_reply, answers_of}
use Rattle.adjustment.specs.declared.lists.Adjusted.{Adjusted}
use Rattle.adjustment.specs.Inner.{AdjustsOwn, fitting, answers_in, GivesAnswers}
use Rattle.adjustment.proofs.Fitting.{Lent, fitting_reply}
use Rattle.precision.specs.declared.Errors.{Errors}
use Rattle.precision.specs.Errors.{errors_of}
use Rattle.precision.specs.Promise.{errors_reply}
use Rattle.precision.proofs.Adjusting.{table_admitted}
use Rattle.text.specs.Lines.{lines_of}
use Rattle.network.specs.Scan.{scan_reply}
use Rattle.network.specs.Net.{Net, net_of, zeros, formed_reply, rows_of, misclosures_of, table_reply, Tabled}
use Rattle.network.specs.declared.lists.NetTable.{NetTable}
use Rattle.network.proofs.Tables.{misclosures_long}
use Rattle.listing.specs.declared.Sheet.{Sheet}
use Rattle.listing.specs.Listing.{accepted_listing, on_sheet}
use Rattle.listing.specs.File.{table_in, room, net_reply, net_answers, file_reply, answers_listing, answers_errors, answers_on, table_listing, net_listing, file_listing}
use Rattle.listing.proofs.Composing.{accepted_most, ended_by}
use Rattle.std.specs.Prelude.{Result, Ok, Err}

-- ---- a condition table
-- its errors, by its own counts
pub answers_errors_lem : (q : List ℤ) (t : Table) (k direction : ℕ → ℤ) → answers_errors q (answers_of t k direction) ≡ errors_of (tabulate t.m (u_of t k)) q t.n
unfolding answers_errors
answers_errors_lem q t k direction = ap (errors_of (tabulate t.m (u_of t k)) q) (tabulate_length t.n k)

module _ (ds q a w : List ℤ) where
  abbrev answers : Answers
  answers = answers_of (table_of q a w) (K (table_of q a w)) (at ds)

  -- adjusted in lent lists that fit
  module _ {lent : Answers} (l : Lent (length ds) (length w) lent) {reply : Reply} {left : Answers} (p : AdjustsOwn ds q a w lent reply left) where
    pub answered : adjust_reply ds q a w (room (length ds) (length w)) ≡ reply
    unfolding fitting room zeros
    answered = fitting_reply ds q a w l ∙ sym p.answer

    module _ (e : reply ≡ Ok tt) where
      left_is : left ≡ answers
      left_is = p.lists e

      -- its errors are not refused
      pub errors_accepted : errors_reply left.printed q (length w) ≡ Ok tt
      errors_accepted = subst (λ (x : Answers). errors_reply x.printed q (length w) ≡ Ok tt) (sym left_is) (table_admitted ds q a w lent (sym p.answer ∙ e))

      lines_are : length q ≡ length ds
          → accepted_listing (length ds) (length w) left.printed left.adjusted left.correlates left.remainders left.misses ≡ answers_listing answers
      unfolding answers_listing
      lines_are m =
          ap (λ (x : Answers). accepted_listing (length ds) (length w) x.printed x.adjusted x.correlates x.remainders x.misses) left_is
          ∙ ap₂ (λ (m n : ℕ). accepted_listing m n answers.printed answers.adjusted answers.correlates answers.remainders answers.misses) (sym (tabulate_length (length q) _ ∙ m)) (sym (tabulate_length (length w) _))

      pub table_accepted : (sheet : Sheet) → length q ≡ length ds
          → accepted_listing (length ds) (length w) left.printed left.adjusted left.correlates left.remainders left.misses ++ on_sheet sheet [] (errors_of left.printed q (length w))
          ≡ table_listing sheet ds q a w
      unfolding table_listing answers_on
      table_accepted sheet m =
          ap₂ (λ (x : List ℕ) (y : Errors). x ++ on_sheet sheet [] y) (lines_are m)
          (ap (λ (x : Answers). errors_of x.printed q (length w)) left_is ∙ sym (answers_errors_lem q (table_of q a w) (K (table_of q a w)) (at ds)))
          ∙ ended_by sheet (answers_listing answers) (answers_errors q answers)

  -- adjusted in answer lists of its own
  module _ {given : Result Adjusted Refusal} (p : GivesAnswers ds q a w given) where
    pub given_answered : adjust_reply ds q a w (room (length ds) (length w)) ≡ figure_reply given
    unfolding fitting room zeros
    given_answered = sym p.reply

    module _ {x : Adjusted} (e : given ≡ Ok x) where
      answers_are : answers_in x ≡ answers
      answers_are = p.answers x e

      -- its errors are not refused
      pub given_errors_accepted : errors_reply x.printed.now q (length x.correlates.now) ≡ Ok tt
      given_errors_accepted =
          subst (λ (y : Answers). errors_reply y.printed q (length y.correlates) ≡ Ok tt) (sym answers_are)
          (rw (tabulate_length (length w) (K (table_of q a w))) (table_admitted ds q a w (room (length ds) (length w)) (given_answered ∙ ap figure_reply e)))

      pub given_table_accepted : (sheet : Sheet)
          → answers_listing (answers_in x) ++ on_sheet sheet [] (errors_of x.printed.now q (length x.correlates.now)) ≡ table_listing sheet ds q a w
      unfolding table_listing answers_on answers_errors
      given_table_accepted sheet =
          ap (λ (y : Answers). answers_listing y ++ on_sheet sheet [] (errors_of y.printed q (length y.correlates))) answers_are
          ∙ ended_by sheet (answers_listing answers) (answers_errors q answers)

-- ---- the net
-- where two replies are one after the other, and a third after both
both_refused : (a b c : Reply) (why : Refusal) → a and_then b ≡ Err why → a and_then (b and_then c) ≡ Err why
both_refused (Ok _) (Ok _) c why e = never why (sym e)
both_refused (Ok _) (Err other) c why e = e
both_refused (Err other) b c why e = e

third : (a b c : Reply) → a and_then b ≡ Ok tt → a and_then (b and_then c) ≡ c
third (Ok _) (Ok _) c e = refl
third (Ok _) (Err why) c e = never why e
third (Err why) b c e = never why e

module _ (file : List ℕ) where
  abbrev net : Net
  net = net_of (lines_of file)

  pub file_refused : (why : Refusal) → table_reply file ≡ Err why → file_reply file ≡ Err why
  unfolding table_reply file_reply net_reply
  file_refused why e = both_refused (scan_reply file) (formed_reply net.directions net.q 1 net.conditions) _ why e

  -- its table
  module _ {t : NetTable} (is : Tabled net t) (e : table_reply file ≡ Ok tt) where
    -- what the table gives is what the net gives
    to_net : {A : Type 0} (of : List ℤ → List ℤ → List ℤ → List ℤ → A)
        → of t.directions.now t.q.now t.a.now t.w.now ≡ of net.directions net.q (rows_of net.directions net.q net.conditions) (misclosures_of net.directions net.q net.conditions)
    to_net of = rw (is.directions_are, is.q_are, is.rows_are, is.misclosures_are)

    pub file_reply_lem : adjust_reply t.directions.now t.q.now t.a.now t.w.now (room (length t.directions.now) (length t.w.now)) ≡ file_reply file
    unfolding table_reply file_reply net_reply
    file_reply_lem =
        to_net (λ x g r c. adjust_reply x g r c (room (length x) (length c)))
        ∙ ap (λ (n : ℕ). adjust_reply net.directions net.q (rows_of net.directions net.q net.conditions) (misclosures_of net.directions net.q net.conditions) (room (length net.directions) n))
        (misclosures_long net.directions net.q net.conditions)
        ∙ sym (third (scan_reply file) (formed_reply net.directions net.q 1 net.conditions) _ e)

    pub file_listing_lem : (sheet : Sheet) → table_listing sheet t.directions.now t.q.now t.a.now t.w.now ≡ file_listing sheet file
    unfolding net_listing net_answers table_in table_listing
    file_listing_lem sheet = to_net (table_listing sheet)

-- ---- the longest listing
pub answers_most : (x : Answers) → length x.printed ≤ 64 → length x.correlates ≤ 24 → length (answers_listing x) ≤ 6560
unfolding answers_listing
answers_most x m n =
    omega (
      arith,
      m,
      n,
      accepted_most (length x.printed) (length x.correlates) x.printed x.adjusted x.correlates x.remainders x.misses,
    )
