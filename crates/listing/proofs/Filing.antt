-- The promises of the operations on a whole file: page's laws, of the reply to a file and of its listing. Assumes nothing.
--   solved                                  the table of an accepted file is accepted
--   file_demand3, file_within_minute, file_mean_error      of every accepted file: demand 3, no printed correction is past one minute, and its mean error
--   file_most, listing_most                 no file's listing has more than 6,560 bytes, 6,606 with an E line
--   too_short, table_refused, table_listed  `adjust` keeps its promise: with a buffer that is too short, of a file without a table, of another
--   refusal_leaves_buffer                   a refusal that keeps the promise leaves the lent buffer as it was
--   no_listing, listed_by                   `list` keeps its promise: with a buffer that is too short, and by `adjust` and `print`
--   one_answer, one_listing                 two answers that keep a promise are equal, and leave equal buffers: of `adjust` and of `list`
use mathlib.Core.Path.{◌≡◌, sym, ◌∙◌, ap, subst}
use mathlib.Core.List.{List}
use Prim.Native.Nat.{ℕ, ◌≤◌, ◌<◌}
use native.Mathlib.Omega.{arith}
use lib.ListN.{length}
use lib.IntN.{ℤ}
use Rattle.exact.proofs.Filling.{tabulate_length}
use Rattle.reply.specs.declared.Refusal.{Refusal}
use Rattle.reply.specs.declared.Refusal.TheVariants.{Count}
use Rattle.reply.specs.Verdicts.{verdict_of}
use Rattle.reply.proofs.Checking.{both_accepted}
use Rattle.doolittle.specs.Table.{at, table_of}
use Rattle.doolittle.specs.Solution.{K}
use Rattle.adjustment.specs.Corrections.{u_of}
use Rattle.adjustment.specs.Demand.{weighted}
use Rattle.adjustment.specs.Promise.{Answers, adjust_reply}
use Rattle.adjustment.proofs.Promising.{accepted_demand3, accepted_within_minute}
use Rattle.precision.specs.declared.Errors.{Errors}
use Rattle.precision.specs.Promise.{MeanError}
use Rattle.precision.proofs.Adjusting.{table_mean_error}
use Rattle.text.specs.Lines.{lines_of}
use Rattle.text.specs.Written.{Wrote}
use Rattle.text.proofs.Putting.{one_wrote}
use Rattle.page.specs.Page.{Listed, ListedBy, Printed}
use Rattle.page.proofs.Printing.{listed_refused, listed_reply, listed_ok, relisted, refusal_leaves, one_listed, short, roomy, room_accepted, printed_most, nothing_printed, listed_printed}
use Rattle.network.specs.Scan.{scan_reply}
use Rattle.network.specs.Net.{Net, net_of, net_from, formed_reply, rows_of, misclosures_of, table_reply, Tabled}
use Rattle.network.specs.declared.lists.NetTable.{NetTable}
use Rattle.network.proofs.Bounding.{scan_bounds}
use Rattle.network.proofs.Passing.{file_passed}
use Rattle.network.proofs.Tables.{misclosures_long}
use Rattle.listing.specs.declared.Sheet.{Sheet}
use Rattle.listing.specs.Listing.{room_of}
use Rattle.listing.specs.File.{table_in, room, net_reply, net_answers, file_reply, answers_listing, answers_errors, answers_on, table_listing, net_listing, file_listing, FileDemand3, FileWithinMinute, FileMeanError, adjust_file_reply, AdjustsFile, listing_of, listing_in}
use Rattle.listing.proofs.Composing.{plain_fits, sheet_most}
use Rattle.listing.proofs.Tabling.{answers_errors_lem, file_refused, file_reply_lem, file_listing_lem, answers_most}
use Rattle.std.specs.Prelude.{Ok, Err, IsOk}

-- any REFUSED line has room too
line_fits : (sheet : Sheet) → 52 ≤ room_of sheet
line_fits sheet = omega (arith, plain_fits sheet)

module _ (file : List ℕ) where
  abbrev net : Net
  net = net_of (lines_of file)

  -- ---- of every accepted file: its table is accepted
  abbrev rows : List ℤ
  rows = rows_of net.directions net.q net.conditions

  abbrev closings : List ℤ
  closings = misclosures_of net.directions net.q net.conditions

  abbrev lent : Answers
  lent = room (length net.directions) (length net.conditions)

  module _ (e : file_reply file ≡ Ok tt) where
    pub solved : adjust_reply net.directions net.q rows closings lent ≡ Ok tt
    unfolding file_reply net_reply
    solved =
        (both_accepted (formed_reply net.directions net.q 1 net.conditions) (adjust_reply net.directions net.q rows closings lent)
        (both_accepted (scan_reply file) (net_reply net) e).1).1

    pub file_demand3 : FileDemand3 file
    unfolding table_in
    file_demand3 = accepted_demand3 net.directions net.q rows closings lent solved

    pub file_within_minute : FileWithinMinute file
    unfolding table_in
    file_within_minute = accepted_within_minute net.directions net.q rows closings lent solved

    pub file_mean_error : FileMeanError file
    unfolding table_in net_answers
    file_mean_error =
        let t = table_of net.q rows closings in
        subst (λ (x : Errors). MeanError t.n (weighted t (u_of t (K t))) x.mean) (sym (answers_errors_lem net.q t (K t) (at net.directions)))
        (table_mean_error net.directions net.q rows closings lent solved)

  -- ---- the longest listing
  answers_short : file_reply file ≡ Ok tt → length (answers_listing (net_answers net)) ≤ 6560
  unfolding file_reply net_answers net_from table_in
  answers_short e =
      let scanned = (both_accepted (scan_reply file) (net_reply net) e).0 in let r = scan_bounds file scanned in let p = file_passed file scanned in
      let n = misclosures_long net.directions net.q net.conditions in
      answers_most (net_answers net)
      (omega (arith, r.m, p.directions.even, tabulate_length (length net.q) (u_of (table_in net) (K (table_in net)))))
      (omega (arith, r.n, n, tabulate_length (length (misclosures_of net.directions net.q net.conditions)) (K (table_in net))))

  module _ (sheet : Sheet) where
    pub file_most : file_reply file ≡ Ok tt → length (file_listing sheet file) ≤ room_of sheet
    unfolding net_listing answers_on
    file_most e = sheet_most sheet (answers_listing (net_answers net)) (answers_errors net.q (net_answers net)) (answers_short e)

    pub listing_most : length (listing_of sheet file) ≤ room_of sheet
    unfolding listing_of
    listing_most = printed_most (room_of sheet) (file_reply file) (file_listing sheet file) (line_fits sheet) file_most

  -- ---- `adjust`
  module _ (sheet : Sheet) (before : List ℕ) where
    kept : {listed : Listed} {after : List ℕ} → ListedBy (adjust_file_reply sheet file (length before)) (file_listing sheet file) before listed after → AdjustsFile sheet file before listed after
    unfolding adjust_file_reply
    kept {listed} l =
        let accepted : IsOk listed → file_reply file ≡ Ok tt = λ e. room_accepted (Count 0) (room_of sheet) (length before) (file_reply file) (listed_ok l e) in
        record { lists = l; verdict = ap verdict_of (listed_reply l); demand3 = λ e. file_demand3 (accepted e); within_minute = λ e. file_within_minute (accepted e); mean_error = λ e. file_mean_error (accepted e) }

    pub too_short : length before < room_of sheet → AdjustsFile sheet file before (Err (Count 0)) before
    unfolding adjust_file_reply
    too_short l = kept (listed_refused (Count 0) (short (Count 0) (room_of sheet) (length before) (file_reply file) l))

    module _ (l : room_of sheet ≤ length before) where
      has_room : adjust_file_reply sheet file (length before) ≡ file_reply file
      unfolding adjust_file_reply
      has_room = roomy (Count 0) (room_of sheet) (length before) (file_reply file) l

      pub table_refused : (why : Refusal) → table_reply file ≡ Err why → AdjustsFile sheet file before (Err why) before
      table_refused why e = kept (listed_refused why (has_room ∙ file_refused file why e))

      pub table_listed : {t : NetTable} (is : Tabled net t) → table_reply file ≡ Ok tt → {listed : Listed} {after : List ℕ}
          → ListedBy (adjust_reply t.directions.now t.q.now t.a.now t.w.now (room (length t.directions.now) (length t.w.now)))
          (table_listing sheet t.directions.now t.q.now t.a.now t.w.now) before listed after
          → AdjustsFile sheet file before listed after
      table_listed is e b = kept (relisted (file_reply_lem file is e ∙ sym has_room) (file_listing_lem file is e sheet) b)

    pub refusal_leaves_buffer : (why : Refusal) (listed : Listed) (after : List ℕ) → AdjustsFile sheet file before listed after → listed ≡ Err why → after ≡ before
    refusal_leaves_buffer why listed after a e = refusal_leaves why a.lists e

    -- ---- `list`
    pub no_listing : length before < room_of sheet → Wrote before 0 (listing_in sheet file (length before)) before 0
    unfolding listing_in
    no_listing l = nothing_printed (room_of sheet) (file_reply file) (file_listing sheet file) before l

    pub listed_by : {listed : Listed} {after last : List ℕ} {n : ℕ} → room_of sheet ≤ length before → AdjustsFile sheet file before listed after → Printed after listed last n
        → Wrote before 0 (listing_in sheet file (length before)) last n × (n ≤ length before)
    unfolding adjust_file_reply listing_in
    listed_by l a p = listed_printed (room_of sheet) (file_reply file) (file_listing sheet file) before (Count 0) (line_fits sheet) (file_most sheet) l a.lists p

    -- ---- and there is only one
    pub one_answer : (r r' : Listed) (after after' : List ℕ) → AdjustsFile sheet file before r after → AdjustsFile sheet file before r' after' → (r ≡ r') × (after ≡ after')
    one_answer r r' after after' a b = one_listed r r' a.lists b.lists

    pub one_listing : (r r' : ℕ) (after after' : List ℕ) → Wrote before 0 (listing_in sheet file (length before)) after r → Wrote before 0 (listing_in sheet file (length before)) after' r' → (r ≡ r') × (after ≡ after')
    one_listing r r' after after' a b = one_wrote a b
