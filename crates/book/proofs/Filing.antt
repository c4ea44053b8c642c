-- The promises of the operations on a sighting book. Assumes nothing.
--   station_listed                           the listing of sightings that `station` has accepted
--   book_passed, by_station                  what an accepted book has passed; the reply to one whose lines are sightings
--   misfit, over                             a book of too many lines
--   book_joined                              joined_rightly of every accepted book
--   listing_small                            no book's listing has more than 1,136 bytes
--   too_short, refused_as, listed_as         `means` keeps its promise: with a buffer that is too short, of a book that its reader refuses, and of any other
--   refusal_leaves_buffer                    a refusal that keeps the promise leaves the lent buffer as it was
--   no_listing, listed_by                    `list` keeps its promise: with a buffer that is too short, and by the answer of `means`
--   one_answer, one_listing                  two answers that keep a promise are equal, and leave equal buffers: of `means` and of `list`
use mathlib.Core.Path.{◌≡◌, sym, ◌∙◌, ap, ap₂}
use mathlib.Core.Bool.{false}
use mathlib.Core.List.{List}
use Prim.Native.Nat.{ℕ, ◌<◌, ◌≤◌}
use native.Mathlib.Omega.{arith}
use borrow.Author.Tests.{le-ltb, ltb-false, le-leb, lt-leb}
use lib.Dec.{ltb}
use lib.IntN.{ℤ}
use lib.ListN.{length, take}
use Rattle.exact.proofs.Filling.{tabulate_length}
use Rattle.reply.specs.declared.Refusal.{Refusal}
use Rattle.reply.specs.declared.Refusal.TheVariants.{Count, Sightings}
use Rattle.reply.specs.Reply.{Reply}
use Rattle.reply.specs.Checks.{refuse_if, ◌and_then◌, leaves}
use Rattle.reply.specs.Verdicts.{verdict_of}
use Rattle.reply.proofs.Checking.{both_accepted, if_accepted}
use Rattle.text.specs.Lines.{lines_in}
use Rattle.text.specs.Written.{Wrote}
use Rattle.text.proofs.Putting.{one_wrote}
use Rattle.page.specs.Page.{Listed, ListedBy, Printed}
use Rattle.page.proofs.Printing.{listed_refused, relisted, listed_reply, listed_ok, refusal_leaves, one_listed, short, roomy, room_accepted, nothing_printed, listed_printed}
use Rattle.station.specs.Sightings.{Book, book, sightings, lengths_fit}
use Rattle.station.specs.Table.{counts, readings}
use Rattle.station.specs.Means.{directions, pair_counts}
use Rattle.station.specs.Pairs.{JoinedRightly}
use Rattle.station.specs.Replies.{reply_of, Answers}
use Rattle.station.proofs.Deciding.{fit, reply_lengths}
use Rattle.station.proofs.Joining.{joined_rightly}
use Rattle.book.specs.Lines.{field_no, book_of, lines_reply, book_reply}
use Rattle.book.specs.Listing.{means_lines, station_listing}
use Rattle.book.specs.File.{book_listing, means_reply, MeansOf, listing_in}
use Rattle.book.specs.declared.entries.Fields.{Fields}
use Rattle.book.specs.Inner.{Entered}
use Rattle.book.proofs.Composing.{means_most}
use Rattle.std.specs.Prelude.{Ok, Err}

-- ---- sightings in lent lists
pub station_listed : {b : Book} {d p D P : List ℤ} {reply : Reply} → Answers b d p reply D P → reply ≡ Ok tt → means_lines (sightings b) D P ≡ station_listing b
unfolding station_listing
station_listed {b} {d} {p} a e =
    ap₂ (means_lines (sightings b))
    (a.directions_are ∙ ap (λ (r : Reply). leaves r (directions (counts b) (readings b)) d) e)
    (a.pairs_are ∙ ap (λ (r : Reply). leaves r (pair_counts (counts b)) p) e)

module _ (file : List ℕ) where
  -- what an accepted book has passed
  pub book_passed : book_reply file ≡ Ok tt → (length file ≤ 65535) × (lines_reply file ≡ Ok tt) × (reply_of (book_of file) 16 16 ≡ Ok tt)
  unfolding book_reply
  book_passed e =
      let a = both_accepted (refuse_if (ltb 65535 (length file)) (Count 0)) (lines_reply file and_then reply_of (book_of file) 16 16) e in
      let b = both_accepted (lines_reply file) (reply_of (book_of file) 16 16) a.1 in
      (ltb-false 65535 (length file) (if_accepted (ltb 65535 (length file)) (Count 0) a.0), b.0, b.1)

  pub book_joined : book_reply file ≡ Ok tt → JoinedRightly (book_of file)
  book_joined e = joined_rightly (book_of file) 16 16 (book_passed e).2

  pub listing_small : length (book_listing file) ≤ 1136
  unfolding station_listing
  listing_small =
      let b = book_of file in
      means_most (sightings b) (directions (counts b) (readings b)) (pair_counts (counts b))

  -- a book that is not too long, and whose lines are sightings
  module _ (l : length file ≤ 65535) where
    by_lines : book_reply file ≡ lines_reply file and_then reply_of (book_of file) 16 16
    unfolding book_reply
    by_lines = rw (le-ltb 65535 (length file) l)

    pub by_station : lines_reply file ≡ Ok tt → book_reply file ≡ reply_of (book_of file) 16 16
    by_station e = by_lines ∙ rw e

  -- over 512 lines
  pub misfit : 512 < lines_in file → fit (book_of file) 16 16 ≡ false
  unfolding book_of lengths_fit
  misfit m =
      let n : sightings (book_of file) ≡ lines_in file = tabulate_length (lines_in file) (field_no 0 file) in
      rw (n, le-leb 1 (lines_in file) (omega (arith, m)), lt-leb (lines_in file) 512 m)

  pub over : 512 < lines_in file → reply_of (book_of file) 16 16 ≡ Err Sightings
  over m = reply_lengths (book_of file) 16 16 (misfit m)

  -- ---- `means`
  module _ (before : List ℕ) where
    kept : {listed : Listed} {after : List ℕ} → ListedBy (means_reply file (length before)) (book_listing file) before listed after → MeansOf file before listed after
    kept l = record {
      lists = l;
      verdict = ap verdict_of (listed_reply l);
      joined = λ e. book_joined (room_accepted Sightings 1136 (length before) (book_reply file) (listed_ok l e));
    }

    pub too_short : length before < 1136 → MeansOf file before (Err Sightings) before
    too_short l = kept (listed_refused Sightings (short Sightings 1136 (length before) (book_reply file) l))

    module _ (room : 1136 ≤ length before) where
      pub refused_as : (why : Refusal) → book_reply file ≡ Err why → MeansOf file before (Err why) before
      refused_as why e = kept (listed_refused why (roomy Sightings 1136 (length before) (book_reply file) room ∙ e))

      pub listed_as : {n : ℕ} {fields : Fields} → Entered file n fields → {listed : Listed} {after : List ℕ}
          → let b = book (take n fields.position) (take n fields.object) (take n fields.face) (take n fields.reading) in
          ListedBy (reply_of b 16 16) (station_listing b) before listed after → MeansOf file before listed after
      unfolding book_of
      listed_as {n} {fields} e l =
          let same : book (take n fields.position) (take n fields.object) (take n fields.face) (take n fields.reading) ≡ book_of file = rw (e.positions, e.objects, e.faces, e.readings) in
          let rule : reply_of (book_of file) 16 16 ≡ means_reply file (length before) =
          sym (roomy Sightings 1136 (length before) (book_reply file) room ∙ by_station e.short e.passed) in
          kept (relisted (ap (λ (b : Book). reply_of b 16 16) same ∙ rule) (ap station_listing same) l)

    pub refusal_leaves_buffer : (why : Refusal) (listed : Listed) (after : List ℕ) → MeansOf file before listed after → listed ≡ Err why → after ≡ before
    refusal_leaves_buffer why listed after a e = refusal_leaves why a.lists e

    -- ---- `list`, by what `means` has answered
    pub no_listing : length before < 1136 → Wrote before 0 (listing_in file (length before)) before 0
    unfolding listing_in
    no_listing l = nothing_printed 1136 (book_reply file) (book_listing file) before l

    pub listed_by : {listed : Listed} {after last : List ℕ} {n : ℕ} → 1136 ≤ length before → MeansOf file before listed after → Printed after listed last n
        → Wrote before 0 (listing_in file (length before)) last n × (n ≤ length before)
    unfolding listing_in
    listed_by l a p = listed_printed 1136 (book_reply file) (book_listing file) before Sightings (omega arith) (λ e. listing_small) l a.lists p

    -- ---- and there is only one
    pub one_answer : (r r' : Listed) (after after' : List ℕ) → MeansOf file before r after → MeansOf file before r' after' → (r ≡ r') × (after ≡ after')
    one_answer r r' after after' a b = one_listed r r' a.lists b.lists

    pub one_listing : (r r' : ℕ) (after after' : List ℕ) → Wrote before 0 (listing_in file (length before)) after r → Wrote before 0 (listing_in file (length before)) after' r' → (r ≡ r') × (after ≡ after')
    one_listing r r' after after' a b = one_wrote a b
