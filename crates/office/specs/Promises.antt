-- The library's promises as C is told them: the verdict is that on the rules' reply, and with that reply what was lent keeps the library's own promise.
-- Where one number is lent for an answer, a refusal leaves it as it was, like any lent list.
use Rattle.std.specs.Prelude.{◌≡◌, List, ℕ, ℤ, length, Ok, Option}
use Rattle.std.proofs.lemmas.List.Edits.{sets}
use Rattle.reply.specs.Reply.{Reply}
use Rattle.reply.specs.declared.Verdict.{Verdict}
use Rattle.reply.specs.Checks.{leaves, figure_reply, figure_leaves}
use Rattle.reply.specs.Verdicts.{verdict_of}
use Rattle.station.specs.Sightings.{Book, sightings}
use Rattle.station.specs.Replies.{reply_of, Answers}
use Rattle.station.specs.Pairs.{JoinedRightly}
use Rattle.station.specs.Rescue.{Lent as Places, kept, ordinals, rescue_reply, rooms, filled}
use Rattle.condition.specs.declared.Kind.{Kind}
use Rattle.condition.specs.Rules.{Lent}
use Rattle.adjustment.specs.Promise.{Answers as Lists, adjust_reply, Adjusts}
use Rattle.precision.specs.declared.Errors.{Errors}
use Rattle.precision.specs.Promise.{errors_reply, TellsErrors}
use Rattle.listing.specs.declared.Sheet.{Sheet}
use Rattle.listing.specs.File.{file_listing, FileDemand3, FileWithinMinute, FileMeanError, adjust_file_reply}
use Rattle.book.specs.Lines.{book_of}
use Rattle.book.specs.File.{book_listing, means_reply}
use Rattle.book.specs.declared.parts.Part.{Part}
use Rattle.book.specs.Rescue.{part_of, part_reply}
use Rattle.totals.specs.Promise.{sum_reply, Adds}
use Rattle.season.specs.Stream.{state_reply}
use Rattle.season.specs.Promise.{report_reply, Reports, begin_reply, Begins, Feeds, end_reply, Ends}
use Rattle.sheet.specs.Check.{opinion_of}
use Rattle.sheet.specs.Promise.{opinion_leaves, Checks}
use Rattle.office.specs.Terms.{coefficients_reply_under, coefficients_list_under, misclosure_under}

pub record Means (b : Book) (d p : List ℤ) (v : Verdict) (directionsNow pairsNow : List ℤ) : Type 0 where
  pub verdict : v ≡ verdict_of (reply_of b (length d) (length p))
  pub lists : Answers b d p (reply_of b (length d) (length p)) directionsNow pairsNow

-- a spoiled list: the six lent lists, and how many sightings are kept and dropped
pub record SightingsRescued (b : Book) (before : Places) (keptBefore droppedBefore : ℕ) (v : Verdict) (after : Places) (keptAfter droppedAfter : ℕ) : Type 0 where
  pub verdict : v ≡ verdict_of (rescue_reply b (rooms b before))
  pub lists_are : after ≡ leaves (rescue_reply b (rooms b before)) (filled b before) before
  pub kept_are : keptAfter ≡ leaves (rescue_reply b (rooms b before)) (sightings (kept b)) keptBefore
  pub dropped_are : droppedAfter ≡ leaves (rescue_reply b (rooms b before)) (length (ordinals b)) droppedBefore

pub record Coefficients (h : Option Kind) (l : Kind → Lent) (before : List ℤ) (v : Verdict) (after : List ℤ) : Type 0 where
  pub verdict : v ≡ verdict_of (coefficients_reply_under h l (length before))
  pub list : after ≡ coefficients_list_under h l before

pub record Misclosed (h : Option Kind) (l : Kind → Lent) (before : ℤ) (v : Verdict) (after : ℤ) : Type 0 where
  pub verdict : v ≡ verdict_of (figure_reply (misclosure_under h l))
  pub number : after ≡ figure_leaves (misclosure_under h l) before

pub record Table (ds qs cs ws : List ℤ) (lent : Lists) (v : Verdict) (left : Lists) : Type 0 where
  pub verdict : v ≡ verdict_of (adjust_reply ds qs cs ws lent)
  pub lists : Adjusts ds qs cs ws lent (adjust_reply ds qs cs ws lent) left

pub record DirectionErrors (us qs : List ℤ) (n : ℕ) (lent : Errors) (v : Verdict) (left : Errors) : Type 0 where
  pub verdict : v ≡ verdict_of (errors_reply us qs n)
  pub numbers : TellsErrors us qs n lent (errors_reply us qs n) left

-- ---- of a whole file, by the rules' reply to it and its listing: that stands at the start of the lent buffer, and its length in the lent number
pub record ToldBy (rule : Reply) (listing before : List ℕ) (lengthBefore : ℕ) (v : Verdict) (after : List ℕ) (lengthAfter : ℕ) : Type 0 where
  pub verdict : v ≡ verdict_of rule
  pub buffer : after ≡ leaves rule (sets before 0 listing) before
  pub number : lengthAfter ≡ leaves rule (length listing) lengthBefore

pub record SightingBook (file before : List ℕ) (lengthBefore : ℕ) (v : Verdict) (after : List ℕ) (lengthAfter : ℕ) : Type 0 where
  pub told : ToldBy (means_reply file (length before)) (book_listing file) before lengthBefore v after lengthAfter
  pub joined : means_reply file (length before) ≡ Ok tt → JoinedRightly (book_of file)

-- one part of a spoiled book: the kept lines, or a line for each sighting that is dropped
pub record BookParted (part : Part) (file before : List ℕ) (lengthBefore : ℕ) (v : Verdict) (after : List ℕ) (lengthAfter : ℕ) : Type 0 where
  pub told : ToldBy (part_reply part file (length before)) (part_of part file) before lengthBefore v after lengthAfter

pub record File (sheet : Sheet) (file before : List ℕ) (lengthBefore : ℕ) (v : Verdict) (after : List ℕ) (lengthAfter : ℕ) : Type 0 where
  pub told : ToldBy (adjust_file_reply sheet file (length before)) (file_listing sheet file) before lengthBefore v after lengthAfter
  pub demand3 : adjust_file_reply sheet file (length before) ≡ Ok tt → FileDemand3 file
  pub within_minute : adjust_file_reply sheet file (length before) ≡ Ok tt → FileWithinMinute file
  pub mean_error : adjust_file_reply sheet file (length before) ≡ Ok tt → FileMeanError file

-- ---- of a season's archive: whole, and in parts. 30 alone, of these promises, comes with an answer: the totals of the nets before
pub record SeasonReport (archive lent : List ℕ) (v : Verdict) (left : List ℕ) : Type 0 where
  pub verdict : v ≡ verdict_of (report_reply archive (length lent))
  pub list : Reports archive lent (report_reply archive (length lent)) left

pub record SeasonBegun (held totals place : List ℕ) (v : Verdict) (totalsNow placeNow : List ℕ) : Type 0 where
  pub verdict : v ≡ verdict_of (begin_reply held totals place)
  pub lists : Begins held totals place (begin_reply held totals place) totalsNow placeNow

pub record SeasonNext (bytes held totals place : List ℕ) (v : Verdict) (heldNow totalsNow placeNow : List ℕ) : Type 0 where
  pub verdict : v ≡ verdict_of (state_reply held totals place)
  pub lists : Feeds bytes held totals place (state_reply held totals place) heldNow totalsNow placeNow

pub record SeasonEnded (held totals place : List ℕ) (v : Verdict) (totalsNow placeNow : List ℕ) : Type 0 where
  pub verdict : v ≡ verdict_of (end_reply held totals place)
  pub lists : Ends held totals place (end_reply held totals place) totalsNow placeNow

-- ---- of two reports: here 30 leaves the list as it was, like any other refusal
pub record ReportSum (first second lent : List ℕ) (v : Verdict) (left : List ℕ) : Type 0 where
  pub verdict : v ≡ verdict_of (sum_reply first second (length lent))
  pub list : Adds first second lent (sum_reply first second (length lent)) left

-- ---- of another office's sheet: with the rules' opinion the library's own promise, demand 3 of a yes with it
pub record SheetChecked (net listing : List ℕ) (before : ℕ) (v : Verdict) (after : ℕ) : Type 0 where
  pub verdict : v ≡ verdict_of (figure_reply (opinion_of net listing))
  pub number : after ≡ opinion_leaves (opinion_of net listing) before
  pub sheet : Checks net listing (opinion_of net listing)
