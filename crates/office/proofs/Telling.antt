-- What the library promises of a reply is what C is promised of the verdict on it. Assumes nothing.
--   means_told           of station means
--   table_told           of the adjustment of a table
--   errors_told, found_told      of the mean and the probable error of lent lists
--   listed_told          of any file that has been listed, and the length that was lent
--   book_told, part_told, file_told      of a sighting book, of a part of a spoiled one, and of a network file
--   rescue_told          of a spoiled list of sightings
--   report_told          of the report of a season; begun_told, next_told, ended_told of one that comes in parts
--   sum_told             of the sum of two reports
--   sheet_told           of another office's sheet
use mathlib.Core.Path.{◌≡◌, refl, sym, ◌∙◌, ap, subst}
use mathlib.Core.List.{List}
use Prim.Native.Nat.{ℕ}
use lib.IntN.{ℤ}
use lib.ListN.{length}
use Rattle.reply.specs.Reply.{Reply}
use Rattle.reply.specs.declared.Verdict.{Verdict}
use Rattle.reply.specs.Checks.{leaves, figure_reply, figure_leaves}
use Rattle.reply.specs.Verdicts.{verdict_of}
use Rattle.station.specs.declared.Rescued.{Rescued}
use Rattle.station.specs.Sightings.{Book, sightings}
use Rattle.station.specs.Replies.{Answers}
use Rattle.station.specs.Rescue.{Lent as Places, kept, ordinals, rooms, rescue_reply, Rescues}
use Rattle.adjustment.specs.Promise.{Answers as Lists, Adjusts}
use Rattle.page.specs.Page.{Listed, ListedBy}
use Rattle.precision.specs.declared.Errors.{Errors}
use Rattle.precision.specs.Promise.{FindsErrors, TellsErrors}
use Rattle.precision.proofs.Promising.{finds_tells}
use Rattle.listing.specs.declared.Sheet.{Sheet}
use Rattle.listing.specs.File.{AdjustsFile}
use Rattle.book.specs.File.{MeansOf}
use Rattle.book.specs.declared.parts.Part.{Part}
use Rattle.book.specs.Rescue.{RescuedOf}
use Rattle.totals.specs.Promise.{Adds}
use Rattle.season.specs.Promise.{Reports, Begins, Feeds, Ends}
use Rattle.reply.specs.declared.Refusal.{Refusal}
use Rattle.std.specs.Prelude.{Result, Ok, Err, IsOk, IsOkAnd, MatchResult}
use Rattle.sheet.specs.declared.Opinion.{Opinion}
use Rattle.sheet.specs.declared.Opinion.TheVariants.{Yes, No}
use Rattle.sheet.specs.Promise.{opinion_leaves, Checks}
use Rattle.reply.proofs.Checking.{figure_replied, figure_left, figure_ok}
use Rattle.office.specs.Statuses.{line_told}
use Rattle.office.specs.Promises.{Means, SightingsRescued, Table, DirectionErrors, ToldBy, SightingBook, BookParted, File, SeasonReport, SeasonBegun, SeasonNext, SeasonEnded, ReportSum, SheetChecked}

module _ (v : Verdict) (r : Reply) (told : v ≡ verdict_of r) where
  pub means_told : (b : Book) (d p D P : List ℤ) → Answers b d p r D P → Means b d p v D P
  means_told b d p D P a =
      record { verdict = told ∙ ap verdict_of a.replied; lists = subst (λ (r : Reply). Answers b d p r D P) a.replied a }

  pub table_told : (ds qs cs ws : List ℤ) (lent left : Lists) → Adjusts ds qs cs ws lent r left → Table ds qs cs ws lent v left
  table_told ds qs cs ws lent left a =
      record { verdict = told ∙ ap verdict_of a.answer; lists = subst (λ (r : Reply). Adjusts ds qs cs ws lent r left) a.answer a }

  pub errors_told : (us qs : List ℤ) (n : ℕ) (lent left : Errors) → TellsErrors us qs n lent r left → DirectionErrors us qs n lent v left
  errors_told us qs n lent left a =
      record { verdict = told ∙ ap verdict_of a.answer; numbers = subst (λ (r : Reply). TellsErrors us qs n lent r left) a.answer a }

  pub report_told : (archive lent left : List ℕ) → Reports archive lent r left → SeasonReport archive lent v left
  report_told archive lent left a =
      record { verdict = told ∙ ap verdict_of a.answer; list = subst (λ (r : Reply). Reports archive lent r left) a.answer a }

  pub begun_told : (held totals place t p : List ℕ) → Begins held totals place r t p → SeasonBegun held totals place v t p
  begun_told held totals place t p a =
      record { verdict = told ∙ ap verdict_of a.answer; lists = subst (λ (r : Reply). Begins held totals place r t p) a.answer a }

  pub next_told : (bytes held totals place h t p : List ℕ) → Feeds bytes held totals place r h t p → SeasonNext bytes held totals place v h t p
  next_told bytes held totals place h t p a =
      record { verdict = told ∙ ap verdict_of a.answer; lists = subst (λ (r : Reply). Feeds bytes held totals place r h t p) a.answer a }

  pub ended_told : (held totals place t p : List ℕ) → Ends held totals place r t p → SeasonEnded held totals place v t p
  ended_told held totals place t p a =
      record { verdict = told ∙ ap verdict_of a.answer; lists = subst (λ (r : Reply). Ends held totals place r t p) a.answer a }

  pub sum_told : (first second lent left : List ℕ) → Adds first second lent r left → ReportSum first second lent v left
  sum_told first second lent left a =
      record { verdict = told ∙ ap verdict_of a.answer; list = subst (λ (r : Reply). Adds first second lent r left) a.answer a }

-- both errors, in two lent numbers
pub found_told : {us qs : List ℤ} {n : ℕ} {found : Result Errors Refusal} {lent left : Errors} {v : Verdict} → v ≡ verdict_of (figure_reply found) → left ≡ figure_leaves found lent
    → FindsErrors us qs n found → DirectionErrors us qs n lent v left
found_told {us} {qs} {n} {found} {lent} {left} {v} told held a =
    errors_told v (figure_reply found) told us qs n lent left (subst (λ (left : Errors). TellsErrors us qs n lent (figure_reply found) left) (sym held) (finds_tells us qs n a))

-- where the rule accepts a file, the library gives its length
accepted : {listed : Listed} {before after : List ℕ} {rule : Reply} {listing : List ℕ} → ListedBy rule listing before listed after → rule ≡ Ok tt → IsOk listed
accepted {rule = rule} {listing} a e = subst (λ (l : Listed). IsOk l) (sym a.answer) (figure_ok rule (length listing) e)

module _ {v : Verdict} {listed : Listed} {before after : List ℕ} {n m : ℕ} (told : v ≡ verdict_of (figure_reply listed)) (left : m ≡ figure_leaves listed n) where
  listed_told : {rule : Reply} {listing : List ℕ} → ListedBy rule listing before listed after → ToldBy rule listing before n v after m
  listed_told {rule} {listing} a = record {
    verdict = told ∙ ap (λ (l : Listed). verdict_of (figure_reply l)) a.answer ∙ ap verdict_of (figure_replied rule (length listing));
    buffer = a.buffer;
    number = left ∙ ap (λ (l : Listed). figure_leaves l n) a.answer ∙ figure_left rule (length listing) n;
  }

  pub book_told : (file : List ℕ) → MeansOf file before listed after → SightingBook file before n v after m
  book_told file a = record { told = listed_told a.lists; joined = λ f. a.joined (accepted a.lists f) }

  pub part_told : (part : Part) (file : List ℕ) → RescuedOf part file before listed after → BookParted part file before n v after m
  part_told part file a = record { told = listed_told a.lists }

  pub file_told : (sheet : Sheet) (file : List ℕ) → AdjustsFile sheet file before listed after → File sheet file before n v after m
  file_told sheet file a = record {
    told = listed_told a.lists;
    demand3 = λ f. a.demand3 (accepted a.lists f);
    within_minute = λ f. a.within_minute (accepted a.lists f);
    mean_error = λ f. a.mean_error (accepted a.lists f);
  }

-- the counts of a list that has been rescued, 0 and 0 kept and dropped before
abbrev counts : ℕ → ℕ → Rescued
counts kept dropped = record { kept = kept; dropped = dropped }

pub rescue_told : {b : Book} {before after : Places} {rescued : Result Rescued Refusal} {v : Verdict} {k d m n : ℕ} → v ≡ verdict_of (figure_reply rescued)
    → counts m n ≡ figure_leaves rescued (counts k d) → Rescues b before rescued after → SightingsRescued b before k d v after m n
rescue_told {b} {before} {rescued = rescued} {k = k} {d = d} told numbers a =
    let rule = rescue_reply b (rooms b before) in
    let given = counts (sightings (kept b)) (length (ordinals b)) in
    let left = numbers ∙ ap (λ (r : Result Rescued Refusal). figure_leaves r (counts k d)) a.answer ∙ figure_left rule given (counts k d) in
    record {
      verdict = told ∙ a.verdict;
      lists_are = a.lists_are;
      kept_are = ap (λ (c : Rescued). c.kept) left ∙ count_left rule (λ (c : Rescued). c.kept) given (counts k d);
      dropped_are = ap (λ (c : Rescued). c.dropped) left ∙ count_left rule (λ (c : Rescued). c.dropped) given (counts k d);
    }
  where
    count_left : (r : Reply) (count : Rescued → ℕ) (given before : Rescued) → count (leaves r given before) ≡ leaves r (count given) (count before)
    count_left (Ok _) count given before = refl
    count_left (Err why) count given before = refl

-- the line that C is told, of an opinion or of a refusal
pub sheet_told : {net listing : List ℕ} {o : Result Opinion Refusal} (given : Result ℕ Refusal) {before after : ℕ} {v : Verdict}
    → MatchResult o (λ x. IsOkAnd given (λ line. line ≡ line_told x)) (λ why. given ≡ Err why) → v ≡ verdict_of (figure_reply given)
    → after ≡ figure_leaves given before → Checks net listing o → SheetChecked net listing before v after
sheet_told {net} {listing} {o} given {before} {after} {v} m told left a = record {
  verdict = told ∙ (by_opinion o given m).0 ∙ ap (λ (o : Result Opinion Refusal). verdict_of (figure_reply o)) a.answer;
  number = left ∙ (by_opinion o given m).1 ∙ ap (λ (o : Result Opinion Refusal). opinion_leaves o before) a.answer;
  sheet = subst (λ (o : Result Opinion Refusal). Checks net listing o) a.answer a;
}
  where
    by_opinion : (o : Result Opinion Refusal) (given : Result ℕ Refusal) → MatchResult o (λ x. IsOkAnd given (λ line. line ≡ line_told x)) (λ why. given ≡ Err why)
        → (verdict_of (figure_reply given) ≡ verdict_of (figure_reply o)) × (figure_leaves given before ≡ opinion_leaves o before)
    by_opinion (Ok Yes) (Ok line) m = (refl, m)
    by_opinion (Ok (No first)) (Ok line) m = (refl, m)
    by_opinion (Ok Yes) (Err why) m = absurd m
    by_opinion (Ok (No first)) (Err why) m = absurd m
    by_opinion (Err why) given m = rw m (refl, refl)
