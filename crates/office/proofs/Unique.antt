-- The promises leave nothing open: two answers, with what was lent afterwards, that keep one promise are equal. Assumes nothing.
--   one_means, one_coefficients, one_misclosure, one_table, one_errors, one_book, one_file, one_length, one_status      of the function of that name
--                                                (one_file: of both functions on a network file, by their sheets)
--   one_rescue_sightings, one_book_part          of the rescue of a spoiled list, and of both functions on a spoiled book, by its parts
--   one_told                                     of any file that has been listed
--   one_season_report, one_season_begin, one_season_next, one_season_end, one_add_reports      of the functions on a season's archive
--   one_check_sheet                              of the check of another office's sheet
--   (of `molsadriu_refused_line` and `molsadriu_list_file`: page's one_refused_line and listing's one_listing)
use mathlib.Core.Path.{◌≡◌}
use mathlib.Core.List.{List}
use Prim.Native.Nat.{ℕ}
use lib.IntN.{ℤ}
use lib.ListN.{length}
use Rattle.exact.proofs.Unique.{only}
use Rattle.reply.specs.Reply.{Reply}
use Rattle.reply.specs.declared.Verdict.{Verdict}
use Rattle.station.specs.Sightings.{Book}
use Rattle.station.specs.Rescue.{Lent as Places}
use Rattle.station.proofs.Uniqueness.{same_answers}
use Rattle.condition.specs.declared.Kind.{Kind}
use Rattle.condition.specs.Rules.{Lent}
use Rattle.adjustment.specs.Promise.{Answers as Lists}
use Rattle.adjustment.proofs.Promising.{only_reply}
use Rattle.precision.specs.declared.Errors.{Errors}
use Rattle.precision.proofs.Promising.{only_answer}
use Rattle.text.specs.Lines.{line_at, status_at}
use Rattle.listing.specs.declared.Sheet.{Sheet}
use Rattle.book.specs.declared.parts.Part.{Part}
use Rattle.totals.proofs.Promising.{one_sum}
use Rattle.season.proofs.Unique.{one_report, one_begin, one_next, one_end}
use Rattle.office.specs.Promises.{Means, SightingsRescued, Coefficients, Misclosed, Table, DirectionErrors, ToldBy, SightingBook, BookParted, File, SeasonReport, SeasonBegun, SeasonNext, SeasonEnded, ReportSum, SheetChecked}
use Rattle.office.specs.Statuses.{status_number}
use Rattle.std.specs.Prelude.{Option}

pub one_means : (b : Book) (d p : List ℤ) (v v' : Verdict) (D D' P P' : List ℤ) → Means b d p v D P → Means b d p v' D' P' → (v ≡ v') × ((D ≡ D') × (P ≡ P'))
one_means b d p v v' D D' P P' x y = (only x.verdict y.verdict, (same_answers b d p _ _ D D' P P' x.lists y.lists).1)

pub one_rescue_sightings : (b : Book) (before after after' : Places) (k d : ℕ) (v v' : Verdict) (m m' n n' : ℕ) → SightingsRescued b before k d v after m n → SightingsRescued b before k d v' after' m' n' → (v ≡ v') × ((after ≡ after') × ((m ≡ m') × (n ≡ n')))
one_rescue_sightings b before after after' k d v v' m m' n n' x y =
    (only x.verdict y.verdict, (only x.lists_are y.lists_are, (only x.kept_are y.kept_are, only x.dropped_are y.dropped_are)))

pub one_table : (ds qs cs ws : List ℤ) (lent left left' : Lists) (v v' : Verdict) → Table ds qs cs ws lent v left → Table ds qs cs ws lent v' left' → (v ≡ v') × (left ≡ left')
one_table ds qs cs ws lent left left' v v' x y = (only x.verdict y.verdict, (only_reply ds qs cs ws lent _ _ left left' x.lists y.lists).1)

pub one_errors : (us qs : List ℤ) (n : ℕ) (lent left left' : Errors) (v v' : Verdict) → DirectionErrors us qs n lent v left → DirectionErrors us qs n lent v' left' → (v ≡ v') × (left ≡ left')
one_errors us qs n lent left left' v v' x y = (only x.verdict y.verdict, (only_answer us qs n _ _ left left' x.numbers y.numbers).1)

pub one_coefficients : (h : Option Kind) (l : Kind → Lent) (before : List ℤ) (v v' : Verdict) (a a' : List ℤ) → Coefficients h l before v a → Coefficients h l before v' a' → (v ≡ v') × (a ≡ a')
one_coefficients h l before v v' a a' x y = (only x.verdict y.verdict, only x.list y.list)

pub one_misclosure : (h : Option Kind) (l : Kind → Lent) (before : ℤ) (v v' : Verdict) (w w' : ℤ) → Misclosed h l before v w → Misclosed h l before v' w' → (v ≡ v') × (w ≡ w')
one_misclosure h l before v v' w w' x y = (only x.verdict y.verdict, only x.number y.number)

pub one_length : (file : List ℕ) (start n n' : ℕ) → n ≡ length (line_at file start) → n' ≡ length (line_at file start) → n ≡ n'
one_length file start n n' x y = only x y

pub one_status : (file : List ℕ) (start s s' : ℕ) → s ≡ status_number (status_at file start) → s' ≡ status_number (status_at file start) → s ≡ s'
one_status file start s s' x y = only x y

one_told : (rule : Reply) (listing before : List ℕ) (n : ℕ) (v v' : Verdict) (after after' : List ℕ) (m m' : ℕ) → ToldBy rule listing before n v after m → ToldBy rule listing before n v' after' m' → (v ≡ v') × ((after ≡ after') × (m ≡ m'))
one_told rule listing before n v v' after after' m m' x y = (only x.verdict y.verdict, (only x.buffer y.buffer, only x.number y.number))

pub one_book : (file before : List ℕ) (n : ℕ) (v v' : Verdict) (after after' : List ℕ) (m m' : ℕ) → SightingBook file before n v after m → SightingBook file before n v' after' m' → (v ≡ v') × ((after ≡ after') × (m ≡ m'))
one_book file before n v v' after after' m m' x y = one_told _ _ before n v v' after after' m m' x.told y.told

pub one_book_part : (part : Part) (file before : List ℕ) (n : ℕ) (v v' : Verdict) (after after' : List ℕ) (m m' : ℕ) → BookParted part file before n v after m → BookParted part file before n v' after' m' → (v ≡ v') × ((after ≡ after') × (m ≡ m'))
one_book_part part file before n v v' after after' m m' x y = one_told _ _ before n v v' after after' m m' x.told y.told

pub one_file : (sheet : Sheet) (file before : List ℕ) (n : ℕ) (v v' : Verdict) (after after' : List ℕ) (m m' : ℕ) → File sheet file before n v after m → File sheet file before n v' after' m' → (v ≡ v') × ((after ≡ after') × (m ≡ m'))
one_file sheet file before n v v' after after' m m' x y = one_told _ _ before n v v' after after' m m' x.told y.told

pub one_season_report : (archive lent : List ℕ) (v v' : Verdict) (left left' : List ℕ) → SeasonReport archive lent v left → SeasonReport archive lent v' left' → (v ≡ v') × (left ≡ left')
one_season_report archive lent v v' left left' x y = (only x.verdict y.verdict, (one_report archive lent _ _ left left' x.list y.list).1)

module _ (held totals place : List ℕ) (v v' : Verdict) where
  pub one_season_begin : (t t' p p' : List ℕ) → SeasonBegun held totals place v t p → SeasonBegun held totals place v' t' p' → (v ≡ v') × ((t ≡ t') × (p ≡ p'))
  one_season_begin t t' p p' x y = (only x.verdict y.verdict, (one_begin held totals place _ _ t t' p p' x.lists y.lists).1)

  pub one_season_next : (bytes h h' t t' p p' : List ℕ) → SeasonNext bytes held totals place v h t p → SeasonNext bytes held totals place v' h' t' p' → (v ≡ v') × ((h ≡ h') × ((t ≡ t') × (p ≡ p')))
  one_season_next bytes h h' t t' p p' x y = (only x.verdict y.verdict, (one_next held totals place _ _ bytes h h' t t' p p' x.lists y.lists).1)

  pub one_season_end : (t t' p p' : List ℕ) → SeasonEnded held totals place v t p → SeasonEnded held totals place v' t' p' → (v ≡ v') × ((t ≡ t') × (p ≡ p'))
  one_season_end t t' p p' x y = (only x.verdict y.verdict, (one_end held totals place _ _ t t' p p' x.lists y.lists).1)

pub one_add_reports : (first second lent : List ℕ) (v v' : Verdict) (left left' : List ℕ) → ReportSum first second lent v left → ReportSum first second lent v' left' → (v ≡ v') × (left ≡ left')
one_add_reports first second lent v v' left left' x y = (only x.verdict y.verdict, (one_sum first second lent _ _ left left' x.list y.list).1)

pub one_check_sheet : (net listing : List ℕ) (before : ℕ) (v v' : Verdict) (after after' : ℕ) → SheetChecked net listing before v after → SheetChecked net listing before v' after' → (v ≡ v') × (after ≡ after')
one_check_sheet net listing before v v' after after' x y = (only x.verdict y.verdict, only x.number y.number)
