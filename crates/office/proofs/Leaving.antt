-- A verdict whose number is not 0 leaves all that was lent as it was: the library's own corollaries, as C is told them. One number alone is apart: 30, for a
-- net past 100,000 at the end of an archive, comes with the totals of the nets before it. Assumes nothing.
--   Refuses, reply_refuses                 the number is not 0; the reply is then a refusal
--   means_left, table_left                 the answer lists of station means and of a table
--   errors_left                            the two numbers of mean and probable error
--   coefficients_left, misclosure_left     the list, and the number, of one condition
--   told_left                              the buffer of any file that has been listed, and the number lent for its length
--   book_left, book_part_left, file_left   those of a sighting book, of a part of a spoiled one, and of a network file
--   rescue_left                            the six lists of a rescue, and the two numbers of sightings kept and dropped
--   begun_left, next_left, sum_left        the lists of a season's stream that is begun or fed, and the list for the sum of two reports
--   check_sheet_left                       the number lent for a line of another office's sheet
--   Past, past_or_none                     the number is 30; where only 30 can be refused, it is that or 0
--   report_left, ended_left                the totals of an archive, and the lists of a stream that is ended: by every refusal but 30
--   report_past, ended_past                and what 30 leaves there; state_number: a stream's state itself is never refused by 30
use mathlib.Core.Path.{◌≡◌, refl, sym, ◌∙◌, ap, subst}
use mathlib.Core.Bool.{Bool, true, false, cond, not}
use mathlib.Core.List.{List}
use Prim.Native.Nat.{ℕ, ◌+◌}
use native.Mathlib.Omega.{arith}
use lib.Dec.{eqb, ltb}
use lib.IntN.{ℤ}
use lib.ListN.{length}
use Rattle.exact.specs.First.{first}
use Rattle.reply.specs.declared.Refusal.{Refusal}
use Rattle.reply.specs.Reply.{Reply, Figure}
use Rattle.reply.specs.declared.Verdict.{Verdict}
use Rattle.reply.specs.declared.Refusal.TheVariants.{Count, OutOfRange, Nets}
use Rattle.reply.specs.Checks.{refuse_if, ◌and_then◌, leaves, figure_reply, figure_leaves}
use Rattle.reply.specs.Verdicts.{verdict_of}
use Rattle.station.specs.Sightings.{Book}
use Rattle.station.specs.Replies.{reply_of, Answers}
use Rattle.station.specs.Rescue.{Lent as Places, rescue_reply, rooms}
use Rattle.station.proofs.Answering.{refusal_leaves_lists as lists-kept}
use Rattle.condition.specs.declared.Kind.{Kind}
use Rattle.condition.specs.Rules.{Lent, coefficients_reply}
use Rattle.condition.proofs.Answering.{kept}
use Rattle.adjustment.specs.Promise.{Answers as Lists, adjust_reply, Adjusts}
use Rattle.adjustment.proofs.Promising.{refusal_leaves_lists as table_kept}
use Rattle.precision.specs.declared.Errors.{Errors}
use Rattle.precision.specs.Promise.{errors_reply, TellsErrors}
use Rattle.precision.proofs.Promising.{refusal_leaves_numbers as errors-kept}
use Rattle.listing.specs.declared.Sheet.{Sheet}
use Rattle.book.specs.declared.parts.Part.{Part}
use Rattle.totals.specs.Promise.{most_nets, sum_reply}
use Rattle.season.specs.Season.{shares_of, season_reply, season_report}
use Rattle.season.specs.Stream.{over, place_of, place_list, ended_totals, ended_place, lengths_amiss, total_amiss, line_amiss, place_reply, state_reply}
use Rattle.season.specs.Promise.{report_reply, begin_reply, past_reply, end_reply}
use Rattle.std.specs.Prelude.{Result, Ok, Err, Some, None, Option}
use Rattle.sheet.specs.declared.Opinion.{Opinion}
use Rattle.sheet.specs.declared.Opinion.TheVariants.{Yes, No}
use Rattle.sheet.specs.Check.{opinion_of}
use Rattle.sheet.specs.Promise.{opinion_leaves}
use Rattle.office.specs.Promises.{Means, SightingsRescued, Coefficients, Misclosed, Table, DirectionErrors, ToldBy, SightingBook, BookParted, File, SeasonReport, SeasonBegun, SeasonNext, SeasonEnded, ReportSum, SheetChecked}
use Rattle.office.specs.Terms.{coefficients_reply_under, coefficients_list_under, misclosure_under}

abbrev pub Refuses : Verdict → Type 0
Refuses v = v.number ≡ 0 → ⊥

record Refusing (r : Reply) : Type 0 where
  pub why : Refusal
  pub is : r ≡ Err why

reply_refuses : {v : Verdict} (r : Reply) → v ≡ verdict_of r → Refuses v → Refusing r
reply_refuses (Ok _) told refuses = absurd (refuses (ap (λ (v : Verdict). v.number) told))
reply_refuses (Err why) told refuses = record { why = why; is = refl }

pub means_left : (b : Book) (d p D P : List ℤ) (v : Verdict) → Means b d p v D P → Refuses v → (D ≡ d) × (P ≡ p)
means_left b d p D P v m refuses =
    let r = reply_refuses (reply_of b (length d) (length p)) m.verdict refuses in lists-kept b d p r.why D P (subst (λ (x : Reply). Answers b d p x D P) r.is m.lists)

pub rescue_left : (b : Book) (before after : Places) (k d m n : ℕ) (v : Verdict) → SightingsRescued b before k d v after m n → Refuses v → (after ≡ before) × ((m ≡ k) × (n ≡ d))
rescue_left b before after k d m n v s refuses =
    let r = reply_refuses (rescue_reply b (rooms b before)) s.verdict refuses in (rw r.is at s.lists_are, (rw r.is at s.kept_are, rw r.is at s.dropped_are))

pub table_left : (ds qs cs ws : List ℤ) (lent left : Lists) (v : Verdict) → Table ds qs cs ws lent v left → Refuses v → left ≡ lent
table_left ds qs cs ws lent left v t refuses =
    let r = reply_refuses (adjust_reply ds qs cs ws lent) t.verdict refuses in table_kept ds qs cs ws lent r.why left (subst (λ (x : Reply). Adjusts ds qs cs ws lent x left) r.is t.lists)

pub errors_left : (us qs : List ℤ) (n : ℕ) (lent left : Errors) (v : Verdict) → DirectionErrors us qs n lent v left → Refuses v → left ≡ lent
errors_left us qs n lent left v d refuses =
    let r = reply_refuses (errors_reply us qs n) d.verdict refuses in errors-kept us qs n r.why left (subst (λ (x : Reply). TellsErrors us qs n lent x left) r.is d.numbers)

pub coefficients_left : (h : Option Kind) (l : Kind → Lent) (before after : List ℤ) (v : Verdict) → Coefficients h l before v after → Refuses v → after ≡ before
coefficients_left h l before after v c refuses = c.list ∙ under h c.verdict
  where
    under : (h : Option Kind) → v ≡ verdict_of (coefficients_reply_under h l (length before)) → coefficients_list_under h l before ≡ before
    under (Some kind) told = let r = reply_refuses (coefficients_reply (l kind) (length before)) told refuses in kept (l kind) before r.why r.is
    under None told = refl

pub misclosure_left : (h : Option Kind) (l : Kind → Lent) (before after : ℤ) (v : Verdict) → Misclosed h l before v after → Refuses v → after ≡ before
misclosure_left h l before after v c refuses = c.number ∙ under (misclosure_under h l) c.verdict
  where
    under : (f : Figure) → v ≡ verdict_of (figure_reply f) → figure_leaves f before ≡ before
    under (Ok w) told = absurd (refuses (ap (λ (v : Verdict). v.number) told))
    under (Err why) told = refl

told_left : (rule : Reply) (listing before after : List ℕ) (n m : ℕ) (v : Verdict) → ToldBy rule listing before n v after m → Refuses v → (after ≡ before) × (m ≡ n)
told_left rule listing before after n m v t refuses =
    let r = reply_refuses rule t.verdict refuses in (rw r.is at t.buffer, rw r.is at t.number)

pub book_left : (file before after : List ℕ) (n m : ℕ) (v : Verdict) → SightingBook file before n v after m → Refuses v → (after ≡ before) × (m ≡ n)
book_left file before after n m v b refuses = told_left _ _ before after n m v b.told refuses

pub book_part_left : (part : Part) (file before after : List ℕ) (n m : ℕ) (v : Verdict) → BookParted part file before n v after m → Refuses v → (after ≡ before) × (m ≡ n)
book_part_left part file before after n m v b refuses = told_left _ _ before after n m v b.told refuses

pub file_left : (sheet : Sheet) (file before after : List ℕ) (n m : ℕ) (v : Verdict) → File sheet file before n v after m → Refuses v → (after ≡ before) × (m ≡ n)
file_left sheet file before after n m v f refuses = told_left _ _ before after n m v f.told refuses

-- ---- a season: where the reply refuses, each list is what it was
pub begun_left : (held totals place t p : List ℕ) (v : Verdict) → SeasonBegun held totals place v t p → Refuses v → (t ≡ totals) × (p ≡ place)
begun_left held totals place t p v b refuses =
    let r = reply_refuses (begin_reply held totals place) b.verdict refuses in (rw r.is at b.lists.totals_are, rw r.is at b.lists.place_is)

pub next_left : (bytes held totals place h t p : List ℕ) (v : Verdict) → SeasonNext bytes held totals place v h t p → Refuses v → (h ≡ held) × ((t ≡ totals) × (p ≡ place))
next_left bytes held totals place h t p v n refuses =
    let r = reply_refuses (state_reply held totals place) n.verdict refuses in
    (rw r.is at n.lists.held_is, (rw r.is at n.lists.totals_are, rw r.is at n.lists.place_is))

pub sum_left : (first second lent left : List ℕ) (v : Verdict) → ReportSum first second lent v left → Refuses v → left ≡ lent
sum_left first second lent left v s refuses =
    let r = reply_refuses (sum_reply first second (length lent)) s.verdict refuses in rw r.is at s.list.sum

pub check_sheet_left : (net listing : List ℕ) (before after : ℕ) (v : Verdict) → SheetChecked net listing before v after → Refuses v → after ≡ before
check_sheet_left net listing before after v c refuses = c.number ∙ under (opinion_of net listing) c.verdict
  where
    under : (o : Result Opinion Refusal) → v ≡ verdict_of (figure_reply o) → opinion_leaves o before ≡ before
    under (Ok Yes) told = absurd (refuses (ap (λ (v : Verdict). v.number) told))
    under (Ok (No line)) told = absurd (refuses (ap (λ (v : Verdict). v.number) told))
    under (Err why) told = refl

-- ---- 30, a net past 100,000, and no other number, comes with an answer
abbrev pub Past : Verdict → Type 0
Past v = v.number ≡ 30

-- a check for 30 gives 0 or 30
past_or_none : {v : Verdict} (past : Bool) → v ≡ verdict_of (refuse_if past (Nets (most_nets + 1))) → Refuses v → (Past v → ⊥) → ⊥
past_or_none true told refuses other = other (ap (λ (v : Verdict). v.number) told)
past_or_none false told refuses other = refuses (ap (λ (v : Verdict). v.number) told)

module _ (archive lent left : List ℕ) (v : Verdict) (s : SeasonReport archive lent v left) where
  pub report_left : Refuses v → (Past v → ⊥) → left ≡ lent
  unfolding report_reply season_reply
  report_left refuses other = s.list.totals ∙ by_room (eqb (length lent) 16) s.verdict
    where
      by_room : (right : Bool) → v ≡ verdict_of (refuse_if (not right) (Count 0) and_then season_reply (shares_of archive)) → cond right (season_report (shares_of archive)) lent ≡ lent
      by_room true told = absurd (past_or_none (ltb most_nets (length (shares_of archive))) told refuses other)
      by_room false told = refl

  pub report_past : Past v → left ≡ season_report (shares_of archive)
  unfolding report_reply
  report_past past = s.list.totals ∙ by_room (eqb (length lent) 16) s.verdict
    where
      by_room : (right : Bool) → v ≡ verdict_of (refuse_if (not right) (Count 0) and_then season_reply (shares_of archive)) → cond right (season_report (shares_of archive)) lent ≡ season_report (shares_of archive)
      by_room true told = refl
      by_room false told = absurd (omega (arith, past, ap (λ (v : Verdict). v.number) told))

-- the checks of a state refuse by 2 and 3 alone
state_number : (held totals place : List ℕ) → Past (verdict_of (state_reply held totals place)) → ⊥
unfolding state_reply place_reply
state_number held totals place =
    let p = place_of place in let at = first 16 (total_amiss totals) in
    by_checks (lengths_amiss (length held) (length totals) (length place)) (ltb at 16) (ltb over p.bytes) (line_amiss p.line p.bytes) (ltb 1 p.past) (at + 1)
  where
    by_checks : (a b c d e : Bool) (n : ℕ) → Past (verdict_of (refuse_if a (Count 0) and_then (refuse_if b (OutOfRange n) and_then (refuse_if c (OutOfRange 17) and_then (refuse_if d (OutOfRange 18) and_then refuse_if e (OutOfRange 19)))))) → ⊥
    by_checks true b c d e n past = omega (arith, past)
    by_checks false true c d e n past = omega (arith, past)
    by_checks false false true d e n past = omega (arith, past)
    by_checks false false false true e n past = omega (arith, past)
    by_checks false false false false true n past = omega (arith, past)
    by_checks false false false false false n past = omega (arith, past)

module _ (held totals place t p : List ℕ) (v : Verdict) (s : SeasonEnded held totals place v t p) where
  abbrev ended : Reply → Type 0
  ended state = v ≡ verdict_of (state and_then past_reply (ended_place totals (place_of place)))

  told_ended : ended (state_reply held totals place)
  unfolding end_reply
  told_ended = s.verdict

  pub ended_left : Refuses v → (Past v → ⊥) → (t ≡ totals) × (p ≡ place)
  unfolding past_reply
  ended_left refuses other =
      (s.lists.totals_are ∙ by_state (state_reply held totals place) told_ended _ totals, s.lists.place_is ∙ by_state (state_reply held totals place) told_ended _ place)
    where
      by_state : (state : Reply) → ended state → (answer before : List ℕ) → leaves state answer before ≡ before
      by_state (Ok _) told answer before = absurd (past_or_none (eqb (ended_place totals (place_of place)).past 1) told refuses other)
      by_state (Err why) told answer before = refl

  pub ended_past : Past v → (t ≡ ended_totals totals (place_of place)) × (p ≡ place_list (ended_place totals (place_of place)))
  ended_past past =
      let a = accepts_state (state_reply held totals place) told_ended (state_number held totals place) in
      (rw a at s.lists.totals_are, rw a at s.lists.place_is)
    where
      accepts_state : (state : Reply) → ended state → (Past (verdict_of state) → ⊥) → state ≡ Ok tt
      accepts_state (Ok _) told never = refl
      accepts_state (Err why) told never = absurd (never (sym (ap (λ (v : Verdict). v.number) told) ∙ past))
