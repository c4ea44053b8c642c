-- Versions that would be of no use keep none of the promises. Assumes nothing.
--   zero_corrections             corrections that are all zero meet demand 3 only where every |w| is at most 5
--   ShutsOut, shut_out           an operation that refuses everything, and one whose reply is always the same, where one input is accepted and one refused
--   station_shuts_out            of `station::means`: figure 9 is accepted, an empty list refused
--   coefficients_shut_out        of `condition::coefficients`: a side condition is accepted, one whose second term names direction 4 of 3 refused
--   misclosure_shuts_out         of `condition::misclosure`: the same two
--   table_shuts_out              of `adjustment::adjust`: figure 1 is accepted, figure 7 refused
--   errors_shut_out              of `precision::probable_error`: one correction is accepted, none refused
--   file_shuts_out               of `listing::adjust`, on either sheet: figure 3's file is accepted, one with a malformed line refused
--   book_shuts_out               of `book::means`: figure 9 as a book is accepted, one with an unknown line refused
use mathlib.Core.Path.{◌≡◌, refl, sym, ◌∙◌, ap}
use mathlib.Core.List.{List, [], ◌∷◌}
use Prim.Native.Nat.{ℕ, ◌≤◌, ◌<◌}
use native.Mathlib.Omega.{arith}
use lib.IntN.{ℤ, pos, nat_abs, ◌+ℤ◌, ◌*ℤ◌}
use lib.ListN.{length, replicate, length-replicate}
use Rattle.exact.specs.First.{first}
use Rattle.exact.specs.Sum.{sum}
use Rattle.exact.proofs.Sum.{sum_ext, sum_zero}
use Rattle.exact.proofs.Identity.{letters, polynomials, ring_by}
use Rattle.exact.proofs.Bound.{abs_mul}
use Rattle.reply.specs.declared.Refusal.{Refusal}
use Rattle.reply.specs.declared.Refusal.TheVariants.{Malformed, Count, OutOfRange, Remainder, Sightings}
use Rattle.reply.specs.Reply.{Reply, Figure}
use Rattle.reply.specs.Checks.{figure_of, figure_reply}
use Rattle.reply.proofs.Checking.{never, figure_replied}
use Rattle.station.specs.Sightings.{Book, book, lengths_fit}
use Rattle.station.specs.Replies.{Answers, reply_of}
use Rattle.station.proofs.StationFigures.{figure_9, pair_of_objects}
use Rattle.condition.specs.Rules.{Lent}
use Rattle.condition.specs.Promise.{Coefficients, Misclosed}
use Rattle.condition.proofs.Figures.{side, triangle, zeros, side_coefficients, side_misclosure, refused_reply}
use Rattle.doolittle.specs.Table.{Table}
use Rattle.adjustment.specs.Refusals.{counts_amiss}
use Rattle.adjustment.specs.Demand.{Demand3}
use Rattle.adjustment.specs.Promise.{Answers as Lists, lists, Adjusts}
use Rattle.adjustment.proofs.Figures.{Figure as Lent-table, figure1, figure7, figure_1, figure_7}
use Rattle.precision.specs.declared.Errors.{Errors}
use Rattle.precision.specs.Errors.{errors}
use Rattle.precision.specs.Promise.{errors_reply, TellsErrors}
use Rattle.page.specs.Page.{Listed, in_room}
use Rattle.page.proofs.Printing.{roomy, listed_reply}
use Rattle.listing.specs.declared.Sheet.{Sheet}
use Rattle.listing.specs.Listing.{room_of}
use Rattle.listing.specs.File.{adjust_file_reply, AdjustsFile, file_reply}
use Rattle.listing.proofs.Figure3.{file, figure_3}
use Rattle.network.proofs.Figures.{broken, figures}
use Rattle.book.specs.Lines.{book_reply}
use Rattle.book.specs.File.{MeansOf}
use Rattle.book.proofs.Figures.{book9, unknown, figure_9 as book-9, refusals}
use Rattle.std.specs.Prelude.{Ok, Err}

-- ---- all corrections zero
zero_term : (a v : ℤ) → v ≡ pos 0 → a *ℤ v ≡ pos 0
zero_term a v e = rw e (let ρ = a ∷ [] in let l = letters ρ in ring_by ρ (search polynomials) (search polynomials) refl)

closed_by : (s x r : ℤ) → s +ℤ x ≡ r → s ≡ pos 0 → x ≡ r
closed_by s x r e z = let ρ = x ∷ [] in let l = letters ρ in ring_by ρ (search polynomials) (search polynomials) refl ∙ ap (λ (y : ℤ). y +ℤ x) (sym z) ∙ e

pub zero_corrections : (t : Table) (v u r Q : ℕ → ℤ) → Demand3 t v u r Q → ((i : ℕ) → i < t.m → v i ≡ pos 0) → (j : ℕ) → j < t.n → nat_abs (t.w j) ≤ 5
zero_corrections t v u r Q d zero j l =
    let none : sum t.m (λ i. t.a j i *ℤ v i) ≡ pos 0 = sum_ext t.m (λ i. t.a j i *ℤ v i) (λ i. pos 0) (λ i h. zero_term (t.a j i) (v i) (zero i h)) ∙ sum_zero t.m in
    let left = closed_by (sum t.m (λ i. t.a j i *ℤ v i)) (pos 10000000 *ℤ t.w j) (r j) (d.met j l) none in
    omega (arith, abs_mul (pos 10000000) (t.w j), ap nat_abs left, d.close j l)

-- ---- refusing everything, and one constant reply
pub record ShutsOut {Input Left : Type 0} (Promise : Input → Reply → Left → Type 0) : Type 0 where
  pub refusing : (why : Input → Refusal) (left : Input → Left) → ((x : Input) → Promise x (Err (why x)) (left x)) → ⊥
  pub constant : (reply : Reply) (left : Input → Left) → ((x : Input) → Promise x reply (left x)) → ⊥

shut_out : {Input Left : Type 0} (Promise : Input → Reply → Left → Type 0) (good bad : Input) (why : Refusal)
    → ((reply : Reply) (left : Left) → Promise good reply left → reply ≡ Ok tt) → ((reply : Reply) (left : Left) → Promise bad reply left → reply ≡ Err why) → ShutsOut Promise
shut_out Promise good bad why accepts refuses = record {
  refusing = λ other left keeps. never (other good) (accepts (Err (other good)) (left good) (keeps good));
  constant = λ reply left keeps. never why (sym (refuses reply (left bad) (keeps bad)) ∙ accepts reply (left good) (keeps good));
}

-- ---- the station
abbrev sixteen : List ℤ
sixteen = replicate 16 (pos 0)

pub accepts_figure_9 : (reply : Reply) (d p : List ℤ) → Answers (pair_of_objects 648004000 144010000 792016000) sixteen sixteen reply d p → reply ≡ Ok tt
accepts_figure_9 reply d p a = a.replied ∙ figure_9.0

no_sightings : reply_of (book [] [] [] []) 16 16 ≡ Err Sightings
unfolding reply_of lengths_fit
no_sightings = refl

pub station_shuts_out : ShutsOut {Input = Book × List ℤ × List ℤ} {Left = List ℤ × List ℤ} (λ x reply left. Answers x.0 x.1 x.2 reply left.0 left.1)
station_shuts_out =
    shut_out _ (pair_of_objects 648004000 144010000 792016000, sixteen, sixteen) (book [] [] [] [], sixteen, sixteen) Sightings
    (λ reply left a. accepts_figure_9 reply left.0 left.1 a) (λ reply left a. a.replied ∙ no_sightings)

-- ---- one condition
pub accepts_side_condition : (reply : Reply) (a : List ℤ) → Coefficients side zeros reply a → reply ≡ Ok tt
accepts_side_condition reply a c = c.answer ∙ side_coefficients.0

pub coefficients_shut_out : ShutsOut {Input = Lent × List ℤ} {Left = List ℤ} (λ x reply left. Coefficients x.0 x.1 reply left)
coefficients_shut_out =
    shut_out _ (side, zeros) (triangle (pos 1) (pos 4), zeros) (OutOfRange 2) (λ reply left c. accepts_side_condition reply left c) (λ reply left c. c.answer ∙ refused_reply.0)

-- its misclosure, whose reply comes with the number
abbrev MisclosedAs : Lent → Reply → Figure → Type 0
MisclosedAs l reply figure = Misclosed l figure × (reply ≡ figure_reply figure)

pub misclosure_shuts_out : ShutsOut {Input = Lent} {Left = Figure} MisclosedAs
misclosure_shuts_out =
    shut_out MisclosedAs side (triangle (pos 1) (pos 4)) (OutOfRange 2)
    (λ reply figure c. c.1 ∙ ap figure_reply (c.0.answer ∙ side_misclosure))
    (λ reply figure c. c.1 ∙ ap figure_reply (c.0.answer ∙ refused_reply.1))

-- ---- the table
abbrev lent_for : Lent-table → Lists
lent_for f = let m = replicate f.m (pos 0) in let n = replicate (length f.misclosures) (pos 0) in lists m m m n n n

abbrev Adjusted : Lent-table → Reply → Lists → Type 0
Adjusted f reply left = Adjusts (replicate f.m (pos 0)) (replicate f.m (pos f.q)) f.coefficients f.misclosures (lent_for f) reply left

pub accepts_figure_1 : (reply : Reply) (left : Lists) → Adjusted figure1 reply left → reply ≡ Ok tt
accepts_figure_1 reply left a = a.answer ∙ figure_1.0

pub refuses_figure_7 : (reply : Reply) (left : Lists) → Adjusted figure7 reply left → reply ≡ Err (Remainder 1)
refuses_figure_7 reply left a = a.answer ∙ figure_7.0

pub table_shuts_out : ShutsOut {Input = Lent-table} {Left = Lists} Adjusted
table_shuts_out = shut_out Adjusted figure1 figure7 (Remainder 1) accepts_figure_1 refuses_figure_7

-- ---- mean and probable error
abbrev Told : (List ℤ × (List ℤ × ℕ)) × Errors → Reply → Errors → Type 0
Told x reply left = TellsErrors x.0.0 x.0.1.0 x.0.1.1 x.1 reply left

-- one correction of 3 in one condition, and no correction
abbrev one_correction : (List ℤ × (List ℤ × ℕ)) × Errors
one_correction = ((pos 3 ∷ [], (pos 1 ∷ [], 1)), errors (pos 0) (pos 0))

abbrev no_correction : (List ℤ × (List ℤ × ℕ)) × Errors
no_correction = (([], ([], 1)), errors (pos 0) (pos 0))

pub errors_shut_out : ShutsOut {Input = (List ℤ × (List ℤ × ℕ)) × Errors} {Left = Errors} Told
unfolding errors_reply counts_amiss first
errors_shut_out = shut_out Told one_correction no_correction (Count 0) (λ reply left a. a.answer) (λ reply left a. a.answer)

-- ---- the file
-- a buffer of n bytes
abbrev blank : ℕ → List ℕ
blank n = replicate n 0

abbrev buffer : Sheet → List ℕ
buffer sheet = blank (room_of sheet)

-- one of as many bytes as the longest listing has room for any
in_room_lem : (why : Refusal) (most : ℕ) (reply : Reply) → in_room why most (length (blank most)) reply ≡ reply
in_room_lem why most reply = roomy why most (length (blank most)) reply (omega (arith, length-replicate {A = ℕ} most 0))

roomy_file : (sheet : Sheet) (f : List ℕ) → adjust_file_reply sheet f (length (buffer sheet)) ≡ file_reply f
unfolding adjust_file_reply
roomy_file sheet f = in_room_lem (Count 0) (room_of sheet) (file_reply f)

pub accepts_figure_3 : (sheet : Sheet) (listed : Listed) (after : List ℕ) → AdjustsFile sheet file (buffer sheet) listed after → figure_reply listed ≡ Ok tt
accepts_figure_3 sheet listed after a = listed_reply a.lists ∙ roomy_file sheet file ∙ figure_3.0

malformed : file_reply broken ≡ Err (Malformed 1)
unfolding file_reply
malformed = rw figures.0

pub file_shuts_out : (sheet : Sheet) → ShutsOut {Input = List ℕ × List ℕ} {Left = ℕ × List ℕ} (λ x reply left. AdjustsFile sheet x.0 x.1 (figure_of reply left.0) left.1)
file_shuts_out sheet =
    shut_out _ (file, buffer sheet) (broken, buffer sheet) (Malformed 1)
    (λ reply left a. sym (figure_replied reply left.0) ∙ accepts_figure_3 sheet (figure_of reply left.0) left.1 a)
    (λ reply left a. sym (figure_replied reply left.0) ∙ listed_reply a.lists ∙ roomy_file sheet broken ∙ malformed)

-- ---- the sighting book
abbrev small_buffer : List ℕ
small_buffer = blank 1136

pub accepts_book_9 : (listed : Listed) (after : List ℕ) → MeansOf book9 small_buffer listed after → figure_reply listed ≡ Ok tt
accepts_book_9 listed after a = listed_reply a.lists ∙ in_room_lem Sightings 1136 (book_reply book9) ∙ book-9.0

pub book_shuts_out : ShutsOut {Input = List ℕ × List ℕ} {Left = ℕ × List ℕ} (λ x reply left. MeansOf x.0 x.1 (figure_of reply left.0) left.1)
book_shuts_out =
    shut_out _ (book9, small_buffer) (unknown, small_buffer) (Malformed 1)
    (λ reply left a. sym (figure_replied reply left.0) ∙ accepts_book_9 (figure_of reply left.0) left.1 a)
    (λ reply left a. sym (figure_replied reply left.0) ∙ listed_reply a.lists ∙ in_room_lem Sightings 1136 (book_reply unknown) ∙ refusals.0)
