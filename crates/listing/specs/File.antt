-- What becomes of a file: the reply to it, and the listing of an accepted one, byte for byte.
use Rattle.std.specs.Prelude.{◌≡◌, List, ℕ, ℤ, length, IsOk}
use Rattle.reply.specs.declared.Refusal.TheVariants.{Count}
use Rattle.reply.specs.Reply.{Reply}
use Rattle.reply.specs.Checks.{◌and_then◌, figure_reply}
use Rattle.reply.specs.Verdicts.{verdict_of}
use Rattle.doolittle.specs.Table.{Table, at, table_of}
use Rattle.doolittle.specs.Solution.{K}
use Rattle.adjustment.specs.Corrections.{V_of, R_of, u_of, Q_of}
use Rattle.adjustment.specs.Demand.{weighted, Demand3}
use Rattle.adjustment.specs.Promise.{Answers, lists, adjust_reply, answers_of, WithinMinute}
use Rattle.precision.specs.declared.Errors.{Errors}
use Rattle.precision.specs.Errors.{errors_of}
use Rattle.precision.specs.Promise.{MeanError}
use Rattle.text.specs.Lines.{lines_of}
use Rattle.page.specs.Page.{Listed, ListedBy, in_room, printed, printed_in}
use Rattle.listing.specs.declared.Sheet.{Sheet}
use Rattle.listing.specs.Listing.{accepted_listing, on_sheet, room_of}
use Rattle.network.specs.Scan.{scan_reply}
use Rattle.network.specs.Net.{Net, net_of, zeros, formed_reply, rows_of, misclosures_of}

-- ---- the reply: what follows the table that a net gives
unfoldable pub table_in : Net → Table
table_in net = table_of net.q (rows_of net.directions net.q net.conditions) (misclosures_of net.directions net.q net.conditions)

-- the answer lists as the file's operation lends them to `adjustment`
unfoldable pub room : ℕ → ℕ → Answers
room m n = lists (zeros m) (zeros m) (zeros m) (zeros n) (zeros n) (zeros n)

unfoldable pub net_reply : Net → Reply
net_reply net =
    formed_reply net.directions net.q 1 net.conditions
    and_then adjust_reply net.directions net.q
    (rows_of net.directions net.q net.conditions)
    (misclosures_of net.directions net.q net.conditions)
    (room (length net.directions) (length net.conditions))

unfoldable pub net_answers : Net → Answers
net_answers net = answers_of (table_in net) (K (table_in net)) (at net.directions)

unfoldable pub file_reply : List ℕ → Reply
file_reply file = scan_reply file and_then net_reply (net_of (lines_of file))

-- ---- the listing of an accepted adjustment, from its answers: the ADJ, V and K lines
unfoldable pub answers_listing : Answers → List ℕ
answers_listing a = accepted_listing (length a.printed) (length a.correlates) a.printed a.adjusted a.correlates a.remainders a.misses

-- its errors, for an E line
unfoldable pub answers_errors : (q : List ℤ) → Answers → Errors
answers_errors q a = errors_of a.printed q (length a.correlates)

-- all lines that the sheet has
unfoldable pub answers_on : Sheet → (q : List ℤ) → Answers → List ℕ
answers_on sheet q a = on_sheet sheet (answers_listing a) (answers_errors q a)

-- of an accepted condition table
unfoldable pub table_listing : Sheet → (directions q a w : List ℤ) → List ℕ
table_listing sheet ds q a w = answers_on sheet q (answers_of (table_of q a w) (K (table_of q a w)) (at ds))

-- of an accepted net
unfoldable pub net_listing : Sheet → Net → List ℕ
net_listing sheet net = answers_on sheet net.q (net_answers net)

-- of an accepted file
abbrev pub file_listing : Sheet → List ℕ → List ℕ
file_listing sheet file = net_listing sheet (net_of (lines_of file))

-- demand 3 of a file, of the table that its lines give: its V lines have u, and its K lines R and Q
abbrev pub FileDemand3 : List ℕ → Type 0
FileDemand3 file = let t = table_in (net_of (lines_of file)) in Demand3 t (V_of t (K t)) (u_of t (K t)) (R_of t (K t)) (Q_of t (K t))

-- and none of the u on its V lines is past one minute
abbrev pub FileWithinMinute : List ℕ → Type 0
FileWithinMinute file = let t = table_in (net_of (lines_of file)) in WithinMinute t (u_of t (K t))

-- the e of its E line is the mean error by demand 3's weighted sum of those u
abbrev pub FileMeanError : List ℕ → Type 0
FileMeanError file =
    let net = net_of (lines_of file) in let t = table_in net in MeanError t.n (weighted t (u_of t (K t))) (answers_errors net.q (net_answers net)).mean

-- ---- the operation on a file; a buffer that could not hold the longest listing of the sheet is refused before all else
unfoldable pub adjust_file_reply : Sheet → (file : List ℕ) (room : ℕ) → Reply
adjust_file_reply sheet file room = in_room (Count 0) (room_of sheet) room (file_reply file)

pub record AdjustsFile (sheet : Sheet) (file before : List ℕ) (listed : Listed) (after : List ℕ) : Type 0 where
  pub lists : ListedBy (adjust_file_reply sheet file (length before)) (file_listing sheet file) before listed after
  -- in the rules' numbers: number and place
  pub verdict : verdict_of (figure_reply listed) ≡ verdict_of (adjust_file_reply sheet file (length before))
  -- and of every accepted file demand 3, printed corrections within one minute, and the mean error
  pub demand3 : IsOk listed → FileDemand3 file
  pub within_minute : IsOk listed → FileWithinMinute file
  pub mean_error : IsOk listed → FileMeanError file

-- ---- for programs: the listing of any file, an accepted one's or the line of its refusal
unfoldable pub listing_of : Sheet → List ℕ → List ℕ
listing_of sheet file = printed (file_reply file) (file_listing sheet file)

-- what goes into a lent buffer of so many bytes: nothing, where it could not hold the longest listing of the sheet
unfoldable pub listing_in : Sheet → (file : List ℕ) (room : ℕ) → List ℕ
listing_in sheet file room = printed_in (room_of sheet) room (file_reply file) (file_listing sheet file)
