-- What the check promises for every net and every listing: its opinion, and of every sheet that gets yes demand 3 of the numbers on the sheet itself, whoever
-- made it, and that none of its corrections is past one minute.
use Rattle.std.specs.Prelude.{◌≡◌, List, ℕ, Result, Ok, Err}
use Rattle.reply.specs.Checks.{figure_reply}
use Rattle.reply.specs.Verdicts.{verdict_of}
use Rattle.adjustment.specs.Corrections.{V_of}
use Rattle.adjustment.specs.Demand.{Demand3}
use Rattle.adjustment.specs.Promise.{WithinMinute}
use Rattle.text.specs.Lines.{lines_of}
use Rattle.network.specs.Net.{net_of}
use Rattle.listing.specs.File.{table_in}
use Rattle.reply.specs.declared.Refusal.{Refusal}
use Rattle.sheet.specs.declared.Opinion.{Opinion}
use Rattle.sheet.specs.declared.Opinion.TheVariants.{Yes, No}
use Rattle.sheet.specs.Form.{own_u, own_k, own_r, own_q}
use Rattle.sheet.specs.Check.{opinion_of}

-- what stands in the place that a caller lends for a line: 0 for yes, the line for no, and after a refusal what stood there before
abbrev pub opinion_leaves : Result Opinion Refusal → ℕ → ℕ
opinion_leaves (Ok Yes) before = 0
opinion_leaves (Ok (No line)) before = line
opinion_leaves (Err why) before = before

-- "A yes carries demand 3 with it, whoever made the sheet": of the u, R and Q that it prints, and the V that its K give
abbrev pub SheetDemand3 : (net listing : List ℕ) → Type 0
SheetDemand3 net listing = let t = table_in (net_of (lines_of net)) in Demand3 t (V_of t (own_k listing)) (own_u listing) (own_r listing) (own_q listing)

abbrev pub SheetWithinMinute : (net listing : List ℕ) → Type 0
SheetWithinMinute net listing = WithinMinute (table_in (net_of (lines_of net))) (own_u listing)

pub record Checks (net listing : List ℕ) (opinion : Result Opinion Refusal) : Type 0 where
  pub answer : opinion ≡ opinion_of net listing
  -- in the rules' numbers: number and place of a refusal, else 0 and 0
  pub verdict : verdict_of (figure_reply opinion) ≡ verdict_of (figure_reply (opinion_of net listing))
  pub demand3 : opinion ≡ Ok Yes → SheetDemand3 net listing
  pub within_minute : opinion ≡ Ok Yes → SheetWithinMinute net listing
