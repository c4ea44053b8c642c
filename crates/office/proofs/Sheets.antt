-- What the two numbers that C is told of another office's sheet say: 0 and 0 is a yes, and nothing else is. Assumes nothing.
--   zeros_are_yes          of the rules' opinions only yes is told so: a no has a line, and lines count from 1
--   zeros_demand3          a sheet that is told so meets demand 3, and none of its corrections is past one minute
use mathlib.Core.Path.{◌≡◌, refl, sym, ◌∙◌, ap}
use mathlib.Core.List.{List}
use Prim.Native.Nat.{ℕ, zero, suc}
use native.Mathlib.Omega.{arith}
use Rattle.reply.specs.Reply.{Reply}
use Rattle.reply.specs.declared.Verdict.{Verdict}
use Rattle.reply.specs.Verdicts.{verdict_of}
use Rattle.reply.proofs.Unique.{no_refusal_is_0}
use Rattle.doolittle.specs.Table.{at}
use Rattle.text.specs.Lines.{lines_of}
use Rattle.network.specs.Net.{net_of}
use Rattle.listing.specs.File.{table_in}
use Rattle.sheet.specs.declared.Opinion.TheVariants.{Yes}
use Rattle.sheet.specs.Check.{disagreement, opinion_at, check_reply, opinion_of}
use Rattle.sheet.specs.Promise.{opinion_leaves, SheetDemand3, SheetWithinMinute}
use Rattle.office.specs.Promises.{SheetChecked}
use Rattle.std.specs.Prelude.{Ok, Err}
use Rattle.reply.specs.Checks.{figure_reply, figure_of}

by_reply : (r : Reply) (line before : ℕ) → let o = figure_of r (opinion_at line) in (verdict_of (figure_reply o)).number ≡ 0 → opinion_leaves o before ≡ 0 → o ≡ Ok Yes
by_reply (Ok _) zero before accepted none = refl
by_reply (Ok _) (suc line) before accepted none = absurd (omega (arith, none))
by_reply (Err why) line before accepted none = absurd (no_refusal_is_0 why accepted)

pub zeros_are_yes : (net listing : List ℕ) (before : ℕ) → (verdict_of (figure_reply (opinion_of net listing))).number ≡ 0 → opinion_leaves (opinion_of net listing) before ≡ 0 → opinion_of net listing ≡ Ok Yes
unfolding opinion_of
zeros_are_yes net listing before accepted none =
    let given = net_of (lines_of net) in by_reply (check_reply net listing) (disagreement (table_in given) (at given.directions) listing) before accepted none

pub zeros_demand3 : (net listing : List ℕ) (before after : ℕ) (v : Verdict) → SheetChecked net listing before v after → v.number ≡ 0 → after ≡ 0 → SheetDemand3 net listing × SheetWithinMinute net listing
zeros_demand3 net listing before after v c accepted none =
    let yes = zeros_are_yes net listing before (sym (ap (λ (v : Verdict). v.number) c.verdict) ∙ accepted) (sym c.number ∙ none) in
    (c.sheet.demand3 yes, c.sheet.within_minute yes)
