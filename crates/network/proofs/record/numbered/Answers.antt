-- `network::record::numbered` meets its contract. Assumes nothing.
use mathlib.Core.Path.{sym, ◌∙◌}
use lib.ListN.{take}
use Rattle.text.proofs.Rowing.{row_told, no_row_told}
use Rattle.network.proofs.Recording.{numbered_none, numbered_some}
use Rattle.network.proofs.record.numbered.Goals as goal

pub returns-in_err-next : goal.returns-in_err-next
returns-in_err-next c =
    rw c.from_residual-in_err-next.ensures
    (numbered_none c.args.file.now c.args.at c.args.letter (sym c.numbers_of.ensures ∙ c.in_ok-count.was)
    (no_row_told 11 c.args.file.now c.args.at c.in_ok-count.count (sym c.read.ensures.end ∙ c.in_err-next.was)))

pub returns : goal.returns
returns c =
    let told = row_told 11 c.args.file.now c.args.at c.in_ok-count.count c.in_ok-next.next (take c.in_ok-count.count c.read.new.x)
    (sym c.read.ensures.end ∙ c.in_ok-next.was) c.read.ensures.values in
    rw c.record_with-said.ensures
    (numbered_some c.args.file.now c.args.at c.args.letter (sym c.numbers_of.ensures ∙ c.in_ok-count.was) c.read.new.x told.0 told.1)
