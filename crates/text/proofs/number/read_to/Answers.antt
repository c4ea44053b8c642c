-- `text::number::read_to` meets its contract: a number with a minus. Assumes nothing.
use Rattle.std.proofs.Common.{arith, sym, ◌∙◌}
use Rattle.text.proofs.Spanning.{minus_reads}
use Rattle.text.proofs.number.read_to.Goals as goal

pub returns-then-starts_with : goal.returns-then-starts_with
returns-then-starts_with c =
    minus_reads _ _ _ _ c.requires.2 (sym c.starts_with.ensures.value ∙ c.if-starts_with.true) c.in_ok-value.ensures (omega arith)
