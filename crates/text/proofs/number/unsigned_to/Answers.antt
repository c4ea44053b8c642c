-- `text::number::unsigned_to` meets its contract: one digit, or more of them and no 0 in front. Assumes nothing.
use Rattle.std.proofs.Common.{sym, ◌∙◌}
use Rattle.std.proofs.lemmas.Bool.{eqb-false}
use Rattle.text.proofs.Spanning.{span_one, span_many}
use Rattle.text.proofs.number.unsigned_to.Goals.{then-start-end, else-start-end}
use Rattle.text.proofs.number.unsigned_to.Goals as goal

pub returns : goal.returns
returns c =
    let s = c.digits_from-span in
    elim c.if-start-end.branch [
      | then-start-end w ↦
          span_many _ _ _ _ s.result s.ensures c.requires.2 c.if-end-text.false c.if-text-end.false c.if-end-start.false w.if-start-end.true
          (eqb-false _ 48 (sym w.value-is ∙ c.if-text-start-eq48.false))
      | else-start-end w ↦ span_one _ _ _ _ s.result s.ensures c.requires.2 c.if-end-text.false c.if-text-end.false c.if-end-start.false w.if-start-end.false
    ]
