-- `lister::sheets::print` meets its contract: the bytes that were read decide.
use Rattle.std.proofs.Common.{◌≡◌, ◌∙◌, ap, cond, List, [], ℕ, ◌≤◌, arith, take}
use Rattle.std.specs.Prelude.{ltb, Result}
use Rattle.text.proofs.Putting.{rewrote}
use Rattle.reply.specs.declared.Refusal.{Refusal}
use Rattle.sheet.specs.declared.Opinion.{Opinion}
use Rattle.sheet.specs.Check.{opinion_of}
use Rattle.sheet.specs.Answer.{answer_line, answer_in}
use Rattle.sheet.proofs.Sheets.{first_bytes}
use Rattle.lister.proofs.sheets.print.Goals as goal

-- the answer to the first bytes is that to the whole listing
whole_answer : (net listing whole : List ℕ) (room size : ℕ) → 65536 ≤ size → listing ≡ take size whole → answer_in net listing room ≡ answer_in net whole room
unfolding answer_in
whole_answer net listing whole room size most read =
    ap (λ (o : (Result Opinion Refusal)). cond (ltb room 52) [] (answer_line o)) (ap (opinion_of net) read ∙ first_bytes net whole size (omega (arith, most)))

pub returns-clause-line : goal.returns-clause-line
returns-clause-line c whole size most read = rewrote (whole_answer _ _ whole _ size most read) c.print.ensures.line
