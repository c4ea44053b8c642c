-- The promises of the two operations on one condition's lent terms: everything that each must answer and leave, for every input.
use Rattle.std.specs.Prelude.{◌≡◌, List, ℤ, length}
use Rattle.reply.specs.Reply.{Reply, Figure}
use Rattle.reply.specs.Checks.{figure_reply, figure_value}
use Rattle.reply.specs.Verdicts.{verdict_of}
use Rattle.condition.specs.Rules.{Lent, coefficients_reply, coefficients_list, misclosure_figure}

-- of the coefficients: the reply, and the lent list, which held `before` and holds `after`
pub record Coefficients (l : Lent) (before : List ℤ) (reply : Reply) (after : List ℤ) : Type 0 where
  pub answer : reply ≡ coefficients_reply l (length before)
  -- in the rules' numbers: number and place
  pub verdict : verdict_of reply ≡ verdict_of (coefficients_reply l (length before))
  pub list : after ≡ coefficients_list l before

-- of the misclosure: w, or the refusal
pub record Misclosed (l : Lent) (figure : Figure) : Type 0 where
  pub answer : figure ≡ misclosure_figure l
  -- in the rules' numbers: number and place, and w, which is 0 in a refusal
  pub verdict : verdict_of (figure_reply figure) ≡ verdict_of (figure_reply (misclosure_figure l))
  pub value : figure_value figure ≡ figure_value (misclosure_figure l)
