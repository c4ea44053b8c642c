-- `AnswerLists::adjust` meets its contract. Assumes nothing.
use Rattle.std.proofs.Common.{◌≡◌, ◌∙◌, Err, length, take, rules, arith}
use Rattle.std.specs.Prelude.{Result}
use Rattle.std.proofs.Math.Seq.{length-take-le}
use Rattle.reply.specs.declared.Refusal.{Refusal}
use Rattle.adjustment.specs.declared.lists.Adjusted.{Adjusted}
use Rattle.adjustment.specs.Promise.{lists}
use Rattle.adjustment.proofs.Fitting.{Lent, written, refused_gives, accepted_gives}
use Rattle.adjustment.proofs.lists.AnswerLists.adjust.Goals as goal
use Rattle.adjustment.proofs.lists.AnswerLists.adjust.Goals.{After-adjust_own}

-- the first places of the lists are as many as they must be
lent : (c : After-adjust_own) → let m = length c.args.directions.now in let n = length c.args.w.now in let s = c.args.self.now in
    Lent m n (lists (take m s.corrections) (take m s.printed) (take m s.adjusted) (take n s.correlates) (take n s.remainders) (take n s.misses))
lent c =
    let few = c.requires.few in
    record {
      corrections = length-take-le _ _ (omega (arith, few.0));
      printed = length-take-le _ _ (omega (arith, few.0));
      adjusted = length-take-le _ _ (omega (arith, few.0));
      correlates = length-take-le _ _ (omega (arith, few.1));
      remainders = length-take-le _ _ (omega (arith, few.1));
      misses = length-take-le _ _ (omega (arith, few.1));
    }

pub returns-in_err-adjust_own : goal.returns-in_err-adjust_own
returns-in_err-adjust_own c =
    let e : ◌≡◌ {A = Result Adjusted Refusal} c.from_residual.result (Err c.in_err-adjust_own.field-0.0) = search rules in
    rw e (refused_gives _ _ _ _ (lent (goal.at.returns-in_err-adjust_own c).After-adjust_own) c.adjust_own.ensures.answer c.in_err-adjust_own.was)

pub returns : goal.returns
returns c =
    let l = lent (goal.at.returns c).After-adjust_own in let kept = c.adjust_own.auto in let new = c.adjust_own.new in
    accepted_gives _ _ _ _ l {left = lists new.v new.u new.adjusted new.k new.r new.misses} c.adjust_own.ensures c.in_ok-adjust_own.was (written _ _ _ (kept.v ∙ l.corrections)) (written _ _ _ (kept.u ∙ l.printed))
    (written _ _ _ (kept.adjusted ∙ l.adjusted)) (written _ _ _ (kept.k ∙ l.correlates)) (written _ _ _ (kept.r ∙ l.remainders)) (written _ _ _ (kept.misses ∙ l.misses))
