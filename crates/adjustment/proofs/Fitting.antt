-- Answer lists that are as long as they must be. Assumes nothing.
--   Lent              the lengths of lent answer lists, m by direction and n by condition
--   written           what has been written into the first places of a list stands there
--   fitting_reply     the reply to a table reads their lengths alone
--   refused_gives, accepted_gives      `AnswerLists::adjust` keeps its promise by `adjust_own`: where it refuses, and where it accepts
--   one_given         two answers that keep that promise are equal: the replies, and the answers of an accepted table
use Rattle.std.proofs.Common.{◌≡◌, sym, ◌∙◌, ap, ℕ, ℤ, List, ◌++◌, length, take, Ok, Err}
use Rattle.std.proofs.Math.Seq.{take-append_seam}
use Rattle.std.specs.Prelude.{Result}
use Rattle.exact.proofs.Filling.{tabulate_length}
use Rattle.exact.proofs.Unique.{only}
use Rattle.reply.specs.declared.Refusal.{Refusal}
use Rattle.reply.specs.Reply.{Reply}
use Rattle.reply.specs.Checks.{figure_reply}
use Rattle.adjustment.specs.declared.lists.Adjusted.{Adjusted}
use Rattle.adjustment.specs.Promise.{Answers, lists, adjust_reply}
use Rattle.adjustment.specs.Inner.{AdjustsOwn, fitting, answers_in, GivesAnswers}

pub record Lent (m n : ℕ) (lent : Answers) : Type 0 where
  pub corrections : length lent.corrections ≡ m
  pub printed : length lent.printed ≡ m
  pub adjusted : length lent.adjusted ≡ m
  pub correlates : length lent.correlates ≡ n
  pub remainders : length lent.remainders ≡ n
  pub misses : length lent.misses ≡ n

pub written : (m : ℕ) (xs rest : List ℤ) → length xs ≡ m → take m (xs ++ rest) ≡ xs
written m xs rest e = rw (← e) (take-append_seam xs rest)

module _ (ds q a w : List ℤ) {lent : Answers} (l : Lent (length ds) (length w) lent) where
  pub fitting_reply : adjust_reply ds q a w (fitting (length ds) (length w)) ≡ adjust_reply ds q a w lent
  unfolding adjust_reply fitting
  fitting_reply =
      rw (l.corrections, l.printed, l.adjusted, l.correlates, l.remainders, l.misses, tabulate_length (length ds), tabulate_length (length w))

  module _ {reply : Reply} (p : reply ≡ adjust_reply ds q a w lent) where
    pub refused_gives : {why : Refusal} → reply ≡ Err why → GivesAnswers ds q a w (Err why)
    refused_gives e = record { reply = sym e ∙ p ∙ sym fitting_reply; answers = λ x k. cc }

  module _ {reply : Reply} {left : Answers} (p : AdjustsOwn ds q a w lent reply left) where
    pub accepted_gives : reply ≡ Ok tt → {x : Adjusted} → x.corrections.now ≡ left.corrections → x.printed.now ≡ left.printed → x.adjusted.now ≡ left.adjusted
        → x.correlates.now ≡ left.correlates → x.remainders.now ≡ left.remainders → x.misses.now ≡ left.misses → GivesAnswers ds q a w (Ok x)
    accepted_gives e {x} v u adjusted k r misses =
        let left_is : answers_in x ≡ left = λ i. lists (v i) (u i) (adjusted i) (k i) (r i) (misses i) in
        record { reply = sym e ∙ p.answer ∙ sym fitting_reply; answers = λ y f. let same : x ≡ y = cc in ap answers_in (sym same) ∙ left_is ∙ p.lists e }

pub one_given : (ds q a w : List ℤ) {g h : Result Adjusted Refusal} → GivesAnswers ds q a w g → GivesAnswers ds q a w h
    → (figure_reply g ≡ figure_reply h) × ((x y : Adjusted) → g ≡ Ok x → h ≡ Ok y → answers_in x ≡ answers_in y)
one_given ds q a w f g = (only f.reply g.reply, λ x y e d. only (f.answers x e) (g.answers y d))
