-- The check of the terms in their order, by the loop that makes it. Assumes nothing.
--   terms_none, terms_more, terms_stop      no term; one term more that is accepted; the first that is refused
use Rattle.std.proofs.Common.{◌≡◌, ℕ, ◌+◌, ◌<◌, ℤ, Ok, Err}
use Rattle.reply.specs.declared.Refusal.{Refusal}
use Rattle.reply.proofs.Checking.{turn_none, turn_more, turn_stops}
use Rattle.condition.specs.declared.Kind.{Kind}
use Rattle.condition.specs.declared.term.Term.{Term}
use Rattle.condition.specs.Rules.{term_check, terms_check}

module _ (kind : Kind) (m : ℤ) (term : ℕ → Term) where
  pub terms_none : terms_check kind m 0 term ≡ Ok tt
  unfolding terms_check
  terms_none = turn_none _

  pub terms_more : (j : ℕ) → terms_check kind m j term ≡ Ok tt → term_check kind m (j + 1) (term j) ≡ Ok tt → terms_check kind m (j + 1) term ≡ Ok tt
  unfolding terms_check
  terms_more j e f = turn_more _ j e f

  pub terms_stop : (n j : ℕ) (why : Refusal) → j < n → terms_check kind m j term ≡ Ok tt → term_check kind m (j + 1) (term j) ≡ Err why
      → terms_check kind m n term ≡ Err why
  unfolding terms_check
  terms_stop n j why l e f = turn_stops _ n j why l e f
