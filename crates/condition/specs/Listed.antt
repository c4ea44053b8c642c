-- The terms of one condition, where their field lists are lent as one; and what the checks answer of all that is lent.
use Rattle.std.specs.Prelude.{◌≡◌, ℕ, length, Result, Ok, Err}
use Rattle.reply.specs.declared.Refusal.{Refusal}
use Rattle.condition.specs.declared.term.Term.{Term}
use Rattle.condition.specs.declared.terms.Terms.{Terms}
use Rattle.condition.specs.Rules.{Lent, term, term_at, checks}

abbrev pub count : Terms → ℕ
count t = length t.kinds.now

abbrev pub listed : Terms → ℕ → Term
listed t = term_at t.kinds.now t.values.now t.d.now t.i.now t.k.now

-- every check accepts what is lent, and these are its terms
pub record Passed (l : Lent) (t : Terms) : Type 0 where
  pub checked : checks l ≡ Ok tt
  pub count : count t ≡ length l.kinds
  pub listed : listed t ≡ term l

-- the terms, or the refusal
abbrev pub Checked : Lent → Result Terms Refusal → Type 0
Checked l (Ok t) = Passed l t
Checked l (Err why) = checks l ≡ Err why
