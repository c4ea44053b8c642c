-- `network::terms::gather` meets its contract: what has been gathered and the terms of what is left are those at `start`. Assumes nothing.
use mathlib.Core.Path.{◌≡◌, sym, ◌∙◌}
use Prim.Native.Nat.{ℕ, ◌<◌}
use native.Mathlib.Omega.{arith}
use borrow.Author.Rules.{rules}
use lib.IntN.{ℤ}
use Rattle.std.specs.Prelude.{None, Some}
use Rattle.exact.proofs.Bound.{read_at}
use Rattle.network.specs.declared.record.Record.TheVariants.{Term}
use Rattle.network.proofs.Walking.{Walked, walked_as, terms_stop}
use Rattle.network.proofs.Reading.{gather_room, gather_more, gathered}
use Rattle.network.proofs.terms.gather.Goals as goal
use Rattle.network.proofs.terms.gather.Goals.{In-Some-Term}

pub returns-in_default : goal.returns-in_default
returns-in_default c =
    let no : (x : ℕ) (v y z w : ℤ) → c.in_default.field-0.said ≡ Term x v y z w → ⊥ = search rules in
    record {
      terms = gathered c.loop-letter.invariant
          (terms_stop c.args.file.now c.loop-letter.at
          (λ x v y z w next e. no x v y z w (let same : Some c.in_default.field-0 ≡ Some (record { said = Term x v y z w; next = next }) = sym c.in_default.is ∙ c.read-turn.ensures ∙ e in cc))
          c.loop-letter.invariant.body);
      after = c.read-turn.ensures;
    }

pub returns-in_default-2-clause-terms : goal.returns-in_default-2-clause-terms
returns-in_default-2-clause-terms c =
    gathered c.loop-letter.invariant
    (terms_stop c.args.file.now c.loop-letter.at
    (λ x v y z w next e. let same : None ≡ Some (record { said = Term x v y z w; next = next }) = sym c.in_default.is ∙ c.read-turn.ensures ∙ e in cc)
    c.loop-letter.invariant.body)

-- ---- a term: `search` reads it off its pattern
module _ (c : In-Some-Term) where
  said : c.in-Some-Term.field-0.said ≡ Term c.in-Some-Term.letter c.in-Some-Term.value c.in-Some-Term.d c.in-Some-Term.i c.in-Some-Term.k
  said = search rules

  line : Walked c.args.file.now c.loop-letter.at (Term c.in-Some-Term.letter c.in-Some-Term.value c.in-Some-Term.d c.in-Some-Term.i c.in-Some-Term.k) c.in-Some-Term.next
  line = walked_as c.read-turn.ensures c.in-Some-Term.is said (search rules)

  room : c.loop-letter.count < 12
  room = gather_room c.loop-letter.invariant line c.requires.1

pub bounds-terms-count : goal.bounds-terms-count
bounds-terms-count c = room (goal.at.bounds-terms-count c).In-Some-Term

pub bounds-terms-count-in-loop-letter : goal.bounds-terms-count-in-loop-letter
bounds-terms-count-in-loop-letter c = room (goal.at.bounds-terms-count-in-loop-letter c).In-Some-Term

pub bounds-terms-count-in-loop-letter-2 : goal.bounds-terms-count-in-loop-letter-2
bounds-terms-count-in-loop-letter-2 c = room (goal.at.bounds-terms-count-in-loop-letter-2 c).In-Some-Term

pub bounds-terms-count-in-loop-letter-3 : goal.bounds-terms-count-in-loop-letter-3
bounds-terms-count-in-loop-letter-3 c = room (goal.at.bounds-terms-count-in-loop-letter-3 c).In-Some-Term

pub bounds-terms-count-in-loop-letter-4 : goal.bounds-terms-count-in-loop-letter-4
bounds-terms-count-in-loop-letter-4 c = room (goal.at.bounds-terms-count-in-loop-letter-4 c).In-Some-Term

pub loop-letter-smaller : goal.loop-letter-smaller
loop-letter-smaller c = let w = line (goal.at.loop-letter-smaller c).In-Some-Term in omega (arith, w.on, w.within, c.in-Some-Term.next-is)

pub loop-letter-preserved : goal.loop-letter-preserved
loop-letter-preserved c =
    let here = (goal.at.loop-letter-preserved c).In-Some-Term in
    rw c.in-Some-Term.next-is
    (gather_more c.loop-letter.invariant (line here) _ _ _ _ _ (
      read_at c.from.result (search rules) ∙ c.from.ensures,
      read_at c.in-Some-Term.value (search rules),
      read_at c.in-Some-Term.d (search rules),
      read_at c.in-Some-Term.i (search rules),
      read_at c.in-Some-Term.k (search rules),
    )
    (room here))
