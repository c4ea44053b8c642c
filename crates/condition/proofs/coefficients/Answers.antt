-- `condition::coefficients` meets its promise: the checks, then the tally and its range; nothing is stored before the last test. Assumes nothing.
use Rattle.std.proofs.Common.{◌≡◌, refl, sym, ◌∙◌, rules, [], length, ◌+◌}
use Rattle.exact.specs.Tabulate.{tabulate}
use Rattle.exact.proofs.Bound.{read}
use Rattle.exact.proofs.Filling.{tabulate_length}
use Rattle.condition.specs.Rules.{Lent, lent, coefficient}
use Rattle.condition.specs.Listed.{Passed}
use Rattle.condition.proofs.Accepting.{accepted}
use Rattle.condition.proofs.Shares.{tally_none, sound_among, passed_sound, passed_coefficients, passed_test}
use Rattle.condition.proofs.Answering.{no_room, not_checked, too_large, all_right, refused_kept, filled_kept}
use Rattle.condition.proofs.coefficients.Goals as goal
use Rattle.condition.proofs.coefficients.Goals.{After-coefficients-found}

pub returns-then-a-directions : goal.returns-then-a-directions
returns-then-a-directions c = refused_kept refl (no_room _ _ c.if-a-directions.true)

pub returns-in_err-terms : goal.returns-in_err-terms
returns-in_err-terms c = refused_kept {why = c.in_err-terms.field-0.0} (search rules) (not_checked _ _ c.if-a-directions.false _ (rw (read c.ranges.target) at c.in_err-terms.ensures))

pub add_terms-requires-clause-zeros : goal.add_terms-requires-clause-zeros
add_terms-requires-clause-zeros c = tally_none 65

pub add_terms-requires-clause-sound : goal.add_terms-requires-clause-sound
add_terms-requires-clause-sound c =
    let p = c.in_ok-terms.ensures in λ j k. sound_among _ 64 _ (accepted _ p.checked).counts.few_directions (passed_sound p j k)

pub coefficients-found-requires : goal.coefficients-found-requires
coefficients-found-requires c = (accepted _ c.in_ok-terms.ensures.checked).counts.few_directions

-- ---- the coefficients of directions 1 to m
module _ (c : After-coefficients-found) where
  abbrev l : Lent
  l = let a = c.args in lent a.directions.now a.q.now a.kind a.target a.kinds.now a.values.now a.d.now a.i.now a.k.now

  abbrev passed : Passed l c.in_ok-terms.terms
  passed = rw (read c.ranges.target) at c.in_ok-terms.ensures

  found : c.coefficients-found.result.now ≡ tabulate (length l.directions) (λ h. coefficient l (h + 1))
  found = passed_coefficients passed _ _ c.add_terms.ensures c.coefficients-found.ensures

pub returns-then-some_beyond : goal.returns-then-some_beyond
returns-then-some_beyond c =
    let f = (goal.at.returns-then-some_beyond c).After-coefficients-found in
    refused_kept refl
    (too_large _ _ c.if-a-directions.false (passed f).checked (sym (c.some_beyond.ensures ∙ passed_test (passed f) [] _ (found f)) ∙ c.if-some_beyond.true))

pub copy_from_slice-requires : goal.copy_from_slice-requires
copy_from_slice-requires c =
    let f = (goal.at.copy_from_slice-requires c).After-coefficients-found in rw (found f, tabulate_length) c.if-a-directions.false

pub returns : goal.returns
returns c =
    let f = (goal.at.returns c).After-coefficients-found in
    filled_kept
    (all_right _ _ c.if-a-directions.false (passed f).checked (sym (c.some_beyond.ensures ∙ passed_test (passed f) [] _ (found f)) ∙ c.if-some_beyond.false))
    (c.copy_from_slice.ensures.after ∙ found f)
