-- `season::stream::end` meets its contract. Assumes nothing.
use Rattle.std.proofs.Common.{◌≡◌, sym, ◌∙◌, ap, ap₂, subst}
use Rattle.std.proofs.lemmas.Bool.{eq-eqb, ne_eqb}
use Rattle.std.proofs.lemmas.Result.{err_from_is_err_and}
use Rattle.totals.proofs.Promising.{lent, lent_mut, no_array, array}
use Rattle.reply.specs.declared.Refusal.TheVariants.{Count}
use Rattle.season.specs.Inner.{Roomy}
use Rattle.season.specs.Stream.{place_of, place_list, ended_totals, ended_place}
use Rattle.season.specs.Promise.{past_reply}
use Rattle.season.specs.declared.stream.Place.{Place}
use Rattle.season.proofs.Promising.{amiss_any, none_amiss, by_lengths, by_checks, passed_state, refused_ends, ends}
use Rattle.season.proofs.stream.end.Goals as goal

pub returns-in_err-ok_or : goal.returns-in_err-ok_or
returns-in_err-ok_or c =
    let a = c.args in let p = err_from_is_err_and c.from_residual.result c.from_residual.ensures.1 in
    let no = no_array 65536 lent _ _ _ c.as_array.ensures.cases c.ok_or.ensures.value c.in_err-ok_or.was in
    rw (p.1, p.2, no.0) (refused_ends a.held.now a.totals.now a.place.now (Count 0) (by_lengths a.held.now a.totals.now a.place.now (amiss_any _ _ _ (λ e f g. no.1 e))))

pub returns-in_err-totals : goal.returns-in_err-totals
returns-in_err-totals c =
    let a = c.args in let p = err_from_is_err_and c.from_residual-in_err-totals.result c.from_residual-in_err-totals.ensures.1 in
    let no = no_array 16 lent_mut _ _ _ c.as_mut_array.ensures.cases c.ok_or-2.ensures.value c.in_err-totals.was in
    rw (p.1, p.2, no.0) (refused_ends a.held.now a.totals.now a.place.now (Count 0) (by_lengths a.held.now a.totals.now a.place.now (amiss_any _ _ _ (λ e f g. no.1 f))))

pub returns-in_err-lent : goal.returns-in_err-lent
returns-in_err-lent c =
    let a = c.args in let p = err_from_is_err_and c.from_residual-in_err-lent.result c.from_residual-in_err-lent.ensures.1 in
    let totals = array 16 lent_mut _ _ _ c.as_mut_array.ensures.cases c.ok_or-2.ensures.value c.in_ok-totals.was in
    let no = no_array 3 lent_mut _ _ _ c.as_mut_array-2.ensures.cases c.ok_or-3.ensures.value c.in_err-lent.was in
    rw (p.1, p.2, no.0, totals.0) (refused_ends a.held.now a.totals.now a.place.now (Count 0) (by_lengths a.held.now a.totals.now a.place.now (amiss_any _ _ _ (λ e f g. no.1 g))))

pub returns-in_err-check : goal.returns-in_err-check
returns-in_err-check c =
    let a = c.args in let p = err_from_is_err_and c.from_residual-in_err-check.result c.from_residual-in_err-check.ensures.1 in
    let held = array 65536 lent _ _ _ c.as_array.ensures.cases c.ok_or.ensures.value c.in_ok-ok_or.was in
    let totals = array 16 lent_mut _ _ _ c.as_mut_array.ensures.cases c.ok_or-2.ensures.value c.in_ok-totals.was in
    let place = array 3 lent_mut _ _ _ c.as_mut_array-2.ensures.cases c.ok_or-3.ensures.value c.in_ok-lent.was in
    let at = c.from-place.ensures ∙ ap place_of place.0 in
    let checked = by_checks a.held.now a.totals.now a.place.now (none_amiss held.1 totals.1 place.1) totals.0 at c.check.ensures in
    rw (p.1, p.2, totals.0, place.0) (refused_ends a.held.now a.totals.now a.place.now _ (sym checked ∙ c.in_err-check.was))

pub finish-ended-requires : goal.finish-ended-requires
finish-ended-requires c =
    let a = c.args in
    let held = array 65536 lent _ _ _ c.as_array.ensures.cases c.ok_or.ensures.value c.in_ok-ok_or.was in
    let totals = array 16 lent_mut _ _ _ c.as_mut_array.ensures.cases c.ok_or-2.ensures.value c.in_ok-totals.was in
    let place = array 3 lent_mut _ _ _ c.as_mut_array-2.ensures.cases c.ok_or-3.ensures.value c.in_ok-lent.was in
    let at = c.from-place.ensures ∙ ap place_of place.0 in
    let checked = by_checks a.held.now a.totals.now a.place.now (none_amiss held.1 totals.1 place.1) totals.0 at c.check.ensures in
    subst Roomy (sym totals.0) (passed_state a.held.now a.totals.now a.place.now (sym checked ∙ c.in_ok-check.was)).roomy

pub returns-then-ended-eq1 : goal.returns-then-ended-eq1
unfolding past_reply
returns-then-ended-eq1 c =
    let a = c.args in
    let held = array 65536 lent _ _ _ c.as_array.ensures.cases c.ok_or.ensures.value c.in_ok-ok_or.was in
    let totals = array 16 lent_mut _ _ _ c.as_mut_array.ensures.cases c.ok_or-2.ensures.value c.in_ok-totals.was in
    let place = array 3 lent_mut _ _ _ c.as_mut_array-2.ensures.cases c.ok_or-3.ensures.value c.in_ok-lent.was in
    let at = c.from-place.ensures ∙ ap place_of place.0 in
    let checked = by_checks a.held.now a.totals.now a.place.now (none_amiss held.1 totals.1 place.1) totals.0 at c.check.ensures in
    let ended : c.finish-ended.result ≡ ended_place a.totals.now (place_of a.place.now) = c.finish-ended.ensures.place ∙ ap₂ ended_place totals.0 at in
    ends a.held.now a.totals.now a.place.now (sym checked ∙ c.in_ok-check.was)
    (rw (eq-eqb (ended_place a.totals.now (place_of a.place.now)).past 1 (sym (ap (λ (x : Place). x.past) ended) ∙ c.if-ended-eq1.true)))
    (c.finish-ended.ensures.list ∙ ap₂ ended_totals totals.0 at) (c.into.ensures ∙ ap place_list ended)

pub returns : goal.returns
unfolding past_reply
returns c =
    let a = c.args in
    let held = array 65536 lent _ _ _ c.as_array.ensures.cases c.ok_or.ensures.value c.in_ok-ok_or.was in
    let totals = array 16 lent_mut _ _ _ c.as_mut_array.ensures.cases c.ok_or-2.ensures.value c.in_ok-totals.was in
    let place = array 3 lent_mut _ _ _ c.as_mut_array-2.ensures.cases c.ok_or-3.ensures.value c.in_ok-lent.was in
    let at = c.from-place.ensures ∙ ap place_of place.0 in
    let checked = by_checks a.held.now a.totals.now a.place.now (none_amiss held.1 totals.1 place.1) totals.0 at c.check.ensures in
    let ended : c.finish-ended.result ≡ ended_place a.totals.now (place_of a.place.now) = c.finish-ended.ensures.place ∙ ap₂ ended_place totals.0 at in
    ends a.held.now a.totals.now a.place.now (sym checked ∙ c.in_ok-check.was)
    (rw (ne_eqb (ended_place a.totals.now (place_of a.place.now)).past 1 (λ e. c.if-ended-eq1.false (ap (λ (x : Place). x.past) ended ∙ e))))
    (c.finish-ended.ensures.list ∙ ap₂ ended_totals totals.0 at) (c.into.ensures ∙ ap place_list ended)
