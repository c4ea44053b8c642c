-- `season::stream::next` meets its contract. Assumes nothing.
use Rattle.std.proofs.Common.{◌≡◌, sym, ◌∙◌, ap, subst, rules}
use Rattle.std.proofs.lemmas.Result.{err_from_is_err_and}
use Rattle.totals.proofs.Promising.{lent_mut, no_array, array}
use Rattle.reply.specs.declared.Refusal.TheVariants.{Count}
use Rattle.season.specs.Stream.{place_of, stream, fed}
use Rattle.season.specs.Inner.{Roomy, Stands}
use Rattle.season.proofs.Promising.{amiss_any, none_amiss, by_lengths, by_checks, passed_state, refused_feeds, feeds}
use Rattle.season.proofs.stream.next.Goals as goal

pub returns-in_err-held : goal.returns-in_err-held
returns-in_err-held c =
    let a = c.args in let p = err_from_is_err_and c.from_residual.result c.from_residual.ensures.1 in
    let no = no_array 65536 lent_mut _ _ _ c.as_mut_array.ensures.cases c.ok_or.ensures.value c.in_err-held.was in
    rw (p.1, p.2, no.0) (refused_feeds a.held.now a.totals.now a.place.now a.bytes.now (Count 0) (by_lengths a.held.now a.totals.now a.place.now (amiss_any _ _ _ (λ e f g. no.1 e))))

pub returns-in_err-totals : goal.returns-in_err-totals
returns-in_err-totals c =
    let a = c.args in let p = err_from_is_err_and c.from_residual-in_err-totals.result c.from_residual-in_err-totals.ensures.1 in
    let held = array 65536 lent_mut _ _ _ c.as_mut_array.ensures.cases c.ok_or.ensures.value c.in_ok-held.was in
    let no = no_array 16 lent_mut _ _ _ c.as_mut_array-2.ensures.cases c.ok_or-2.ensures.value c.in_err-totals.was in
    rw (p.1, p.2, no.0, held.0) (refused_feeds a.held.now a.totals.now a.place.now a.bytes.now (Count 0) (by_lengths a.held.now a.totals.now a.place.now (amiss_any _ _ _ (λ e f g. no.1 f))))

pub returns-in_err-lent : goal.returns-in_err-lent
returns-in_err-lent c =
    let a = c.args in let p = err_from_is_err_and c.from_residual-in_err-lent.result c.from_residual-in_err-lent.ensures.1 in
    let held = array 65536 lent_mut _ _ _ c.as_mut_array.ensures.cases c.ok_or.ensures.value c.in_ok-held.was in
    let totals = array 16 lent_mut _ _ _ c.as_mut_array-2.ensures.cases c.ok_or-2.ensures.value c.in_ok-totals.was in
    let no = no_array 3 lent_mut _ _ _ c.as_mut_array-3.ensures.cases c.ok_or-3.ensures.value c.in_err-lent.was in
    rw (p.1, p.2, no.0, held.0, totals.0) (refused_feeds a.held.now a.totals.now a.place.now a.bytes.now (Count 0) (by_lengths a.held.now a.totals.now a.place.now (amiss_any _ _ _ (λ e f g. no.1 g))))

pub returns-in_err-check : goal.returns-in_err-check
returns-in_err-check c =
    let a = c.args in let p = err_from_is_err_and c.from_residual-in_err-check.result c.from_residual-in_err-check.ensures.1 in
    let held = array 65536 lent_mut _ _ _ c.as_mut_array.ensures.cases c.ok_or.ensures.value c.in_ok-held.was in
    let totals = array 16 lent_mut _ _ _ c.as_mut_array-2.ensures.cases c.ok_or-2.ensures.value c.in_ok-totals.was in
    let place = array 3 lent_mut _ _ _ c.as_mut_array-3.ensures.cases c.ok_or-3.ensures.value c.in_ok-lent.was in
    let at = c.from-place.ensures ∙ ap place_of place.0 in
    let checked = by_checks a.held.now a.totals.now a.place.now (none_amiss held.1 totals.1 place.1) totals.0 at c.check.ensures in
    rw (p.1, p.2, held.0, totals.0, place.0) (refused_feeds a.held.now a.totals.now a.place.now a.bytes.now _ (sym checked ∙ c.in_err-check.was))

pub invariant_of-open : goal.invariant_of-open
invariant_of-open c =
    let a = c.args in
    let held = array 65536 lent_mut _ _ _ c.as_mut_array.ensures.cases c.ok_or.ensures.value c.in_ok-held.was in
    let totals = array 16 lent_mut _ _ _ c.as_mut_array-2.ensures.cases c.ok_or-2.ensures.value c.in_ok-totals.was in
    let place = array 3 lent_mut _ _ _ c.as_mut_array-3.ensures.cases c.ok_or-3.ensures.value c.in_ok-lent.was in
    let at = c.from-place.ensures ∙ ap place_of place.0 in
    let checked = by_checks a.held.now a.totals.now a.place.now (none_amiss held.1 totals.1 place.1) totals.0 at c.check.ensures in
    let p = passed_state a.held.now a.totals.now a.place.now (sym checked ∙ c.in_ok-check.was) in
    record { sound = record { long = rw held.0 p.held_long; within = subst Roomy (sym totals.0) p.roomy; stands = subst Stands (sym at) p.stands } }

pub returns : goal.returns
returns c =
    let a = c.args in
    let held = array 65536 lent_mut _ _ _ c.as_mut_array.ensures.cases c.ok_or.ensures.value c.in_ok-held.was in
    let totals = array 16 lent_mut _ _ _ c.as_mut_array-2.ensures.cases c.ok_or-2.ensures.value c.in_ok-totals.was in
    let place = array 3 lent_mut _ _ _ c.as_mut_array-3.ensures.cases c.ok_or-3.ensures.value c.in_ok-lent.was in
    let at = c.from-place.ensures ∙ ap place_of place.0 in
    let checked = by_checks a.held.now a.totals.now a.place.now (none_amiss held.1 totals.1 place.1) totals.0 at c.check.ensures in
    let same : stream c.in_ok-held.held.now c.in_ok-totals.totals.now c.from-place.result ≡ stream a.held.now a.totals.now (place_of a.place.now) = rw (held.0, totals.0, at) in
    let fed_now =
    feeds a.held.now a.totals.now a.place.now a.bytes.now (sym checked ∙ c.in_ok-check.was)
    (c.feed.ensures.goes ∙ ap (fed a.bytes.now) same) c.into.ensures in
    search rules
