-- `season::stream::begin` meets its contract. Assumes nothing.
use Rattle.std.proofs.Common.{refl}
use Rattle.std.proofs.lemmas.Result.{err_from_is_err_and}
use Rattle.totals.proofs.Promising.{lent, lent_mut, no_array, array}
use Rattle.season.specs.Stream.{place_list}
use Rattle.season.proofs.Promising.{amiss_any, none_amiss, refused_begins, begun}
use Rattle.season.proofs.stream.begin.Goals as goal

pub returns-in_err-ok_or : goal.returns-in_err-ok_or
returns-in_err-ok_or c =
    let a = c.args in let p = err_from_is_err_and c.from_residual.result c.from_residual.ensures.1 in
    let no = no_array 65536 lent _ _ _ c.as_array.ensures.cases c.ok_or.ensures.value c.in_err-ok_or.was in
    rw (p.1, p.2, no.0) (refused_begins a.held.now a.totals.now a.place.now (amiss_any _ _ _ (λ e f g. no.1 e)))

pub returns-in_err-totals : goal.returns-in_err-totals
returns-in_err-totals c =
    let a = c.args in let p = err_from_is_err_and c.from_residual-in_err-totals.result c.from_residual-in_err-totals.ensures.1 in
    let no = no_array 16 lent_mut _ _ _ c.as_mut_array.ensures.cases c.ok_or-2.ensures.value c.in_err-totals.was in
    rw (p.1, p.2, no.0) (refused_begins a.held.now a.totals.now a.place.now (amiss_any _ _ _ (λ e f g. no.1 f)))

pub returns-in_err-place : goal.returns-in_err-place
returns-in_err-place c =
    let a = c.args in let p = err_from_is_err_and c.from_residual-in_err-place.result c.from_residual-in_err-place.ensures.1 in
    let totals = array 16 lent_mut _ _ _ c.as_mut_array.ensures.cases c.ok_or-2.ensures.value c.in_ok-totals.was in
    let no = no_array 3 lent_mut _ _ _ c.as_mut_array-2.ensures.cases c.ok_or-3.ensures.value c.in_err-place.was in
    rw (p.1, p.2, no.0, totals.0) (refused_begins a.held.now a.totals.now a.place.now (amiss_any _ _ _ (λ e f g. no.1 g)))

pub returns : goal.returns
unfolding place_list
returns c =
    let a = c.args in
    let held = array 65536 lent _ _ _ c.as_array.ensures.cases c.ok_or.ensures.value c.in_ok-ok_or.was in
    let totals = array 16 lent_mut _ _ _ c.as_mut_array.ensures.cases c.ok_or-2.ensures.value c.in_ok-totals.was in
    let place = array 3 lent_mut _ _ _ c.as_mut_array-2.ensures.cases c.ok_or-3.ensures.value c.in_ok-place.was in
    begun a.held.now a.totals.now a.place.now (none_amiss held.1 totals.1 place.1) c.clear.ensures refl
