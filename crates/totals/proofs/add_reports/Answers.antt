-- `totals::add_reports` meets its contract. Assumes nothing.
use Rattle.std.proofs.Common.{◌≡◌, sym, ◌∙◌, ap₂, arith}
use Rattle.std.proofs.lemmas.Result.{err_from_is_err_and}
use Rattle.reply.specs.declared.Refusal.TheVariants.{Count, Nets}
use Rattle.totals.specs.Totals.{sum_of}
use Rattle.totals.specs.Promise.{sizes_reply}
use Rattle.totals.proofs.Promising.{lent, lent_mut, no_array, array, amiss_any, none_amiss, by_lengths, by_sizes, past_nets, within_nets, small, refused_adds, accepted_adds}
use Rattle.totals.proofs.add_reports.Goals as goal

pub returns-in_err-first : goal.returns-in_err-first
returns-in_err-first c =
    let a = c.args in let p = err_from_is_err_and c.from_residual.result c.from_residual.ensures.1 in
    let no = no_array 16 lent _ _ _ c.as_array.ensures.cases c.ok_or.ensures.value c.in_err-first.was in
    rw (p.1, p.2, no.0) (refused_adds a.first.now a.second.now a.sum.now (Count 0) (by_lengths _ _ _ (amiss_any _ _ _ (λ e f g. no.1 e))))

pub returns-in_err-second : goal.returns-in_err-second
returns-in_err-second c =
    let a = c.args in let p = err_from_is_err_and c.from_residual-in_err-second.result c.from_residual-in_err-second.ensures.1 in
    let no = no_array 16 lent _ _ _ c.as_array-2.ensures.cases c.ok_or-2.ensures.value c.in_err-second.was in
    rw (p.1, p.2, no.0) (refused_adds a.first.now a.second.now a.sum.now (Count 0) (by_lengths _ _ _ (amiss_any _ _ _ (λ e f g. no.1 f))))

pub returns-in_err-sum : goal.returns-in_err-sum
returns-in_err-sum c =
    let a = c.args in let p = err_from_is_err_and c.from_residual-in_err-sum.result c.from_residual-in_err-sum.ensures.1 in
    let no = no_array 16 lent_mut _ _ _ c.as_mut_array.ensures.cases c.ok_or-3.ensures.value c.in_err-sum.was in
    rw (p.1, p.2, no.0) (refused_adds a.first.now a.second.now a.sum.now (Count 0) (by_lengths _ _ _ (amiss_any _ _ _ (λ e f g. no.1 g))))

pub returns-in_err-check : goal.returns-in_err-check
returns-in_err-check c =
    let a = c.args in let p = err_from_is_err_and c.from_residual-in_err-check.result c.from_residual-in_err-check.ensures.1 in
    let first = array 16 lent _ _ _ c.as_array.ensures.cases c.ok_or.ensures.value c.in_ok-first.was in
    let second = array 16 lent _ _ _ c.as_array-2.ensures.cases c.ok_or-2.ensures.value c.in_ok-second.was in
    let sum = array 16 lent_mut _ _ _ c.as_mut_array.ensures.cases c.ok_or-3.ensures.value c.in_ok-sum.was in
    let refused : sizes_reply a.first.now a.second.now ≡ _ = sym (ap₂ sizes_reply first.0 second.0) ∙ sym c.check.ensures ∙ c.in_err-check.was in
    rw (p.1, p.2, sum.0) (refused_adds a.first.now a.second.now a.sum.now _ (by_sizes _ _ _ (none_amiss first.1 second.1 sum.1) _ refused))

pub overflow_add-first : goal.overflow_add-first
overflow_add-first c =
    record { fits = omega (arith, small c.in_ok-first.first.now c.in_ok-second.second.now (sym c.check.ensures ∙ c.in_ok-check.was) 0 (omega arith)) }

pub returns-then-first-second-gt-MOST_NETS : goal.returns-then-first-second-gt-MOST_NETS
returns-then-first-second-gt-MOST_NETS c =
    let a = c.args in
    let first = array 16 lent _ _ _ c.as_array.ensures.cases c.ok_or.ensures.value c.in_ok-first.was in
    let second = array 16 lent _ _ _ c.as_array-2.ensures.cases c.ok_or-2.ensures.value c.in_ok-second.was in
    let sum = array 16 lent_mut _ _ _ c.as_mut_array.ensures.cases c.ok_or-3.ensures.value c.in_ok-sum.was in
    let sized : sizes_reply a.first.now a.second.now ≡ _ = sym (ap₂ sizes_reply first.0 second.0) ∙ sym c.check.ensures ∙ c.in_ok-check.was in
    rw sum.0
    (refused_adds a.first.now a.second.now a.sum.now (Nets 100001)
    (past_nets _ _ _ (none_amiss first.1 second.1 sum.1) sized (rw (← first.0, ← second.0) c.if-first-second-gt-MOST_NETS.true)))

pub add-requires : goal.add-requires
add-requires c i l = omega (arith, small c.in_ok-first.first.now c.in_ok-second.second.now (sym c.check.ensures ∙ c.in_ok-check.was) i l)

pub returns : goal.returns
returns c =
    let a = c.args in
    let first = array 16 lent _ _ _ c.as_array.ensures.cases c.ok_or.ensures.value c.in_ok-first.was in
    let second = array 16 lent _ _ _ c.as_array-2.ensures.cases c.ok_or-2.ensures.value c.in_ok-second.was in
    let sum = array 16 lent_mut _ _ _ c.as_mut_array.ensures.cases c.ok_or-3.ensures.value c.in_ok-sum.was in
    let sized : sizes_reply a.first.now a.second.now ≡ _ = sym (ap₂ sizes_reply first.0 second.0) ∙ sym c.check.ensures ∙ c.in_ok-check.was in
    accepted_adds a.first.now a.second.now a.sum.now
    (within_nets _ _ _ (none_amiss first.1 second.1 sum.1) sized (rw (← first.0, ← second.0) (omega arith)))
    (c.add.ensures ∙ ap₂ sum_of first.0 second.0)
