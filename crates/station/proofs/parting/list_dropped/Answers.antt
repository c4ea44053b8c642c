-- `parting::list_dropped` meets its contract: each ordinal and reason goes into the next place. Assumes nothing.
use Rattle.std.proofs.Common.{◌≡◌, ap, arith, refl, subst, Bool, not, ℕ, ◌+◌, get_or, length}
use borrow.Author.Tests.{eq-eqb, ne_eqb}
use Rattle.exact.proofs.Gathering.{Gathered, gathered_none, gathered_taken, gathered_passed, gathered_as}
use Rattle.station.specs.Steps.{free}
use Rattle.station.proofs.parting.list_dropped.Goals as goal
use Rattle.station.proofs.parting.list_dropped.Goals.{then-why-ne0, else-why-ne0}

pub loop-h-init : goal.loop-h-init
loop-h-init c = record { ordinals = gathered_none _ _ c.args.ordinals.now; reasons = gathered_none _ _ c.args.reasons.now }

pub loop-h-preserved : goal.loop-h-preserved
loop-h-preserved c =
    let a = c.args in let g = c.loop-h.invariant in
    let t : ℕ → Bool = λ i. not (free a.reason.now i) in let f : ℕ → ℕ = λ i. get_or a.reason.now i 0 in
    record {
      ordinals = elim c.if-why-ne0.branch [
        | then-why-ne0 w ↦ gathered_as w.ordinals-is w.n-is (gathered_taken t (λ i. i + 1) a.ordinals.now c.loop-h.h c.loop-h.n c.loop-h.ordinals g.ordinals (ap not (ne_eqb _ 0 w.if-why-ne0.true)) _ refl)
        | else-why-ne0 w ↦ gathered_as w.ordinals-is w.n-is (gathered_passed t (λ i. i + 1) a.ordinals.now c.loop-h.h c.loop-h.n c.loop-h.ordinals g.ordinals (ap not (eq-eqb _ 0 w.if-why-ne0.false)))
      ];
      reasons = elim c.if-why-ne0.branch [
        | then-why-ne0 w ↦ gathered_as w.reasons-is w.n-is (gathered_taken t f a.reasons.now c.loop-h.h c.loop-h.n c.loop-h.reasons g.reasons (ap not (ne_eqb _ 0 w.if-why-ne0.true)) _ w.from.ensures)
        | else-why-ne0 w ↦ gathered_as w.reasons-is w.n-is (gathered_passed t f a.reasons.now c.loop-h.h c.loop-h.n c.loop-h.reasons g.reasons (ap not (eq-eqb _ 0 w.if-why-ne0.false)))
      ];
    }

pub returns : goal.returns
returns c =
    let a = c.args in let e : c.loop-h.h ≡ length a.reason.now = omega arith in
    let t : ℕ → Bool = λ i. not (free a.reason.now i) in
    let g = subst (λ (h : ℕ). Gathered t (λ i. i + 1) h a.ordinals.now c.loop-h.ordinals c.loop-h.n) e c.loop-h.invariant.ordinals in
    let k = subst (λ (h : ℕ). Gathered t (λ i. get_or a.reason.now i 0) h a.reasons.now c.loop-h.reasons c.loop-h.n) e c.loop-h.invariant.reasons in
    record { ordinals = g.stored; reasons = k.stored; count = g.count }
