-- `parting::keep` meets its contract: each kept field goes into the next place. Assumes nothing.
use Rattle.std.proofs.Common.{◌≡◌, arith, rules, subst, ℕ, ℤ, pos, get_or, length, FitsSigned, w64}
use borrow.Author.Tests.{eq-eqb, ne_eqb}
use Rattle.exact.proofs.Bound.{read}
use Rattle.exact.proofs.Gathering.{Gathered, gathered_none, gathered_taken, gathered_passed, gathered_as}
use Rattle.station.specs.Steps.{free}
use Rattle.station.proofs.parting.keep.Goals as goal
use Rattle.station.proofs.parting.keep.Goals.{then-why-eq0, else-why-eq0}

pub loop-h-init : goal.loop-h-init
loop-h-init c = gathered_none _ _ c.args.kept.now

pub loop-h-preserved : goal.loop-h-preserved
loop-h-preserved c =
    let a = c.args in let g = c.loop-h.invariant in
    let t = free a.reason.now in let f : ℕ → ℤ = λ i. get_or a.field.now i (pos 0) in
    elim c.if-why-eq0.branch [
      | then-why-eq0 w ↦
          let fit : FitsSigned w64 (f c.loop-h.h) = search rules in
          gathered_as w.kept-is w.n-is (gathered_taken t f a.kept.now c.loop-h.h c.loop-h.n c.loop-h.kept g (eq-eqb _ 0 w.if-why-eq0.true) _ (read fit))
      | else-why-eq0 w ↦ gathered_as w.kept-is w.n-is (gathered_passed t f a.kept.now c.loop-h.h c.loop-h.n c.loop-h.kept g (ne_eqb _ 0 w.if-why-eq0.false))
    ]

pub returns : goal.returns
returns c =
    let a = c.args in let e : c.loop-h.h ≡ length a.reason.now = omega arith in
    let g = subst (λ (h : ℕ). Gathered (free a.reason.now) (λ i. get_or a.field.now i (pos 0)) h a.kept.now c.loop-h.kept c.loop-h.n) e c.loop-h.invariant in
    record { list = g.stored; count = g.count }
