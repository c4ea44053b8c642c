-- `answer::write` meets its contract: both lists are filled to their ends. Assumes nothing.
use Rattle.std.proofs.Common.{◌≡◌, arith, subst, pos, ℕ}
use Rattle.exact.proofs.Filling.{Filled, filled_all}
use Rattle.station.specs.Means.{P, direction}
use Rattle.station.proofs.answer.write.Goals as goal

pub returns : goal.returns
returns c =
    let a = c.args in let t = a.table.now in let e : c.loop-object.object ≡ 16 = omega arith in (
      filled_all (pos 0) _ 16 a.direction.now c.loop-object.direction c.requires.0 (subst (λ (k : ℕ). Filled (pos 0) (direction t.count t.sums) 0 k a.direction.now c.loop-object.direction) e c.loop-object.invariant.directions),
      filled_all (pos 0) _ 16 a.pairs.now c.loop-object.pairs c.requires.1 (subst (λ (k : ℕ). Filled (pos 0) (P t.count) 0 k a.pairs.now c.loop-object.pairs) e c.loop-object.invariant.counts),
    )
