-- `table::clear` meets its contract: all 512 places are cleared. Assumes nothing.
use Rattle.std.proofs.Common.{◌≡◌, arith, subst, cond, get_or, pos, ◌%◌, ℕ}
use Rattle.exact.proofs.Filling.{Filled, filled_all}
use Rattle.station.specs.Steps.{free, cleared}
use Rattle.station.proofs.table.clear.Goals as goal

pub returns : goal.returns
unfolding cleared
returns c =
    let a = c.args in let e : c.loop-k.k ≡ 512 = omega arith in
    filled_all (pos 0) _ 512 a.part.now c.loop-k.part c.told-part
    (subst (λ (k : ℕ). Filled (pos 0) (λ i. cond (free a.why.now (i % 256)) (get_or a.part.now i (pos 0)) (pos 0)) 0 k a.part.now c.loop-k.part) e c.loop-k.invariant)
