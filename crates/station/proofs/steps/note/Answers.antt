-- `steps::note` meets its contract: all 256 reasons are noted. Assumes nothing.
use Rattle.std.proofs.Common.{◌≡◌, arith, subst, cond, get_or, ℕ}
use Rattle.exact.proofs.Filling.{Filled, filled_all}
use Rattle.station.specs.Replies.{fault}
use Rattle.station.specs.Steps.{noted}
use Rattle.station.proofs.steps.note.Goals as goal

pub returns : goal.returns
unfolding noted
returns c =
    let a = c.args in let t = a.table.now in let e : c.loop-k.k ≡ 256 = omega arith in
    filled_all 0 _ 256 a.why.now c.loop-k.why c.told-why
    (subst (λ (k : ℕ). Filled 0 (λ i. cond (fault a.check t.count t.sums i) a.step (get_or a.why.now i 0)) 0 k a.why.now c.loop-k.why) e c.loop-k.invariant)
