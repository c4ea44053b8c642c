-- `totals::add` meets its contract: the places before i hold the sums. Assumes nothing.
use Rattle.std.proofs.Common.{◌≡◌, ℕ, subst, get_or, rules}
use Rattle.exact.proofs.Filling.{Filled, filled_all}
use Rattle.totals.specs.Totals.{joined, sum_of}
use Rattle.totals.proofs.add.Goals as goal
use native.Mathlib.Omega.{arith}

pub returns : goal.returns
unfolding sum_of
returns c =
    let first = c.args.totals.now in let more = c.args.more.now in let g : ℕ → ℕ = λ k. joined k (get_or first k 0) (get_or more k 0) in
    let e : c.loop-i.i ≡ 16 = omega arith in
    filled_all 0 g 16 first c.loop-i.totals (search rules) (subst (λ (n : ℕ). Filled 0 g 0 n first c.loop-i.totals) e c.loop-i.invariant)
