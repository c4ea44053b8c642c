-- `correlate::correlates` meets its contract: the correlates from row j on are found, and none is too large. Assumes nothing.
use Rattle.std.proofs.Common.{◌≡◌, ◌≤◌, get_or, pos, nat_abs}
use Rattle.doolittle.specs.Table.{Table}
use Rattle.doolittle.specs.Solution.{K}
use Rattle.doolittle.specs.Inner.{Triangle, From}
use Rattle.doolittle.proofs.correlate.correlates.Given as goal

abbrev pub invariant-loop-j : goal.invariant-loop-j
invariant-loop-j l =
    From l.j l.n (λ h. nat_abs (get_or l.k h (pos 0)) ≤ 100000000)
    × ((t : Table) → t.n ≡ l.n → Triangle t l.rows → From l.j l.n (λ h. get_or l.k h (pos 0) ≡ K t h))
