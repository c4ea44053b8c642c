-- `correct::remainders` meets its contract: the remainders before j are within the limit, and stand in the list. Assumes nothing.
use Rattle.std.proofs.Common.{◌≡◌, ℕ, ◌<◌}
use Rattle.exact.proofs.Searching.{Failed}
use Rattle.doolittle.specs.Table.{at}
use Rattle.doolittle.specs.Lent.{table_in}
use Rattle.adjustment.specs.Inner.{closing}
use Rattle.adjustment.proofs.Solving.{beyond}
use Rattle.adjustment.proofs.correct.remainders.Given as goal

abbrev pub invariant-loop-j : goal.invariant-loop-j
invariant-loop-j l = let f = closing (table_in l.table) (at l.v) in record {
  within : Failed (beyond 50000000 f) l.j;
  stored : (h : ℕ) → h < l.j → at l.r h ≡ f h;
}
