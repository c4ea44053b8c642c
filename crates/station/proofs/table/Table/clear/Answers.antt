-- `table::Table::clear` meets its contract: what is cleared gets no larger. Assumes nothing.
use Rattle.station.proofs.Sweeping.{cleared_within}
use Rattle.station.proofs.table.Table.clear.Goals as goal

pub invariant_of-self : goal.invariant_of-self
invariant_of-self c =
    let a = c.args in
    record {
      few = rw c.clear.ensures (cleared_within 512 a.why.now a.self.now.count a.self.now.few);
      small = rw c.clear-2.ensures (cleared_within 663552000000 a.why.now a.self.now.sums a.self.now.small);
    }
