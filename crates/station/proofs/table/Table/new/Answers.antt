-- `table::Table::new` meets its contract: zeros are within any bound. Assumes nothing.
use Rattle.station.proofs.Tallying.{zeros_within}
use Rattle.station.proofs.table.Table.new.Goals as goal

pub invariant_of-result : goal.invariant_of-result
invariant_of-result c = record { few = zeros_within 512 512; small = zeros_within 663552000000 512 }
