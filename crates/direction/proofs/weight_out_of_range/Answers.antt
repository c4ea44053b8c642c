-- `direction::weight_out_of_range` meets its contract. Assumes nothing.
use mathlib.Core.Path.{◌∙◌}
use mir.ValLaws.{to_z-of_z}
use Rattle.direction.proofs.weight_out_of_range.Goals as goal

pub returns : goal.returns
returns c = let f = c.ranges.q in c.outside.ensures ∙ simp to_z-of_z
