-- `reduce::tell_shape` meets its contract. Assumes nothing.
use Rattle.std.proofs.Common.{◌≡◌, ℕ, ◌<◌, length}
use Rattle.doolittle.specs.Inner.{row_at}
use Rattle.doolittle.proofs.reduce.tell_shape.Given as goal

abbrev pub invariant-loop-h : goal.invariant-loop-h
invariant-loop-h l = (h : ℕ) → h < l.h → length (row_at l.rows h) ≡ 25
