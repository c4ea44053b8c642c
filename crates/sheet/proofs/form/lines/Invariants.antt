-- `form::lines` meets its contract: the lines read so far are those due, and their numbers stand in their places. Assumes nothing.
use mathlib.Core.Path.{◌≡◌}
use lib.ListN.{length}
use Rattle.sheet.specs.Inner.{Headed}
use Rattle.sheet.proofs.Forming.{Begun}
use Rattle.sheet.proofs.form.lines.Given as goal

abbrev pub invariant-loop-i : goal.invariant-loop-i
invariant-loop-i l = (length l.x ≡ 352) × ((h : Headed l.listing l.start l.m l.n) → Begun h l.next l.i l.x)
