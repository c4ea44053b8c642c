-- `writer::Writer::word` meets its contract: the bytes before i have been written from the writer's place on, which stays. Assumes nothing.
use Rattle.std.proofs.Common.{◌+◌, ◌≡◌, take}
use Rattle.text.specs.Written.{Wrote}
use Rattle.text.proofs.writer.Writer.word.Given as goal

abbrev pub invariant-loop-i : goal.invariant-loop-i
invariant-loop-i l =
    (l.self.at ≡ l.initial.self.at) × (l.self.out.ghost_name ≡ l.initial.self.out.ghost_name)
    × Wrote l.initial.self.out.now l.initial.self.at (take l.i l.word) l.self.out.now (l.initial.self.at + l.i)
