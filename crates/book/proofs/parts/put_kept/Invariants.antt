-- `book::parts::put_kept`: the kept ones of the lines before h have been put, and line h begins at `start`.
use Rattle.std.specs.Prelude.{◌*◌}
use Rattle.text.specs.Written.{in_order, Puts}
use Rattle.text.proofs.Stepping.{Reached}
use Rattle.book.specs.Rescue.{kept_by}
use Rattle.book.proofs.parts.put_kept.Given as goal

abbrev pub invariant-loop-why : goal.invariant-loop-why
invariant-loop-why l = Reached l.file l.start l.why-index × Puts l.initial.w (in_order l.why-index (kept_by l.file l.reason)) (l.why-index * 21) l.w
