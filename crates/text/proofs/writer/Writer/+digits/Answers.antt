-- `writer::Writer::digits` meets its contract: the digits before the last one, if there are any, and the last. Assumes nothing.
use Rattle.std.proofs.Common.{subst, [], ◌∷◌, ◌+◌, ◌%◌, arith}
use Rattle.text.specs.declared.writer.Writer.{Writer}
use Rattle.text.specs.Written.{Puts}
use Rattle.text.proofs.Putting.{put_small, put_large}
use Rattle.text.proofs.writer.Writer.+digits.Goals as goal
use Rattle.text.proofs.writer.Writer.+digits.Goals.{then-n-ge10, else-n-ge10}

pub returns : goal.returns
returns t c =
    let last = λ (before : Writer). Puts before ((48 + c.args.n % 10) ∷ []) 1 c.byte.new.self in
    elim c.if-n-ge10.branch [
      | then-n-ge10 w ↦ put_large w.if-n-ge10.true (omega arith) w.digits.ensures (subst last w.self-is c.byte.ensures)
      | else-n-ge10 w ↦ put_small (omega (arith, w.if-n-ge10.false)) (subst last w.self-is c.byte.ensures)
    ]
