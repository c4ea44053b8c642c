-- `writer::Writer::digits` goes down by the number that is written.
use Rattle.text.proofs.writer.Writer.+digits.Given as goal

abbrev pub decreases-digits : goal.decreases-digits
decreases-digits l = l.n
