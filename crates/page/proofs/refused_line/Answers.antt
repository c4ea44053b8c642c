-- In a buffer with room the line of the refusal, and else nothing.
use Rattle.std.proofs.Common.{rules}
use borrow.Author.Tests.{lt-ltb, le-ltb}
use Rattle.page.specs.Page.{refused_line_in}
use Rattle.page.proofs.refused_line.Goals as goal

pub returns-then-out-lt-REFUSED_LINE-clause-line : goal.returns-then-out-lt-REFUSED_LINE-clause-line
unfolding refused_line_in
returns-then-out-lt-REFUSED_LINE-clause-line c = rw (lt-ltb _ 52 c.if-out-lt-REFUSED_LINE.true) (search rules)

pub returns-clause-line : goal.returns-clause-line
unfolding refused_line_in
returns-clause-line c = let w = c.put_refused.ensures.wrote in rw (le-ltb _ 52 c.if-out-lt-REFUSED_LINE.false) (search rules)
