-- The object's line, or none.
use Rattle.std.proofs.Common.{sym, ◌∙◌, ap, ap₂, ◌+◌, get_or, arith, rules}
use Rattle.std.specs.Prelude.{pos}
use lib.Signed.{lt_z}
use mir.Syntax.{w64}
use mir.Val.{SFits}
use Rattle.exact.proofs.Bound.{read}
use Rattle.text.proofs.Putting.{puts_as, puts_none, puts_most}
use Rattle.book.specs.Listing.{o_line}
use Rattle.book.proofs.Composing.{line_seen, line_unseen}
use Rattle.book.proofs.lines.Means.put_object.Goals as goal

pub returns-then-self-j-gt0 : goal.returns-then-self-j-gt0
returns-then-self-j-gt0 c =
    let a = c.args in
    let p_fits : SFits w64 (get_or a.self.now.pairs a.j (pos 0)) = search rules in
    let direction_fits : SFits w64 (get_or a.self.now.directions a.j (pos 0)) = search rules in
    puts_as
    (ap₂ (o_line (a.j + 1)) (read direction_fits) (read p_fits)
    ∙ line_seen a.self.now.directions a.self.now.pairs a.j (ap (lt_z (pos 0)) (sym (read p_fits)) ∙ c.if-self-j-gt0.true))
    c.put_numbered.ensures

pub returns-else-self-j-gt0 : goal.returns-else-self-j-gt0
returns-else-self-j-gt0 c =
    let a = c.args in
    let p_fits : SFits w64 (get_or a.self.now.pairs a.j (pos 0)) = search rules in
    puts_as (line_unseen a.self.now.directions a.self.now.pairs a.j (ap (lt_z (pos 0)) (sym (read p_fits)) ∙ c.if-self-j-gt0.false)) (puts_most (omega arith) puts_none)
