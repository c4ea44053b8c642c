-- `season::archive::next_stop` meets its contract: the lines passed so far belong to the first part. Assumes nothing.
use mathlib.Core.Path.{sym, ◌∙◌}
use native.Mathlib.Omega.{arith}
use Rattle.text.specs.Lines.{LF}
use Rattle.text.proofs.Parting.{place_after}
use Rattle.season.proofs.Walking.{walked_none, walked_more, walked_stop, walked_end}
use Rattle.season.proofs.archive.next_stop.Goals as goal

pub loop-end-init : goal.loop-end-init
loop-end-init c = (walked_none _ _ c.requires, c.place_from-end.ensures)

pub is_stop-requires : goal.is_stop-requires
is_stop-requires c =
    let archive = c.args.archive.now in
    (omega (arith, c.loop-end.invariant.1, place_after LF archive c.loop-end.at), omega arith)

pub returns-then-is_stop : goal.returns-then-is_stop
returns-then-is_stop c =
    let a = c.args in
    walked_stop a.archive.now a.start c.loop-end.at c.loop-end.end c.loop-end.invariant.0 c.loop-end.invariant.1 (omega arith) (sym c.is_stop.ensures ∙ c.if-is_stop.true)

pub loop-end-smaller : goal.loop-end-smaller
loop-end-smaller c =
    let archive = c.args.archive.now in
    omega (arith, c.loop-end.invariant.1, place_after LF archive c.loop-end.at, c.loop-end-test.true)

pub loop-end-preserved : goal.loop-end-preserved
loop-end-preserved c =
    let a = c.args in
    (walked_more a.archive.now a.start c.loop-end.at c.loop-end.end c.loop-end.invariant.0 c.loop-end.invariant.1 (omega arith) (sym c.is_stop.ensures ∙ c.if-is_stop.false), c.place_from-end-in-loop-end.ensures)

pub returns : goal.returns
returns c =
    let a = c.args in
    walked_end a.archive.now a.start c.loop-end.at c.loop-end.end c.loop-end.invariant.0 c.loop-end.invariant.1 (omega arith)
