-- `book::parts::put_kept` meets its contract: the kept ones of the lines before h have been written, and line h begins at `start`. Assumes nothing.
use mathlib.Core.Path.{◌≡◌, sym, ◌∙◌, ap, subst}
use mathlib.Core.List.{List, ◌++◌}
use Prim.Native.Nat.{ℕ, ◌+◌, ◌-◌, ◌<◌, ◌≤◌}
use native.Mathlib.Omega.{arith}
use borrow.Author.Rules.{rules}
use lib.ListN.{length, take, drop, length-append}
use Rattle.text.specs.Parts.{place_from}
use Rattle.text.specs.Lines.{LF, line_no}
use Rattle.text.specs.Written.{line_end}
use Rattle.text.proofs.Parting.{place_after}
use Rattle.text.proofs.Putting.{puts_as, puts_none, puts_most, puts_start, puts_line}
use Rattle.text.proofs.Stepping.{Reached, reached_none, line_cut, line_here, end_within, reached_more}
use Rattle.book.specs.Rescue.{kept_by}
use Rattle.book.proofs.Parting.{kept_line_lem, kept_none}
use Rattle.book.proofs.parts.put_kept.Goals as goal
use Rattle.book.proofs.parts.put_kept.Goals.{After-place_from-end, then-kept, else-kept}

pub loop-why-init : goal.loop-why-init
loop-why-init c = (reached_none c.args.file.now, puts_start (kept_by c.args.file.now c.args.reason.now))

-- ---- the line at the start
module _ (c : After-place_from-end) where
  abbrev file : List ℕ
  file = c.args.file.now

  ends : place_from LF file c.loop-why.start < length file
  ends = end_within file c.loop-why.invariant.0 (omega (arith, c.loop-why-test.true, c.requires.2))

  cut : take (c.place_from-end.result + 1 - c.loop-why.start) (drop c.loop-why.start file) ≡ line_no file c.loop-why.why-index ++ line_end
  cut =
      ap (λ (e : ℕ). take (e + 1 - c.loop-why.start) (drop c.loop-why.start file)) c.place_from-end.ensures
      ∙ line_cut file c.loop-why.start ends
      ∙ ap (λ (line : List ℕ). line ++ line_end) (sym (line_here file c.loop-why.invariant.0 ends))

  on : Reached file (c.place_from-end.result + 1) (c.loop-why.why-index + 1)
  on = subst (λ (e : ℕ). Reached file (e + 1) (c.loop-why.why-index + 1)) (sym c.place_from-end.ensures) (reached_more file c.loop-why.invariant.0 ends)

pub overflow_add-end : goal.overflow_add-end
overflow_add-end c = omega (arith, ends c, c.place_from-end.ensures)

pub slice_bounds-word-count : goal.slice_bounds-word-count
slice_bounds-word-count c = omega (arith, c.place_from-end.ensures, place_after LF c.args.file.now c.loop-why.start)

pub slice_bounds-word-start : goal.slice_bounds-word-start
slice_bounds-word-start c = omega (arith, c.place_from-end.ensures, place_after LF c.args.file.now c.loop-why.start)

pub slice_bounds-word-end : goal.slice_bounds-word-end
slice_bounds-word-end c = omega (arith, c.place_from-end.ensures, ends (goal.at.slice_bounds-word-end c).After-place_from-end)

-- of at most 21 bytes
short : (c : After-place_from-end) → length (take (c.place_from-end.result + 1 - c.loop-why.start) (drop c.loop-why.start c.args.file.now)) ≤ 21
short c =
    let line = line_no c.args.file.now c.loop-why.why-index in
    rw (cut c) (omega (arith, length-append line line_end, c.requires.3 c.loop-why.why-index (omega (arith, c.loop-why-test.true, c.requires.2))))

pub word-requires : goal.word-requires
word-requires c =
    let i = c.loop-why.invariant.1 in
    omega (arith, i.few, i.room, c.requires.0, c.requires.1, c.loop-why-test.true, short (goal.at.word-requires c).After-place_from-end)

pub loop-why-preserved : goal.loop-why-preserved
loop-why-preserved c =
    let line = (goal.at.loop-why-preserved c).After-place_from-end in
    let file = c.args.file.now in let reasons = c.args.reason.now in let h = c.loop-why.why-index in let lines = kept_by file reasons in
    elim c.if-kept.branch [
      | then-kept w ↦
          rw (w.w-is, w.start-is) (
            on line,
            puts_line h 21 lines c.loop-why.invariant.1
                (puts_as (cut line ∙ sym (kept_line_lem file reasons h w.if-kept.true)) (puts_most (short line) w.word.ensures)),
          )
      | else-kept w ↦
          rw (w.w-is, w.start-is)
          (on line, puts_line h 21 lines c.loop-why.invariant.1 (puts_as (sym (kept_none file reasons h w.if-kept.false)) (puts_most (omega arith) puts_none)))
    ]

pub returns : goal.returns
returns c = let p = puts_most {most = 10752} (omega (arith, c.requires.1)) c.loop-why.invariant.1 in search rules
