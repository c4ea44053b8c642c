-- `totals::adding::numbers_from` meets its contract. Assumes nothing.
use Rattle.std.proofs.Common.{sym, ◌∙◌, ap₂, ◌≤◌, length, take, arith}
use Rattle.std.proofs.lemmas.Int.{ints}
use Rattle.std.specs.Prelude.{pos}
use lib.ListN.{get_or-eq_default}
use lib.Seq.{get_or-take, length-take-le}
use Rattle.text.proofs.Rowing.{row_told, no_row_told}
use Rattle.totals.specs.Adding.{entry_with}
use Rattle.totals.proofs.Entering.{no_numbers, some_numbers}
use Rattle.totals.proofs.adding.numbers_from.Goals as goal

pub returns-in_err-read : goal.returns-in_err-read
returns-in_err-read c =
    let a = c.args in
    rw (c.from_residual.ensures, c.if-pair.true) (no_numbers (no_row_told 18 a.text.now a.start 2 (sym c.read.ensures.end ∙ c.in_err-read.was)))

pub returns-in_err-read-2 : goal.returns-in_err-read-2
returns-in_err-read-2 c =
    let a = c.args in
    rw (c.from_residual-in_err-read-2.ensures, c.if-pair.false) (no_numbers (no_row_told 18 a.text.now a.start 1 (sym c.read-else-pair.ensures.end ∙ c.in_err-read-2.was)))

pub returns-in_ok-read : goal.returns-in_ok-read
returns-in_ok-read c =
    let a = c.args in let x = c.read.new.x in
    let told = row_told 18 a.text.now a.start 2 c.in_ok-read.field-0 (take 2 x) (sym c.read.ensures.end ∙ c.in_ok-read.was) c.read.ensures.values in
    rw c.if-pair.true
    (c.entry_with.ensures
    ∙ ap₂ entry_with (omega (arith, ints, get_or-take 2 x 0 (pos 0) (omega arith))) (omega (arith, ints, get_or-take 2 x 1 (pos 0) (omega arith)))
    ∙ some_numbers (take 2 x) told.0)

pub returns-in_ok-read-2 : goal.returns-in_ok-read-2
returns-in_ok-read-2 c =
    let a = c.args in let x = c.read-else-pair.new.x in
    let told = row_told 18 a.text.now a.start 1 c.in_ok-read-2.field-0 (take 1 x) (sym c.read-else-pair.ensures.end ∙ c.in_ok-read-2.was) c.read-else-pair.ensures.values in
    let one : length (take 1 x) ≤ 1 = omega (arith, length-take-le 1 x (omega (arith, c.read-else-pair.ensures.long))) in
    rw c.if-pair.false
    (c.entry_with-else-pair.ensures
    ∙ ap₂ entry_with (omega (arith, ints, get_or-take 1 x 0 (pos 0) (omega arith))) (sym (get_or-eq_default (take 1 x) (pos 0) {n = 1} one))
    ∙ some_numbers (take 1 x) told.0)
