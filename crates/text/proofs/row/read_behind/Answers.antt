-- `text::row::read_behind` meets its contract, by the line's first two bytes. Assumes nothing.
use Rattle.std.proofs.Common.{◌≡◌, ◌∙◌, refl, arith, rules, ◌+◌, ◌≤◌, length, get_or}
use Rattle.std.specs.Prelude.{None}
use Rattle.text.specs.Fields.{TAB}
use Rattle.text.specs.Rows.{lettered_within}
use Rattle.text.proofs.Lettering.{behind_short, behind_other, behind_no_tab, behind_row, behind_end_lem, no_answer}
use Rattle.text.proofs.row.read_behind.Goals as goal

pub returns-then-file-start-lt2 : goal.returns-then-file-start-lt2
returns-then-file-start-lt2 c =
    let a = c.args in
    let none : lettered_within a.most a.file.now a.start a.letter a.count ≡ None = grind (arith, behind_short, behind_other, behind_no_tab) in
    let r = no_answer _ _ _ _ _ none _ in record { end = r.0; values = r.1; long = refl }

pub returns : goal.returns
returns c =
    let a = c.args in
    let l : a.start + 2 ≤ length a.file.now = omega arith in
    let first : get_or a.file.now a.start 0 ≡ a.letter = search rules in
    let second : get_or a.file.now (a.start + 1) 0 ≡ TAB = search rules in record {
      end = c.read.ensures.end ∙ behind_end_lem _ _ _ _ _ c.requires.2 l first second;
      values = rw (behind_row _ _ _ _ _ c.requires.2 l first second) c.read.ensures.values;
      long = c.read.ensures.long;
    }
