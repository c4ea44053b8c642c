-- `form::heading` meets its contract. Assumes nothing.
use mathlib.Core.Path.{sym, ◌∙◌}
use native.Mathlib.Omega.{arith}
use Rattle.text.specs.Rows.{row_end, row_values, end_of}
use Rattle.text.proofs.Parting.{begins_length}
use Rattle.sheet.specs.Form.{adj_head}
use Rattle.sheet.proofs.Forming.{heading_row, no_heading}
use Rattle.sheet.proofs.form.heading.Goals as goal

pub read-requires : goal.read-requires
read-requires c =
    (omega arith, omega (arith, begins_length adj_head c.args.listing.now (sym c.begins.ensures ∙ c.if-not-begins.false)), omega arith, omega (arith, c.told-x))

pub returns-then-not-begins : goal.returns-then-not-begins
unfolding end_of row_values
returns-then-not-begins c =
    let none = no_heading c.args.listing.now (sym c.begins.ensures ∙ c.if-not-begins.true) in record {
      end = rw none;
      values = rw none;
    }

pub returns : goal.returns
unfolding row_end
returns c =
    let row = heading_row c.args.listing.now (sym c.begins.ensures ∙ c.if-not-begins.false) in record {
      end = rw row c.read.ensures.end;
      values = rw row c.read.ensures.values;
    }
