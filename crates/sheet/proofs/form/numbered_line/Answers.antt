-- `form::numbered_line` meets its contract. Assumes nothing.
use mathlib.Core.Path.{◌≡◌, sym, ◌∙◌}
use Rattle.std.specs.Prelude.{Some}
use Prim.Native.Nat.{◌+◌, ◌≤◌}
use native.Mathlib.Omega.{arith}
use borrow.Author.Rules.{rules}
use lib.IntN.{pos, nat_abs}
use lib.ListN.{get_or, take}
use lib.Seq.{get_or-take}
use mir.Syntax.{w64}
use mir.Val.{SFits}
use Rattle.exact.proofs.Bound.{fits_within}
use Rattle.exact.proofs.Sameness.{bits_same, bits_other}
use Rattle.text.specs.Parts.{place_from}
use Rattle.text.specs.Lines.{LF}
use Rattle.text.specs.Rows.{lettered_within}
use Rattle.text.proofs.Lettering.{behind_told, no_behind_told}
use Rattle.sheet.proofs.Forming.{line_none, line_other, line_same}
use Rattle.sheet.proofs.form.numbered_line.Goals.{In_ok-next}
use Rattle.sheet.proofs.form.numbered_line.Goals as goal

pub returns-in_err-next : goal.returns-in_err-next
returns-in_err-next c =
    let a = c.args in
    let t = line_none a.number (place_from LF a.listing.now a.start + 1) _ (take a.count c.read_behind.new.x)
    (no_behind_told 18 a.listing.now a.start a.letter a.count (sym c.read_behind.ensures.end ∙ c.in_err-next.was)) in
    rw c.from_residual.ensures (record { end = t.0; values = t.1; long = c.read_behind.ensures.long })

-- the line's numbers, where it has them
module _ (c : In_ok-next) where
  told : let a = c.args in (lettered_within 18 a.listing.now a.start a.letter a.count ≡ Some (take a.count c.read_behind.new.x)) × (c.in_ok-next.next ≡ place_from LF a.listing.now a.start + 1)
  told =
      let a = c.args in
      behind_told 18 a.listing.now a.start a.letter a.count c.in_ok-next.next (take a.count c.read_behind.new.x) (sym c.read_behind.ensures.end ∙ c.in_ok-next.was) c.read_behind.ensures.values

  -- the first of them
  first_is : get_or (take c.args.count c.read_behind.new.x) 0 (pos 0) ≡ get_or c.read_behind.new.x 0 (pos 0)
  first_is = get_or-take c.args.count c.read_behind.new.x 0 (pos 0) (omega arith)

pub returns-then-x-number : goal.returns-then-x-number
returns-then-x-number c =
    let a = c.args in let b = (goal.at.returns-then-x-number c).In_ok-next in
    let t = line_other a.number (place_from LF a.listing.now a.start + 1) _ (take a.count c.read_behind.new.x) (told b).0 (rw (first_is b) (bits_other _ _ c.if-x-number.true)) in
    record { end = t.0; values = t.1; long = c.read_behind.ensures.long }

pub returns : goal.returns
returns c =
    let a = c.args in let b = (goal.at.returns c).In_ok-next in
    let fit : SFits w64 (get_or c.read_behind.new.x 0 (pos 0)) = search rules in let number-most : nat_abs (pos a.number) ≤ 64 = omega arith in
    let t = line_same a.number (place_from LF a.listing.now a.start + 1) _ (take a.count c.read_behind.new.x) _ (told b).0 (rw (first_is b) (bits_same fit (fits_within (pos a.number) number-most tt) c.if-x-number.false)) (told b).1 in
    record { end = t.0; values = t.1; long = c.read_behind.ensures.long }
