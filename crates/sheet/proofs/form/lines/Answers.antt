-- `form::lines` meets its contract: the lines read so far are those due, and their numbers stand in their places. Assumes nothing.
use mathlib.Core.Path.{◌≡◌, refl, sym, ◌∙◌, subst}
use mathlib.Core.List.{List}
use Rattle.std.specs.Prelude.{Some}
use Rattle.std.proofs.lemmas.Result.{err_from_is_err_and}
use Prim.Native.Nat.{ℕ, ◌+◌, ◌*◌, ◌-◌}
use native.Mathlib.Omega.{arith}
use lib.IntN.{ℤ}
use lib.ListN.{length, take}
use borrow.Rule.Slice.PartMut.{mid_of, put_mid, same_len_mid, mid_len}
use Rattle.text.specs.Parts.{place_from}
use Rattle.text.specs.Lines.{LF}
use Rattle.text.proofs.Rowing.{told_some, told_none}
use Rattle.sheet.specs.Form.{fields_due}
use Rattle.sheet.specs.Inner.{due_from}
use Rattle.sheet.proofs.Forming.{refused_by, given_by, Begun, begun_none, begun_put, fields_most, broken, goes_on_lem, all_read}
use Rattle.sheet.proofs.form.lines.Goals.{In_ok-next}
use Rattle.sheet.proofs.form.lines.Goals as goal

pub loop-i-init : goal.loop-i-init
loop-i-init c = (c.told-x, λ h. begun_none h c.args.x.now c.told-x)

pub due_line-requires : goal.due_line-requires
due_line-requires c =
    let v = c.loop-i.invariant in let h = c.requires in
    let part = mid_len (4 * c.loop-i.i) 352 c.loop-i.x (omega (arith, v.0)) in
    ((v.1 h).reached.within, omega (arith, part, h.m_most, h.n_most), h.m_most, omega (arith, h.n_most, c.loop-i-test.true))

pub returns-in_err-next : goal.returns-in_err-next
returns-in_err-next c =
    let h = c.requires in let p = err_from_is_err_and c.from_residual.result c.from_residual.ensures.1 in
    let none = refused_by _ _ _ (sym c.ok_or.ensures.value ∙ c.in_err-next.was) in
    rw (p.1, p.2, none.1) (broken h (c.loop-i.invariant.1 h) c.loop-i-test.true (told_none _ _ (sym c.due_line.ensures.end ∙ none.0)))

-- ---- a line that is the one due
module _ (c : In_ok-next) where
  -- the part of the list that the line was read into
  abbrev filled : List ℤ
  filled = c.due_line.new.x

  abbrev place : ℕ
  place = 4 * c.loop-i.i

  abbrev room : ℕ
  room = 352 - place

  part_long : length (mid_of place room c.loop-i.x) ≡ room
  part_long = mid_len place 352 c.loop-i.x (omega (arith, c.loop-i.invariant.0))

  filled_long : length filled ≡ length (mid_of place room c.loop-i.x)
  filled_long = c.due_line.ensures.long

  numbers : (due_from c.args.listing.now c.loop-i.next c.args.m c.loop-i.i ≡ Some (take (fields_due c.args.m c.loop-i.i) filled))
      × (c.in_ok-next.next ≡ place_from LF c.args.listing.now c.loop-i.next + 1)
  numbers = told_some _ _ _ _ (sym c.due_line.ensures.end ∙ given_by _ _ _ (sym c.ok_or.ensures.value ∙ c.in_ok-next.was)) c.due_line.ensures.values

pub loop-i-preserved : goal.loop-i-preserved
loop-i-preserved c =
    let b = (goal.at.loop-i-preserved c).In_ok-next in let v = c.loop-i.invariant in let m = c.args.m in let i = c.loop-i.i in (
      same_len_mid (place b) (room b) c.loop-i.x (filled b) (filled_long b) ∙ v.0,
      λ h. subst (λ (p : ℕ). Begun h p (i + 1) (put_mid (place b) (room b) c.loop-i.x (filled b))) (sym (numbers b).1)
          (begun_put h (v.1 h) (take (fields_due m i) (filled b)) (filled b) (place b) (room b) refl (omega (arith, v.0, h.m_most, h.n_most, c.loop-i-test.true)) (filled_long b) (numbers b).0 refl
          (omega (arith, fields_most m i, filled_long b, part_long b, v.0, h.m_most, h.n_most, c.loop-i-test.true))),
    )

pub returns-then-next-listing : goal.returns-then-next-listing
returns-then-next-listing c =
    let v = c.loop-i.invariant in goes_on_lem c.requires (v.1 c.requires) (omega arith) c.if-next-listing.true

pub returns : goal.returns
returns c =
    let v = c.loop-i.invariant in all_read c.requires (v.1 c.requires) (omega arith) c.if-next-listing.false
