-- `form::read` meets its contract. Assumes nothing.
use mathlib.Core.Path.{◌≡◌, sym, ◌∙◌, ap, subst}
use mathlib.Core.Bool.{false}
use mathlib.Core.List.{List}
use Rattle.std.specs.Prelude.{Some}
use Rattle.std.proofs.lemmas.Result.{err_from_is_err_and}
use Prim.Native.Nat.{ℕ, ◌+◌, ◌<◌}
use native.Mathlib.Omega.{arith}
use borrow.Author.Rules.{rules}
use lib.IntN.{ℤ, pos}
use lib.ListN.{get_or, take}
use lib.Seq.{get_or-take}
use mir.Syntax.{w64}
use mir.Val.{SFits, to_z, of_z}
use Rattle.exact.specs.Outside.{outside}
use Rattle.exact.proofs.Bound.{read}
use Rattle.condition.specs.Sound.{Number}
use Rattle.condition.proofs.Testing.{number_cast}
use Rattle.text.specs.Parts.{place_from}
use Rattle.text.specs.Lines.{LF}
use Rattle.text.proofs.Rowing.{told_some, told_none}
use Rattle.sheet.specs.Form.{heading_of}
use Rattle.sheet.proofs.Forming.{refused_by, given_by, none_refused, first_refused, second_refused, directions_number, conditions_number, headed}
use Rattle.sheet.proofs.form.read.Goals.{In_ok-start, Else-outside-2, then-outside-via-then-outside, then-outside-via-else-outside+then-outside-2}
use Rattle.sheet.proofs.form.read.Goals as goal

pub returns-in_err-start : goal.returns-in_err-start
returns-in_err-start c =
    let p = err_from_is_err_and c.from_residual.result c.from_residual.ensures.1 in let none = refused_by _ _ _ (sym c.ok_or.ensures.value ∙ c.in_err-start.was) in
    rw (p.1, p.2, none.1) (none_refused c.args.listing.now (told_none _ _ (sym c.heading.ensures.end ∙ none.0)))

-- ---- the two counts
module _ (c : In_ok-start) where
  abbrev listing : List ℕ
  listing = c.args.listing.now

  abbrev counts : List ℤ
  counts = c.heading.new.x

  told : (heading_of listing ≡ Some (take 2 counts)) × (c.in_ok-start.start ≡ place_from LF listing 4 + 1)
  told = told_some _ _ _ _ (sym c.heading.ensures.end ∙ given_by _ _ _ (sym c.ok_or.ensures.value ∙ c.in_ok-start.was)) c.heading.ensures.values

-- each is a number of the machine
cut : (k : ℕ) (counts : List ℤ) → k < 2 → SFits w64 (get_or counts k (pos 0)) → to_z w64 (of_z w64 (get_or counts k (pos 0))) ≡ get_or (take 2 counts) k (pos 0)
cut k counts l fit = read fit ∙ sym (get_or-take 2 counts k (pos 0) l)

pub returns-then-outside : goal.returns-then-outside
returns-then-outside c =
    let k = (goal.at.returns-then-outside c).In_ok-start in let xs = counts k in
    let m_is : to_z w64 (of_z w64 (get_or xs 0 (pos 0))) ≡ get_or (take 2 xs) 0 (pos 0) = cut 0 xs (omega arith) (search rules) in
    let n_is : to_z w64 (of_z w64 (get_or xs 1 (pos 0))) ≡ get_or (take 2 xs) 1 (pos 0) = cut 1 xs (omega arith) (search rules) in
    elim c.then-outside.branch [
      | then-outside-via-then-outside w ↦ first_refused (listing k) (take 2 xs) (told k).0 (ap (outside (pos 1) (pos 64)) (sym m_is) ∙ sym c.outside.ensures ∙ w.if-outside.true)
      | then-outside-via-else-outside+then-outside-2 w ↦
          second_refused (listing k) (take 2 xs) (told k).0 (ap (outside (pos 1) (pos 24)) (sym n_is) ∙ sym w.outside-else-outside.ensures ∙ w.if-outside-2.true)
    ]

-- ---- both are in range
module _ (c : Else-outside-2) where
  abbrev counted : In_ok-start
  counted = (goal.at.Else-outside-2 c).In_ok-start

  m_is : to_z w64 (of_z w64 (get_or (counts counted) 0 (pos 0))) ≡ get_or (take 2 (counts counted)) 0 (pos 0)
  m_is = cut 0 (counts counted) (omega arith) (search rules)

  n_is : to_z w64 (of_z w64 (get_or (counts counted) 1 (pos 0))) ≡ get_or (take 2 (counts counted)) 1 (pos 0)
  n_is = cut 1 (counts counted) (omega arith) (search rules)

  few_directions : outside (pos 1) (pos 64) (get_or (take 2 (counts counted)) 0 (pos 0)) ≡ false
  few_directions = ap (outside (pos 1) (pos 64)) (sym m_is) ∙ sym c.outside.ensures ∙ c.if-outside.false

  few_conditions : outside (pos 1) (pos 24) (get_or (take 2 (counts counted)) 1 (pos 0)) ≡ false
  few_conditions = ap (outside (pos 1) (pos 24)) (sym n_is) ∙ sym c.outside-else-outside.ensures ∙ c.if-outside-2.false

pub overflow_cast-m : goal.overflow_cast-m
overflow_cast-m c =
    let k = counted c in
    number_cast 64 (get_or (counts k) 0 (pos 0)) (subst (Number 64) (get_or-take 2 (counts k) 0 (pos 0) (omega arith)) (directions_number (listing k) (take 2 (counts k)) (told k).0 (few_directions c) (few_conditions c))) (omega arith)

pub overflow_cast-n : goal.overflow_cast-n
overflow_cast-n c =
    let k = counted c in
    number_cast 24 (get_or (counts k) 1 (pos 0)) (subst (Number 24) (get_or-take 2 (counts k) 1 (pos 0) (omega arith)) (conditions_number (listing k) (take 2 (counts k)) (told k).0 (few_directions c) (few_conditions c))) (omega arith)

pub lines-requires : goal.lines-requires
lines-requires c =
    let e = (goal.at.lines-requires c).Else-outside-2 in let k = counted e in
    rw (m_is e, n_is e) (headed (listing k) (take 2 (counts k)) (told k).0 (few_directions e) (few_conditions e) _ (told k).1)
