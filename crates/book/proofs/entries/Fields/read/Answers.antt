-- `book::entries::Fields::read` meets its contract: what has been read is what the lines so far say. Assumes nothing.
use mathlib.Core.Path.{◌≡◌, sym, ◌∙◌, ap, subst}
use mathlib.Core.List.{List}
use Prim.Native.Nat.{ℕ, ◌+◌}
use native.Mathlib.Omega.{arith}
use borrow.Author.Rules.{rules}
use lib.IntN.{ℤ}
use lib.ListN.{take}
use Rattle.std.specs.Prelude.{Some, Option, Result}
use Rattle.std.specs.Option.{ok_or}
use Rattle.std.proofs.lemmas.Result.{err_from_is_err_and}
use Rattle.reply.specs.declared.Refusal.{Refusal}
use Rattle.reply.specs.declared.Refusal.TheVariants.{Malformed}
use Rattle.book.specs.Inner.{EnteredAs}
use Rattle.text.specs.Parts.{place_from}
use Rattle.text.specs.Lines.{LF, line_no}
use Rattle.text.specs.Rows.{behind_at}
use Rattle.text.proofs.Parting.{place_after}
use Rattle.text.proofs.Lettering.{behind_told, no_behind_told}
use Rattle.book.specs.Lines.{letter_S, sighting_of}
use Rattle.book.specs.declared.entries.Fields.{Fields}
use Rattle.book.proofs.Entering.{Begun, begun_none, no_sighting, sighting, all_begun, Filled, filled_none, filled_more, entered}
use Rattle.book.proofs.Refusing.{broken, too_many}
use Rattle.book.proofs.entries.Fields.read.Goals as goal
use Rattle.book.proofs.entries.Fields.read.Goals.{In_ok-start}

pub loop-start-init : goal.loop-start-init
loop-start-init c = (begun_none c.args.file.now, filled_none c.args.file.now c.args.self.now (search rules) (search rules) (search rules) (search rules))

pub read_behind-requires : goal.read_behind-requires
read_behind-requires c = (omega arith, c.loop-start.invariant.0.reached.within, omega arith, omega arith, omega arith)

-- ---- a line that is no sighting
pub overflow_add-malformed : goal.overflow_add-malformed
overflow_add-malformed c = let b = c.loop-start.invariant.0.reached in omega (arith, b.few, b.within)

pub returns-in_err-start : goal.returns-in_err-start
returns-in_err-start c =
    let file = c.args.file.now in let e = c.in_err-start.ensures in
    let p = err_from_is_err_and c.from_residual.result c.from_residual.ensures.1 in
    let why = Malformed (c.loop-start.n + 1) in
    rw (p.1, p.2)
    (subst (λ (r : Result ℕ Refusal). EnteredAs file r c.loop-start.self) (sym (e.value ∙ ap (λ (line : Option ℕ). ok_or line why) e.ok_part))
    (broken file c.requires why
    (no_sighting file c.loop-start.invariant.0 c.loop-start-test.true (no_behind_told 11 _ _ _ _ (sym c.read_behind.ensures.end ∙ e.ok_part)))))

-- ---- a sighting
module _ (c : In_ok-start) where
  abbrev file : List ℕ
  file = c.args.file.now

  abbrev x : List ℤ
  x = c.read_behind.new.x

  told : (behind_at file c.loop-start.start letter_S 4 ≡ Some (take 4 x)) × (c.in_ok-start.start ≡ place_from LF file c.loop-start.start + 1)
  told = behind_told 11 file c.loop-start.start letter_S 4 c.in_ok-start.start (take 4 x) (sym c.read_behind.ensures.end ∙ c.in_ok-start.ensures.ok_part) c.read_behind.ensures.values

  on : (sighting_of (line_no file c.loop-start.n) ≡ Some (take 4 x)) × Begun file (place_from LF file c.loop-start.start + 1) (c.loop-start.n + 1)
  on = sighting file c.loop-start.invariant.0 (take 4 x) told.0

pub loop-start-smaller : goal.loop-start-smaller
loop-start-smaller c =
    let turn = (goal.at.loop-start-smaller c).In_ok-start in
    omega (arith, (told turn).1, (on turn).1.reached.within, place_after LF (file turn) c.loop-start.start)

pub loop-start-preserved : goal.loop-start-preserved
loop-start-preserved c =
    let turn = (goal.at.loop-start-preserved c).In_ok-start in let n = c.loop-start.n in (
      subst (λ (p : ℕ). Begun (file turn) p (n + 1)) (sym (told turn).1) (on turn).1,
      subst (λ (fields : Fields). Filled (file turn) (n + 1) fields) (sym c.enter.ensures) (filled_more (file turn) c.loop-start.invariant.1 (x turn) (on turn).0),
    )

-- ---- the end of the book
pub returns-then-n-gt-MOST : goal.returns-then-n-gt-MOST
returns-then-n-gt-MOST c =
    let all = all_begun c.args.file.now c.loop-start.invariant.0 c.loop-start-test.false in
    too_many c.args.file.now c.requires all.0 (omega (arith, all.1))

pub returns : goal.returns
returns c =
    let v = c.loop-start.invariant in
    entered c.args.file.now c.requires v.0 c.loop-start-test.false c.if-n-gt-MOST.false v.1
