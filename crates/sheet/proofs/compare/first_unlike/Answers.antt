-- `compare::first_unlike` meets its contract: the lines before i have the numbers of the lists. Assumes nothing.
use mathlib.Core.Path.{◌≡◌, sym, subst}
use mathlib.Core.Bool.{Bool, true, false, ◌||◌}
use native.Mathlib.Omega.{arith}
use lib.IntN.{ℤ}
use mir.Syntax.{w64}
use mir.Val.{SFits, of_z}
use borrow.Author.Rules.{rules}
use Rattle.exact.proofs.Searching.{Failed, failed_more, first_at, first_none}
use Rattle.std.proofs.lemmas.Bool.{or_right}
use Rattle.exact.proofs.Sameness.{bits_same, bits_other}
use Rattle.sheet.specs.Check.{unlike}
use Rattle.sheet.specs.Inner.{pair_unlike}
use Rattle.sheet.proofs.compare.first_unlike.Goals.{then-x-here-via-then-x-here, then-x-here-via-else-x-here+then-x-here-2}
use Rattle.sheet.proofs.compare.first_unlike.Goals as goal

-- what the machine's comparisons of a line's two numbers tell of its test
first_other : (a b : ℤ) (t : Bool) → (of_z w64 a ≡ of_z w64 b → ⊥) → (unlike a b || t) ≡ true
first_other a b t n = rw (bits_other a b n)

second_other : (a b c d : ℤ) → (of_z w64 c ≡ of_z w64 d → ⊥) → (unlike a b || unlike c d) ≡ true
second_other a b c d n = or_right (unlike a b) (unlike c d) (rw (bits_other c d n))

both_alike : {a b c d : ℤ} → SFits w64 a → SFits w64 b → SFits w64 c → SFits w64 d → of_z w64 a ≡ of_z w64 b → of_z w64 c ≡ of_z w64 d → (unlike a b || unlike c d) ≡ false
both_alike fa fb fc fd e f = rw (bits_same fa fb e, bits_same fc fd f)

pub returns-then-x-here : goal.returns-then-x-here
returns-then-x-here c =
    let a = c.args in
    sym (first_at a.count (pair_unlike a.x.now a.from a.a.now a.b.now) c.loop-i.i c.loop-i-test.true c.loop-i.invariant
    (elim c.then-x-here.branch [
      | then-x-here-via-then-x-here w ↦ first_other _ _ _ w.if-x-here.true
      | then-x-here-via-else-x-here+then-x-here-2 w ↦ second_other _ _ _ _ w.if-x-here-2.true
    ]))

pub loop-i-preserved : goal.loop-i-preserved
loop-i-preserved c =
    let a = c.args in
    failed_more (pair_unlike a.x.now a.from a.a.now a.b.now) c.loop-i.i c.loop-i.invariant
    (both_alike (search rules) (search rules) (search rules) (search rules) c.if-x-here.false c.if-x-here-2.false)

pub returns : goal.returns
returns c =
    let a = c.args in let test = pair_unlike a.x.now a.from a.a.now a.b.now in let e : c.loop-i.i ≡ a.count = omega arith in
    sym (first_none a.count test (subst (Failed test) e c.loop-i.invariant))
