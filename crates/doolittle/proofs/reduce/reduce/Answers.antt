-- `reduce::reduce` meets its contract. Assumes nothing.
use Rattle.std.proofs.Common.{◌≡◌, sym, ◌∙◌, subst, arith, rules, ℕ, ◌<◌, List, [], length, set, ℤ, FitsSigned, w64}
use Rattle.std.proofs.Math.Nat.{le_refl}
use Rattle.std.proofs.lemmas.Int.{to_z-of_z}
use lib.Seq.{get_or-set_other}
use Rattle.exact.proofs.Searching.{Failed, failed_more, first_at}
use Rattle.doolittle.specs.Table.{Table, at}
use Rattle.doolittle.specs.Lent.{table_in}
use Rattle.doolittle.specs.Solution.{D, L, weak}
use Rattle.doolittle.specs.Inner.{Holds, Kept, Rows, cell}
use Rattle.doolittle.proofs.Keeping.{row_put, kept_put, rows_kept}
use Rattle.doolittle.proofs.Reducing.{normal_within, above_within, row_reduced, row_weak, row_multiplied, rows_more}
use Rattle.doolittle.proofs.reduce.reduce.Goals as goal
use Rattle.doolittle.proofs.reduce.reduce.Goals.{After-is_weak}

pub reduced-row-requires-clause-own : goal.reduced-row-requires-clause-own
reduced-row-requires-clause-own c =
    let a = c.args in normal_within a.table.q.now a.table.a.now a.table.w.now c.args.table.sound c.loop-j.j c.normal_row-row.result (omega arith) c.normal_row-row.ensures

pub reduced-row-requires-clause-above : goal.reduced-row-requires-clause-above
reduced-row-requires-clause-above c =
    let a = c.args in let v = c.loop-j.invariant in above_within (table_in a.table) c.loop-j.j c.loop-j.rows v.2 (omega arith) v.1

-- the reduced row and its test
module _ (c : After-is_weak) where
  abbrev t : Table
  t = table_in c.args.table

  abbrev j : ℕ
  j = c.loop-j.j

  abbrev row : List ℤ
  row = c.reduced-row.result

  below : j < t.n
  below = omega arith

  row_is : Holds j t.n (D t j) (L t j) row
  row_is = row_reduced t j c.loop-j.rows c.loop-j.invariant.2 below c.normal_row-row.result row c.normal_row-row.ensures c.reduced-row.ensures.holds

  weak_is : c.is_weak.result ≡ weak t j
  weak_is =
      let f : FitsSigned w64 (at c.normal_row-row.result j) = search rules in
      c.is_weak.ensures.value
      ∙ row_weak t j row below row_is _ (to_z-of_z w64 (at c.normal_row-row.result j) f ∙ c.normal_row-row.ensures.coefficients j (le_refl j) below)

  -- the rows with the multipliers of this one, and with the row in its place
  abbrev tested : List (List ℤ)
  tested = c.is_weak.new.rows

  low : j < length tested
  low = omega (arith, below, c.is_weak.ensures.kept.shape.long)

  stored_kept : Kept j tested (set tested j row)
  stored_kept =
      let long : length row ≡ 25 = search rules in
      kept_put tested j row low c.is_weak.ensures.kept.shape j (le_refl j) long
      (λ k h. c.reduced-row.ensures.before k h ∙ sym (c.is_weak.ensures.kept.left j k h))

pub returns-then-is_weak : goal.returns-then-is_weak
returns-then-is_weak c =
    let b = c.before in let v = c.loop-j.invariant in (
      below b,
      first_at (t b).n (weak (t b)) (j b) (below b) v.1 (sym (weak_is b) ∙ c.if-is_weak.true),
      rows_kept (t b) c.is_weak.ensures.kept v.2,
    )

pub loop-j-preserved : goal.loop-j-preserved
loop-j-preserved c =
    let b = c.before in let v = c.loop-j.invariant in let i = j b in (
      (stored_kept b).shape,
      failed_more (weak (t b)) i v.1 (sym (weak_is b) ∙ c.if-is_weak.false),
      rows_more (t b) i (set (tested b) i (row b)) (rows_kept (t b) (stored_kept b) (rows_kept (t b) c.is_weak.ensures.kept v.2))
          (rw (row_put (tested b) i (row b) (low b)) (row_is b))
          (row_multiplied (t b) i (row b) (below b) (row_is b) (λ k. cell (set (tested b) i (row b)) k i)
          (λ k h l. rw (get_or-set_other (tested b) i k (row b) [] (λ e. omega arith)) (c.is_weak.ensures.multiplied c.if-is_weak.false k h l))),
    )

pub returns : goal.returns
returns c =
    let t = table_in c.args.table in let e : c.loop-j.j ≡ t.n = omega arith in record {
      all = subst (λ (n : ℕ). Rows t n c.loop-j.rows) e c.loop-j.invariant.2;
      sound = subst (Failed (weak t)) e c.loop-j.invariant.1;
    }
