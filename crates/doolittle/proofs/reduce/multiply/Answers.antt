-- `reduce::multiply` meets its contract. Assumes nothing.
use Rattle.std.proofs.Common.{◌≡◌, sym, ◌∙◌, ap, subst, arith, rules, suc, ◌<◌, length, set, pos, nat_abs, FitsSigned, w64, to_z, of_z}
use Rattle.std.proofs.lemmas.Int.{to_z-of_z}
use borrow.Author.Tests.{lt-ltb, le-ltb}
use lib.ListN.{length-set}
use lib.Seq.{get_or-set_other}
use Rattle.exact.proofs.Searching.{Failed, failed_more, some_at, some_none, from_test}
use Rattle.doolittle.specs.Table.{at}
use Rattle.doolittle.specs.Inner.{row_at}
use Rattle.doolittle.proofs.Keeping.{kept_put, kept_then, column_more}
use Rattle.doolittle.proofs.reduce.multiply.Invariants.{factor, large, test}
use Rattle.doolittle.proofs.reduce.multiply.Goals as goal

pub returns-then-magnitude-gt1000000000-clause-value : goal.returns-then-magnitude-gt1000000000-clause-value
returns-then-magnitude-gt1000000000-clause-value c =
    let row = c.args.row in let j = c.args.j in let k = c.loop-k.k in
    let f : FitsSigned w64 (at row k) = search rules in let g : FitsSigned w64 (at row j) = search rules in
    let h : FitsSigned w64 c.by_pivot-m.result = search rules in
    let m : c.by_pivot-m.result ≡ factor row j k = simp to_z-of_z at c.by_pivot-m.ensures in
    let size : c.magnitude.result ≡ nat_abs (factor row j k) = (simp to_z-of_z at c.magnitude.ensures) ∙ ap nat_abs m in
    sym (some_at c.args.n (test row j) k (omega arith) c.loop-k.invariant.0
    (from_test (suc j) k (large row j) (omega arith) ∙ lt-ltb 1000000000 _ (rw size at c.if-magnitude-gt1000000000.true)))

pub loop-k-preserved : goal.loop-k-preserved
loop-k-preserved c =
    let row = c.args.row in let j = c.args.j in let k = c.loop-k.k in let v = c.loop-k.invariant in
    let f : FitsSigned w64 (at row k) = search rules in let g : FitsSigned w64 (at row j) = search rules in
    let h : FitsSigned w64 c.by_pivot-m.result = search rules in
    let is : c.by_pivot-m.result ≡ factor row j k = simp to_z-of_z at c.by_pivot-m.ensures in
    let size : c.magnitude.result ≡ nat_abs (factor row j k) = (simp to_z-of_z at c.magnitude.ensures) ∙ ap nat_abs is in
    let m = to_z w64 (of_z w64 c.by_pivot-m.result) in let old = row_at c.loop-k.rows k in let low : k < length c.loop-k.rows = omega (arith, v.1.long) in (
      failed_more (test row j) k v.0
          (from_test (suc j) k (large row j) (omega arith) ∙ le-ltb 1000000000 _ (rw size at c.if-magnitude-gt1000000000.false)),
      rw c.put.ensures.stored
          (kept_then v.1
          (kept_put c.loop-k.rows k (set old j m) low v.1.shape j (omega arith) (length-set old j m ∙ c.put.ensures.long)
          (λ i l. get_or-set_other old j i m (pos 0) (λ e. omega arith)))),
      rw c.put.ensures.stored
          (column_more c.loop-k.rows j k (factor row j) m (omega (arith, c.put.ensures.long)) low v.2 (to_z-of_z w64 c.by_pivot-m.result h ∙ is)),
    )

pub returns-clause-value : goal.returns-clause-value
returns-clause-value c =
    let row = c.args.row in let j = c.args.j in let e : c.loop-k.k ≡ c.args.n = omega arith in
    sym (some_none c.args.n (test row j) (subst (Failed (test row j)) e c.loop-k.invariant.0))
