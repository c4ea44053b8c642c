-- `reduce::reduced` meets its contract. Assumes nothing.
use Rattle.std.proofs.Common.{◌∙◌, arith, rules, pos, FitsSigned, w64, to_z, of_z}
use Rattle.std.proofs.lemmas.Int.{to_z-of_z}
use lib.ListN.{length-set}
use lib.Seq.{get_or-set_same}
use Rattle.exact.proofs.Filling.{filled_more}
use Rattle.doolittle.specs.Table.{at}
use Rattle.doolittle.specs.Inner.{row_at}
use Rattle.doolittle.proofs.reduce.reduced.Invariants.{taken}
use Rattle.doolittle.proofs.reduce.reduced.Goals as goal

pub loop-k-preserved : goal.loop-k-preserved
loop-k-preserved c =
    let a = c.args in let k = c.loop-k.k in let own = row_at a.rows.now a.j in let constant = to_z w64 (of_z w64 c.with_above-constant.result) in
    let f : FitsSigned w64 (at a.row k) = search rules in let g : FitsSigned w64 c.with_above.result = search rules in
    filled_more (pos 0) (taken a.row a.rows.now a.j) a.j k c.put.new.row c.loop-k.next (to_z w64 (of_z w64 c.with_above.result))
    (rw c.put.ensures.stored (omega (arith, c.put.ensures.long, length-set own 24 constant))) c.loop-k.invariant
    (to_z-of_z w64 c.with_above.result g ∙ simp to_z-of_z at c.with_above.ensures)

pub returns-clause-holds : goal.returns-clause-holds
returns-clause-holds c =
    let a = c.args in let own = row_at a.rows.now a.j in let constant = to_z w64 (of_z w64 c.with_above-constant.result) in let v = c.loop-k.invariant in
    let f : FitsSigned w64 (at a.row 24) = search rules in let g : FitsSigned w64 c.with_above-constant.result = search rules in
    record {
      coefficients = λ k h e. v.done k h (omega arith);
      constant = v.rest 24 (omega arith)
          ∙ rw c.put.ensures.stored (get_or-set_same own 24 constant (pos 0) (omega (arith, c.put.ensures.long)) ∙ to_z-of_z w64 c.with_above-constant.result g
          ∙ simp to_z-of_z at c.with_above-constant.ensures);
    }
