-- `reduce::normal_row` meets its contract. Assumes nothing.
use Rattle.std.proofs.Common.{◌≡◌, sym, ◌∙◌, subst, arith, rules, ℕ, length, replicate, pos, ◌*ℤ◌, FitsSigned, w64, to_z, of_z}
use Rattle.std.proofs.lemmas.Int.{ints, to_z-of_z}
use Rattle.exact.proofs.Bound.{abs_mul}
use lib.ListN.{length-replicate, get_or-replicate}
use lib.Seq.{get_or-set_same, get_or-set_other}
use Rattle.exact.proofs.Sum.{sum_none}
use Rattle.doolittle.specs.Table.{at}
use Rattle.doolittle.specs.Lent.{table_in}
use Rattle.doolittle.specs.Inner.{share}
use Rattle.doolittle.proofs.Reducing.{Formed, parts_within, formed_more, formed_all}
use Rattle.doolittle.proofs.reduce.normal_row.Goals as goal

pub loop-i-init : goal.loop-i-init
loop-i-init c =
    let s = c.args.table.sound in let t = table_in c.args.table in let j = c.args.j in let zeros = replicate 25 (pos 0) in
    let w = at c.args.table.w.now j in let x = to_z w64 (of_z w64 (pos 1000 *ℤ to_z w64 (of_z w64 w))) in
    let f : FitsSigned w64 w = search rules in
    let g : FitsSigned w64 (pos 1000 *ℤ w) = omega (arith, ints, abs_mul (pos 1000) w, s.w_most j c.requires) in
    record {
      coefficients = λ k h l.
          get_or-set_other zeros 24 k x (pos 0) (λ e. omega (arith, s.n_most)) ∙ get_or-replicate 25 k (pos 0) (pos 0) (omega (arith, s.n_most))
          ∙ sym (sum_none (share t j k));
      constant = get_or-set_same zeros 24 x (pos 0) (omega (arith, length-replicate 25 (pos 0))) ∙ simp to_z-of_z;
    }

pub add_direction-requires-clause-entries : goal.add_direction-requires-clause-entries
add_direction-requires-clause-entries c =
    let a = c.args in let v = c.loop-i.invariant in
    λ k h b. rw (v.coefficients k h b) (parts_within a.table.q.now a.table.a.now a.table.w.now c.args.table.sound a.j k c.loop-i.i c.requires b (omega arith))

pub loop-i-preserved : goal.loop-i-preserved
loop-i-preserved c =
    let a = c.args in let v = c.loop-i.invariant in
    formed_more (table_in a.table) a.j c.loop-i.i c.loop-i.row _ v c.add_direction.ensures

pub returns : goal.returns
returns c =
    let a = c.args in let t = table_in a.table in let e : c.loop-i.i ≡ length a.table.q.now = omega arith in
    formed_all t a.j c.loop-i.row (subst (λ (i : ℕ). Formed t a.j i c.loop-i.row) e c.loop-i.invariant)
