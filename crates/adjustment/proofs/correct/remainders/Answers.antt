-- `correct::remainders` meets its contract. Assumes nothing.
use Rattle.std.proofs.Common.{◌≡◌, ◌≤◌, sym, ◌∙◌, arith, ℤ, pos, nat_abs, to_z, of_z, w64}
use Rattle.std.specs.Prelude.{◌+ℤ◌, ◌*ℤ◌}
use Rattle.std.proofs.lemmas.Grind.{common_steps}
use Rattle.exact.proofs.Searching.{failed_more, first_at, first_none}
use Rattle.doolittle.specs.Table.{at}
use Rattle.doolittle.specs.Lent.{table_in}
use Rattle.adjustment.specs.Inner.{closing}
use Rattle.adjustment.proofs.Rows.{seen_size, added_fits, added_kept, put_more}
use Rattle.adjustment.proofs.correct.remainders.Goals as goal
use Rattle.adjustment.proofs.correct.remainders.Goals.{After-sum_seen}

-- the sum over condition j, and its misclosure, are within their bounds
module _ (c : After-sum_seen) where
  abbrev w : ℤ
  w = at c.args.table.w.now c.loop-j.j

  w_size : nat_abs w ≤ 1000000
  w_size = c.args.table.sound.w_most c.loop-j.j c.loop-j-test.true

  s_size : nat_abs c.sum_seen.result ≤ 6144000000000000000
  s_size = rw c.sum_seen.ensures (seen_size c.args.table c.args.v.now c.requires.corrections.1 c.loop-j.j c.loop-j-test.true)

  -- the remainder is R of the rules, by the corrections V
  remainder_is : to_z w64 (of_z w64 (to_z w64 (of_z w64 c.sum_seen.result) +ℤ to_z w64 (of_z w64 (pos 10000000 *ℤ to_z w64 (of_z w64 w)))))
      ≡ closing (table_in c.args.table) (at c.args.v.now) c.loop-j.j
  remainder_is = added_kept c.sum_seen.result w s_size w_size ∙ (λ i. c.sum_seen.ensures i +ℤ pos 10000000 *ℤ w)

pub overflow_add-z : goal.overflow_add-z
overflow_add-z c = let b = (goal.at.overflow_add-z c).After-sum_seen in added_fits c.sum_seen.result (w b) (s_size b) (w_size b)

pub returns-then-magnitude-gt50000000-clause-value : goal.returns-then-magnitude-gt50000000-clause-value
returns-then-magnitude-gt50000000-clause-value c =
    let e = remainder_is (goal.at.returns-then-magnitude-gt50000000-clause-value c).After-sum_seen in
    sym (first_at _ _ c.loop-j.j c.loop-j-test.true c.loop-j.invariant.within (grind (arith, common_steps)))

pub loop-j-preserved : goal.loop-j-preserved
loop-j-preserved c =
    let e = remainder_is (goal.at.loop-j-preserved c).After-sum_seen in let h = c.loop-j.invariant in record {
      within = failed_more _ _ h.within (grind (arith, common_steps));
      stored = put_more _ c.loop-j.r c.loop-j.j _ (omega (arith, c.loop-j.auto.r, c.requires.room)) h.stored e;
    }

pub returns-clause-value : goal.returns-clause-value
returns-clause-value c = sym (first_none _ _ (λ h l. c.loop-j.invariant.within h (omega arith)))
