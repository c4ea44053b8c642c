-- `correct::print_remainders` meets its contract. Assumes nothing.
use Rattle.std.proofs.Common.{◌≡◌, ◌≤◌, ◌∙◌, arith, ℤ, pos, nat_abs, FitsSigned, to_z, of_z, w64}
use Rattle.std.specs.Prelude.{◌+ℤ◌, ◌*ℤ◌}
use Rattle.std.proofs.lemmas.Int.{ints, to_z-of_z}
use Rattle.exact.proofs.Bound.{abs_mul}
use Rattle.exact.proofs.Filling.{tabulate_is}
use Rattle.doolittle.specs.Table.{at}
use Rattle.adjustment.proofs.Rows.{seen_size, added_fits, added_kept, put_more}
use Rattle.adjustment.proofs.correct.print_remainders.Goals as goal
use Rattle.adjustment.proofs.correct.print_remainders.Goals.{After-sum_seen}

-- the sum over condition j, and its misclosure, are within their bounds
module _ (c : After-sum_seen) where
  abbrev w : ℤ
  w = at c.args.table.w.now c.loop-j.j

  w_size : nat_abs w ≤ 1000000
  w_size = c.args.table.sound.w_most c.loop-j.j c.loop-j-test.true

  s_size : nat_abs c.sum_seen.result ≤ 7680000000
  s_size = rw c.sum_seen.ensures (seen_size c.args.table c.args.u.now c.requires.corrections.1 c.loop-j.j c.loop-j-test.true)

  abbrev scaled : ℤ
  scaled = pos 100000 *ℤ to_z w64 (of_z w64 c.sum_seen.result)

  scaled_is : scaled ≡ pos 100000 *ℤ c.sum_seen.result
  scaled_is = let f : FitsSigned w64 c.sum_seen.result = omega (arith, ints, s_size) in simp to_z-of_z

  scaled_size : nat_abs scaled ≤ 6144000000000000000
  scaled_size = rw scaled_is (omega (arith, s_size, abs_mul (pos 100000) c.sum_seen.result))

pub overflow_mul-printed : goal.overflow_mul-printed
overflow_mul-printed c = let b = (goal.at.overflow_mul-printed c).After-sum_seen in omega (arith, ints, scaled_size b)

pub overflow_add-printed : goal.overflow_add-printed
overflow_add-printed c = let b = (goal.at.overflow_add-printed c).After-sum_seen in added_fits (scaled b) (w b) (scaled_size b) (w_size b)

pub loop-j-preserved : goal.loop-j-preserved
loop-j-preserved c =
    let b = (goal.at.loop-j-preserved c).After-sum_seen in
    put_more _ c.loop-j.printed c.loop-j.j _ (omega (arith, c.loop-j.auto.printed, c.requires.long)) c.loop-j.invariant
    (added_kept (scaled b) (w b) (scaled_size b) (w_size b) ∙ (λ i. scaled_is b i +ℤ pos 10000000 *ℤ w b) ∙ (λ i. pos 100000 *ℤ c.sum_seen.ensures i +ℤ pos 10000000 *ℤ w b))

pub returns : goal.returns
returns c = tabulate_is (pos 0) _ _ _ (c.loop-j.auto.printed ∙ c.requires.long) (λ j l. c.loop-j.invariant j (omega arith))
