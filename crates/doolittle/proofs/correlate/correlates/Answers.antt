-- `correlate::correlates` meets its contract. Assumes nothing.
use Rattle.std.proofs.Common.{◌≡◌, sym, ◌∙◌, ap, subst, arith, rules, ℕ, ◌-◌, ◌≤◌, ◌<◌, ℤ, nat_abs, FitsSigned, w64, to_z, of_z, ◌+◌}
use Rattle.std.proofs.lemmas.Int.{to_z-of_z}
use Rattle.doolittle.specs.Table.{Table}
use Rattle.doolittle.specs.Solution.{K}
use Rattle.doolittle.specs.Inner.{Triangle, Solves, back_of, From}
use Rattle.doolittle.proofs.Correlating.{next_correlate, first_large, none_large, one_before}
use Rattle.doolittle.proofs.correlate.correlates.Goals as goal
use Rattle.doolittle.proofs.correlate.correlates.Goals.{After-magnitude}

pub correlate-x-requires : goal.correlate-x-requires
correlate-x-requires c =
    record {
      places = (omega arith, c.requires.room.0, omega (arith, c.requires.room.1));
      row = c.requires.rows (c.loop-j.j - 1) (omega arith);
      below = λ e a b. c.loop-j.invariant.0 e (omega arith) b;
    }

-- in a turn: the correlate, of whatever table the rows are
module _ (c : After-magnitude) where
  abbrev j : ℕ
  j = c.loop-j.j - 1

  abbrev x : ℤ
  x = c.correlate-x.result

  x_read : to_z w64 (of_z w64 x) ≡ x
  x_read = let f : FitsSigned w64 x = search rules in to_z-of_z w64 x f

  correlate_is : (t : Table) → t.n ≡ c.args.n → Triangle t c.args.rows.now → x ≡ K t j
  correlate_is t e r =
      c.correlate-x.ensures ∙ ap (back_of c.args.rows.now c.loop-j.k j) (sym e)
      ∙ next_correlate t c.args.rows.now r j c.loop-j.k (omega (arith, e)) (λ h a b. c.loop-j.invariant.1 t e r h (omega arith) (omega (arith, e)))

  -- the correlates of the rows after this one are within 10^8
  all_within : (t : Table) → t.n ≡ c.args.n → Triangle t c.args.rows.now → From c.loop-j.j t.n (λ h. nat_abs (K t h) ≤ 100000000)
  all_within t e r h a b = rw (c.loop-j.invariant.1 t e r h a (omega (arith, e))) at (c.loop-j.invariant.0 h a (omega (arith, e)))

pub returns-then-magnitude-gt100000000 : goal.returns-then-magnitude-gt100000000
returns-then-magnitude-gt100000000 c = λ t e r.
    let b = c.before in let left : c.loop-j.j ≡ j b + 1 = omega arith in (
      omega arith,
      subst (Solves t c.loop-j.k) left
          (record {
            within = omega (arith, e);
            large =
                first_large t c.loop-j.j (omega (arith, e)) (all_within b t e r) (j b) left
                (subst (λ (z : ℕ). 100000000 < z) (c.magnitude.ensures ∙ ap nat_abs (x_read b ∙ correlate_is b t e r)) c.if-magnitude-gt100000000.true);
            correlates = λ h a d. c.loop-j.invariant.1 t e r h a (omega (arith, e));
          }),
    )

pub loop-j-preserved : goal.loop-j-preserved
loop-j-preserved c =
    let b = c.before in let k = c.loop-j.k in let n = c.args.n in let z = to_z w64 (of_z w64 (x b)) in (
      one_before (λ h z. nat_abs z ≤ 100000000) k c.loop-j.j n z (omega arith) (omega (arith, c.requires.room.1)) c.loop-j.invariant.0
          (rw c.magnitude.ensures at c.if-magnitude-gt100000000.false),
      λ t e r.
          one_before (λ h z. z ≡ K t h) k c.loop-j.j n z (omega arith) (omega (arith, c.requires.room.1)) (c.loop-j.invariant.1 t e r)
          (x_read b ∙ correlate_is b t e r),
    )

pub returns : goal.returns
returns c = λ t e r.
    let z : c.loop-j.j ≡ 0 = omega arith in
    let within : From c.loop-j.j t.n (λ h. nat_abs (K t h) ≤ 100000000) =
    λ h a b. rw (c.loop-j.invariant.1 t e r h a (omega (arith, e))) at (c.loop-j.invariant.0 h a (omega (arith, e))) in
    record {
      within = omega arith;
      large = none_large t c.loop-j.j (omega arith) within z
          ∙ ap (λ (k : ℕ). t.n - k) z;
      correlates = λ h a d. c.loop-j.invariant.1 t e r h (omega arith) (omega (arith, e));
    }
