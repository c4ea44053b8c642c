-- `checks::faces_fault` meets its contract: the machine's tests against 1 are the rule's. Assumes nothing.
use Rattle.std.proofs.Common.{◌≡◌, ◌∙◌, ap, sym, ◌<◌, ◌^◌, ℤ, pos, eqb, not, ◌&&◌, of_z, w64}
use borrow.Author.Tests.{eq-eqb, ne_eqb}
use lib.Signed.{mag}
use Rattle.exact.specs.Same.{same}
use Rattle.exact.proofs.Bound.{fits_of_mag, numeral_fits}
use Rattle.exact.proofs.Sameness.{bits_test}
use Rattle.station.specs.Table.{entry}
use Rattle.station.specs.Means.{faces_fault}
use Rattle.station.proofs.checks.faces_fault.Goals as goal
use Rattle.station.proofs.checks.faces_fault.Goals.{then-left_count-eq1, else-left_count-eq1}

-- the machine's test of a result, which is v, against 1
is_one : {x v : ℤ} → mag x < 2 ^ 63 → x ≡ v → eqb (of_z w64 x) 1 ≡ same v (pos 1)
is_one {x} ok p = bits_test (fits_of_mag x ok) (numeral_fits 1 tt) ∙ ap (λ (z : ℤ). same z (pos 1)) p

pub returns-after-left_count-eq1 : goal.returns-after-left_count-eq1
unfolding faces_fault
returns-after-left_count-eq1 c = rw (sym c.seen.ensures ∙ c.if-seen.true) (ap not both)
  where
    both : c.if-left_count-eq1.result ≡ (same (entry c.args.table.now.count 0 c.args.at.position c.args.at.object) (pos 1) && same (entry c.args.table.now.count 1 c.args.at.position c.args.at.object) (pos 1))
    both = elim c.if-left_count-eq1.branch [
      | then-left_count-eq1 w ↦ rw (← is_one c.left_count.type_inv c.left_count.ensures, eq-eqb (of_z w64 c.left_count.result) 1 w.if-left_count-eq1.true) (w.result-is ∙ is_one w.right_count.type_inv w.right_count.ensures)
      | else-left_count-eq1 w ↦ rw (← is_one c.left_count.type_inv c.left_count.ensures, ne_eqb (of_z w64 c.left_count.result) 1 w.if-left_count-eq1.false) (w.result-is ∙ ne_eqb (of_z w64 c.left_count.result) 1 w.if-left_count-eq1.false)
    ]
