-- `answer::direction_of` meets its contract: at most 16 pairs, g within two circles and e within one, so t + P fits. Assumes nothing.
use Rattle.std.proofs.Common.{◌≡◌, sym, ◌∙◌, ap, List, ℕ, ℤ, pos, ◌+ℤ◌, ◌*ℤ◌, to_z, of_z, w64, FitsSigned}
use Rattle.exact.specs.Circle.{C, modulo}
use Rattle.exact.proofs.Bound.{Bounded, bounded, bounds, fits_in, read}
use Rattle.station.specs.Means.{base, lowest, P, sum_of_e, direction}
use Rattle.station.proofs.Figures.{told, twice_above, g_size, g_read}
use Rattle.station.proofs.Positions.{P_none, P_above, P_test, P_size, sum_of_e_size}
use Rattle.station.proofs.answer.direction_of.Goals as goal
use Rattle.station.proofs.answer.direction_of.Goals.{After-sum_from_base}

-- P*b, t, t + P and 2P fit
module _ (n r : List ℤ) (j : ℕ) where
  abbrev p : ℤ
  p = P n j

  abbrev b : ℤ
  b = base n r j

  abbrev es : ℤ
  es = sum_of_e n r j

  abbrev sizes : Bounded p × Bounded b × Bounded es
  sizes = (bounded p (P_size n j), bounded b (g_size r _ j), bounded es (sum_of_e_size n r j))

  product_fits : FitsSigned w64 (p *ℤ b)
  product_fits = let z = sizes in fits_in (search bounds) tt

  t_fits : FitsSigned w64 (p *ℤ b +ℤ es)
  t_fits = let z = sizes in fits_in (search bounds) tt

  with_p_fits : FitsSigned w64 (p *ℤ b +ℤ es +ℤ p)
  with_p_fits = let z = sizes in fits_in (search bounds depth 8) tt

  twice_fits : FitsSigned w64 (pos 2 *ℤ p)
  twice_fits = let z = sizes in fits_in (search bounds) tt

pub returns-then-p-eq0 : goal.returns-then-p-eq0
unfolding direction
returns-then-p-eq0 c =
    let none : P c.args.table.now.count c.args.object ≡ pos 0 = sym (told c.pairs_of-p.type_inv c.pairs_of-p.ensures) ∙ ap (to_z w64) c.if-p-eq0.true in rw none

pub returns-in_default : goal.returns-in_default
unfolding direction
returns-in_default c = rw (P_none _ _ c.in_default.ensures)

-- what the machine reads of P, b and the sum of e
module _ (c : After-sum_from_base) where
  abbrev n : List ℤ
  n = c.args.table.now.count

  abbrev r : List ℤ
  r = c.args.table.now.sums

  abbrev j : ℕ
  j = c.args.object

  p_read : to_z w64 (of_z w64 c.pairs_of-p.result) ≡ p n r j
  p_read = told c.pairs_of-p.type_inv c.pairs_of-p.ensures

  b_read : to_z w64 (of_z w64 c.in-Some.b) ≡ b n r j
  b_read = g_read r (lowest n j) j c.in-Some.ensures.1

  es_read : to_z w64 (of_z w64 c.sum_from_base.result) ≡ es n r j
  es_read = told c.sum_from_base.type_inv c.sum_from_base.ensures

pub overflow_mul-t : goal.overflow_mul-t
overflow_mul-t c =
    let a = c.args in let t = a.table.now in
    rw (told c.pairs_of-p.type_inv c.pairs_of-p.ensures, g_read t.sums (lowest t.count a.object) a.object c.in-Some.ensures.1) (product_fits t.count t.sums a.object)

pub overflow_add-t : goal.overflow_add-t
overflow_add-t c = rw (p_read c, b_read c, read (product_fits (n c) (r c) (j c)), es_read c) (t_fits (n c) (r c) (j c))

pub overflow_add-t-2 : goal.overflow_add-t-2
overflow_add-t-2 c = rw (p_read c, b_read c, read (product_fits (n c) (r c) (j c)), es_read c, read (t_fits (n c) (r c) (j c))) (with_p_fits (n c) (r c) (j c))

pub overflow_mul-p : goal.overflow_mul-p
overflow_mul-p c = rw (p_read c) (twice_fits (n c) (r c) (j c))

pub floor-requires : goal.floor-requires
floor-requires c = rw (p_read c, read (twice_fits (n c) (r c) (j c))) (twice_above (P (n c) (j c)) (P_above (n c) (j c) c.in-Some.ensures.0))

pub returns : goal.returns
unfolding direction
returns c =
    let d = (goal.at.returns c).After-sum_from_base in
    let f = rw (p_read d, b_read d, read (product_fits (n d) (r d) (j d)), es_read d, read (t_fits (n d) (r d) (j d)), read (with_p_fits (n d) (r d) (j d)), read (twice_fits (n d) (r d) (j d))) at c.floor.ensures in
    rw (P_test (n d) (j d) c.in-Some.ensures.0) (told c.modulo.type_inv (c.modulo.ensures ∙ ap (λ (z : ℤ). modulo z C) (told c.floor.type_inv f)))
