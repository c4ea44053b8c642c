-- What the mean error is. Assumes nothing.
--   mean_error_lem               e*e*2,520*n <= S < (e + 1)*(e + 1)*2,520*n, and e is the only number with this and the largest with the first
--   mean_found               a number that has both, by computation, is the mean error
--   one_mean                 two numbers that are the mean error of one S and n are equal
--   mean_0, only_mean_0      it is 0 where S is below 2,520*n, and nowhere else
--   lists_mean_error         all this of lists that are accepted
use mathlib.Core.Path.{◌≡◌, sym, ap, subst}
use mathlib.Core.List.{List}
use Prim.Native.Nat.{ℕ, ◌+◌, ◌*◌, ◌<◌, zero-le}
use native.Mathlib.Nat.{one-mul, zero-mul}
use native.Mathlib.Omega.{arith}
use lib.Dec.{T, leb, ltb, le→leb, leb→le, lt→ltb, ltb→lt}
use lib.ListN.{length}
use lib.IntN.{ℤ, pos, negsuc, ◌+ℤ◌}
use lib.Signed.{◌≤ℤ◌, ◌<ℤ◌}
use Rattle.doolittle.specs.Table.{at}
use Rattle.precision.specs.Errors.{root, mean_error, S_of, errors_of}
use Rattle.precision.specs.Promise.{errors_reply, square, MeanError}
use Rattle.precision.proofs.Squaring.{S_from_0}
use Rattle.precision.proofs.Admitting.{admitted}
use Rattle.precision.proofs.Rooting.{root_within, root_above, root_only, root_largest}
use Rattle.std.specs.Prelude.{Ok}

module _ (n : ℕ) (h : 0 < n) where
  abbrev c : ℕ
  c = 2520 * n

  above_0 : 0 < c
  above_0 = omega arith

  of_size : (s : ℕ) → MeanError n (pos s) (pos (root c s))
  of_size s = record {
    from_0 = record { le = le→leb 0 (root c s) zero-le };
    within = record { le = le→leb _ _ (root_within c above_0 s) };
    above = record { lt = lt→ltb _ _ (root_above c above_0 s) };
    largest = most;
    only = alone;
  }
    where
      most : (x : ℤ) → square n x ≤ℤ pos s → x ≤ℤ pos (root c s)
      most (pos x) l = record { le = le→leb _ _ (root_largest c above_0 s x (leb→le _ _ l.le)) }
      most (negsuc x) l = record { le = tt }

      alone : (x : ℤ) → pos 0 ≤ℤ x → square n x ≤ℤ pos s → pos s <ℤ square n (x +ℤ pos 1) → x ≡ pos (root c s)
      alone (pos x) z l k = ap pos (root_only c above_0 s x (leb→le _ _ l.le) (ltb→lt _ _ k.lt))
      alone (negsuc x) z l k = absurd z.le

  pub mean_error_lem : (S : ℤ) → pos 0 ≤ℤ S → MeanError n S (mean_error n S)
  unfolding mean_error
  mean_error_lem (pos s) z = of_size s
  mean_error_lem (negsuc s) z = absurd z.le

-- a number that is between the two is the mean error: for figures, where the two tests are computed
pub mean_found : (n s e : ℕ) → 0 < n → T (leb (e * e * (2520 * n)) s) → T (ltb s ((e + 1) * (e + 1) * (2520 * n))) → mean_error n (pos s) ≡ pos e
mean_found n s e h l k = sym ((mean_error_lem n h (pos s) (record { le = le→leb 0 s zero-le })).only (pos e) (record { le = le→leb 0 e zero-le }) (record { le = l }) (record { lt = k }))

pub one_mean : {n : ℕ} {S e e' : ℤ} → MeanError n S e → MeanError n S e' → e ≡ e'
one_mean {e = e} a b = b.only e a.from_0 a.within a.above

-- ---- a mean error of 0
module _ {n : ℕ} {S e : ℤ} (m : MeanError n S e) where
  once : square n (pos 0 +ℤ pos 1) ≡ pos (2520 * n)
  once = ap pos (one-mul (2520 * n))

  pub mean_0 : pos 0 ≤ℤ S → S <ℤ pos (2520 * n) → e ≡ pos 0
  mean_0 z l = sym (m.only (pos 0) (record { le = tt }) (rw (zero-mul (2520 * n)) z) (rw once l))

  pub only_mean_0 : e ≡ pos 0 → S <ℤ pos (2520 * n)
  only_mean_0 z = subst (λ (x : ℤ). S <ℤ x) once (subst (λ (x : ℤ). S <ℤ square n (x +ℤ pos 1)) z m.above)

-- ---- of lists that are accepted
pub lists_mean_error : (us qs : List ℤ) (n : ℕ) → errors_reply us qs n ≡ Ok tt → MeanError n (S_of us qs) (errors_of us qs n).mean
unfolding errors_of
lists_mean_error us qs n a = mean_error_lem n (admitted us qs n a).n_least (S_of us qs) (S_from_0 (length us) (at qs) (at us))
