-- What the errors tell, beyond what was asked: where the mean error is 0, and that signs do not matter. Then figures, by computation. Assumes nothing.
--   mean_0_below, below_mean_0     of accepted lists: e is 0 where S is below 2,520*n, and nowhere else
--   none_corrected                 in particular where every correction is 0, and then both errors are
--   signs_reversed                 with all signs of u reversed the reply and both errors are the same
--   at_a_square, beside_it         S at a square, and one below and one above it
--   by_weight, by_conditions       a correction counts by its weight, and the sum by the number of conditions
--   at_a_half                      a probable error of 674.5 is 675
use mathlib.Core.Path.{◌≡◌, refl, ◌∙◌, ap, ap₂}
use mathlib.Core.Bool.{◌||◌, not}
use mathlib.Core.List.{List, [], ◌∷◌}
use Prim.Native.Nat.{ℕ, ◌+◌, ◌*◌, ◌<◌}
use native.Mathlib.Nat.{zero-div}
use native.Mathlib.Omega.{arith}
use lib.Dec.{ltb, eqb, lt→ltb}
use lib.ListN.{length}
use lib.IntN.{ℤ, pos, negsuc, neg_ℤ, nat_abs}
use lib.Signed.{◌<ℤ◌}
use Rattle.exact.specs.Nearest.{nearest}
use Rattle.exact.specs.Sum.{sum}
use Rattle.exact.proofs.Bound.{abs_neg}
use Rattle.exact.proofs.Rounding.{nearest_multiple}
use Rattle.exact.proofs.Searching.{first_ext}
use Rattle.exact.proofs.Sum.{sum_ext, sum_zero}
use Rattle.reply.specs.declared.Refusal.TheVariants.{Count, OutOfRange}
use Rattle.reply.specs.Reply.{Reply}
use Rattle.reply.specs.Checks.{refuse_if, ◌and_then◌}
use Rattle.direction.specs.Ranges.{weight_out_of_range}
use Rattle.doolittle.specs.Table.{at}
use Rattle.adjustment.specs.Refusals.{counts_amiss}
use Rattle.precision.specs.Errors.{weighted_square, S, climb, root, mean_error, probable_error, S_of, errors, errors_of}
use Rattle.precision.specs.Promise.{out_of_range_at, ranges_reply, errors_reply}
use Rattle.precision.proofs.Squaring.{S_from_0, S_ext}
use Rattle.precision.proofs.Admitting.{admitted}
use Rattle.precision.proofs.Meaning.{mean_found, mean_0, only_mean_0, lists_mean_error}
use Rattle.std.specs.Prelude.{Ok}

-- ---- a mean error of 0
module _ (us qs : List ℤ) (n : ℕ) (a : errors_reply us qs n ≡ Ok tt) where
  pub below_mean_0 : S_of us qs <ℤ pos (2520 * n) → (errors_of us qs n).mean ≡ pos 0
  below_mean_0 = mean_0 (lists_mean_error us qs n a) (S_from_0 (length us) (at qs) (at us))

  pub mean_0_below : (errors_of us qs n).mean ≡ pos 0 → S_of us qs <ℤ pos (2520 * n)
  mean_0_below = only_mean_0 (lists_mean_error us qs n a)

  module _ (z : (i : ℕ) → i < length us → at us i ≡ pos 0) where
    nothing : S_of us qs ≡ pos 0
    unfolding S
    nothing =
        sum_ext (length us) (λ i. weighted_square (at qs i) (at us i)) (λ i. pos 0) (λ i l. ap (weighted_square (at qs i)) (z i l) ∙ ap pos (zero-div (nat_abs (at qs i))))
        ∙ sum_zero (length us)

    pub none_corrected : errors_of us qs n ≡ errors (pos 0) (pos 0)
    unfolding errors_of probable_error
    none_corrected =
        let e : mean_error n (S_of us qs) ≡ pos 0 = below_mean_0 (rw nothing (record { lt = lt→ltb 0 (2520 * n) (omega (arith, (admitted us qs n a).n_least)) })) in
        ap (λ (x : ℤ). errors x (probable_error x)) e ∙ ap (errors (pos 0)) (nearest_multiple (pos 0) (pos 10000) (record { lt = tt }))

-- ---- signs
module _ (us vs qs : List ℤ) (n : ℕ) (long : length vs ≡ length us) (reversed : (i : ℕ) → i < length us → at vs i ≡ neg_ℤ (at us i)) where
  size : (i : ℕ) → i < length us → nat_abs (at vs i) ≡ nat_abs (at us i)
  size i l = ap nat_abs (reversed i l) ∙ abs_neg (at us i)

  ranges_same : ranges_reply vs qs ≡ ranges_reply us qs
  ranges_same =
      rw long
      (ap (λ (x : ℕ). refuse_if (ltb x (length us)) (OutOfRange (x + 1)))
      (first_ext (length us) (out_of_range_at vs qs) (out_of_range_at us qs) (λ i l. ap (λ (x : ℕ). ltb 60000 x || weight_out_of_range (at qs i)) (size i l))))

  S_same : S_of vs qs ≡ S_of us qs
  S_same = rw long (S_ext (length us) (at qs) (at vs) (at qs) (at us) (λ i l. refl) size)

  pub signs_reversed : (errors_reply vs qs n ≡ errors_reply us qs n) × (errors_of vs qs n ≡ errors_of us qs n)
  unfolding errors_reply errors_of
  signs_reversed = (
    ap₂ (λ (m : ℕ) (r : Reply). refuse_if (counts_amiss m n || not (eqb (length qs) m)) (Count 0) and_then r) long ranges_same,
    ap (λ (s : ℤ). errors (mean_error n s) (probable_error (mean_error n s))) S_same,
  )

-- ---- figures: lists of corrections and of q, and how many conditions
-- S is 10,080, which is 2*2*2,520
pub at_a_square : errors_of (pos 2 ∷ []) (pos 1 ∷ []) 1 ≡ errors (pos 2) (pos 1)
unfolding errors_of mean_error probable_error S sum root climb nearest
at_a_square = refl

-- S is 10,079, and 10,081
pub beside_it :
    (errors_of (pos 1 ∷ pos 1 ∷ pos 3 ∷ pos 4 ∷ pos 1 ∷ pos 1 ∷ []) (pos 9 ∷ pos 9 ∷ pos 8 ∷ pos 7 ∷ pos 5 ∷ pos 6 ∷ []) 1 ≡ errors (pos 1) (pos 1))
    × (errors_of (pos 1 ∷ pos 1 ∷ pos 2 ∷ pos 2 ∷ pos 3 ∷ pos 1 ∷ []) (pos 9 ∷ pos 7 ∷ pos 7 ∷ pos 5 ∷ pos 4 ∷ pos 8 ∷ []) 1 ≡ errors (pos 2) (pos 1))
unfolding errors_of mean_error probable_error S sum root climb nearest
beside_it = (refl, refl)

-- 2,520*9/2 is 11,340
pub by_weight : errors_of (pos 3 ∷ []) (pos 2 ∷ []) 1 ≡ errors (pos 2) (pos 1)
unfolding errors_of mean_error probable_error S sum root climb nearest
by_weight = refl

-- 45,360 by one condition, and by two
pub by_conditions : (errors_of (pos 3 ∷ negsuc 2 ∷ []) (pos 1 ∷ pos 1 ∷ []) 1 ≡ errors (pos 4) (pos 3)) × (errors_of (pos 3 ∷ negsuc 2 ∷ []) (pos 1 ∷ pos 1 ∷ []) 2 ≡ errors (pos 3) (pos 2))
unfolding errors_of mean_error probable_error S sum root climb nearest
by_conditions = (refl, refl)

pub at_a_half : errors_of (pos 1000 ∷ []) (pos 1 ∷ []) 1 ≡ errors (pos 1000) (pos 675)
unfolding errors_of probable_error S sum nearest
at_a_half = ap (λ (e : ℤ). errors e (probable_error e)) (mean_found 1 2520000000 1000 (omega arith) tt tt)
