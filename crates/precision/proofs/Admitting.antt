-- What the checks of lent lists leave known where they accept. Assumes nothing.
--   Admitted, admitted     counts, lengths and ranges
use mathlib.Core.Path.{◌≡◌}
use mathlib.Core.Bool.{false, ◌||◌, not}
use mathlib.Core.List.{List, [], ◌∷◌}
use Prim.Native.Nat.{ℕ, ◌+◌, ◌≤◌, ◌<◌}
use native.Mathlib.Omega.{arith}
use borrow.Author.Tests.{ltb-false, eqb-true, not-false}
use lib.Dec.{eqb}
use lib.ListN.{length}
use lib.IntN.{ℤ, pos, nat_abs}
use lib.Signed.{◌≤ℤ◌}
use Rattle.exact.proofs.Linear.{unknowns, orders, one_sided}
use Rattle.std.proofs.lemmas.Bool.{or_parts}
use Rattle.reply.specs.declared.Refusal.TheVariants.{Count, OutOfRange}
use Rattle.reply.specs.Checks.{refuse_if}
use Rattle.reply.proofs.Checking.{both_accepted, if_accepted, none_refused}
use Rattle.direction.specs.Ranges.{weight_out_of_range}
use Rattle.doolittle.specs.Table.{at}
use Rattle.adjustment.specs.Refusals.{counts_amiss, past_minute}
use Rattle.adjustment.proofs.Admitting.{counts_known, weight_known}
use Rattle.precision.specs.Promise.{out_of_range_at, ranges_reply, errors_reply}
use Rattle.std.specs.Prelude.{Ok}

pub record Admitted (us qs : List ℤ) (n : ℕ) : Type 0 where
  pub m_most : length us ≤ 64
  pub n_least : 1 ≤ n
  pub n_most : n ≤ 24
  pub q_long : length qs ≡ length us
  pub u_most : (i : ℕ) → i < length us → nat_abs (at us i) ≤ 60000
  pub q_least : (i : ℕ) → i < length us → 0 < nat_abs (at qs i)
  pub q_most : (i : ℕ) → i < length us → nat_abs (at qs i) ≤ 10

above_0 : (q : ℤ) → pos 1 ≤ℤ q → 0 < nat_abs q
above_0 q h = let v = unknowns (q ∷ []) in omega (arith, orders, one_sided)

pub admitted : (us qs : List ℤ) (n : ℕ) → errors_reply us qs n ≡ Ok tt → Admitted us qs n
unfolding errors_reply
admitted us qs n e =
    let b = both_accepted (refuse_if (counts_amiss (length us) n || not (eqb (length qs) (length us))) (Count 0)) (ranges_reply us qs) e in
    let f = or_parts (counts_amiss (length us) n) (not (eqb (length qs) (length us))) (if_accepted (counts_amiss (length us) n || not (eqb (length qs) (length us))) (Count 0) b.0) in
    let c = counts_known (length us) n f.0 in
    let each : (i : ℕ) → i < length us → (past_minute (at us i) ≡ false) × (weight_out_of_range (at qs i) ≡ false) =
    λ i l. or_parts (past_minute (at us i)) (weight_out_of_range (at qs i)) (none_refused (length us) (out_of_range_at us qs) (λ i. OutOfRange (i + 1)) b.1 i l) in
    record {
      m_most = c.m_most;
      n_least = c.n_least;
      n_most = c.n_most;
      q_long = eqb-true (length qs) (length us) (not-false (eqb (length qs) (length us)) f.1);
      u_most = λ i l. ltb-false 60000 (nat_abs (at us i)) (each i l).0;
      q_least = λ i l. above_0 (at qs i) (weight_known (at qs i) (each i l).1).0;
      q_most = λ i l. (weight_known (at qs i) (each i l).1).1;
    }
