-- The errors of a table that the rules accept, by its own printed corrections. Assumes nothing.
--   table_admitted       its u, q and n are never refused: every accepted table has its errors
--   table_S              S is demand 3's weighted sum of its printed corrections
--   table_mean_error     and so its mean error is that of this sum
use mathlib.Core.Path.{◌≡◌, refl, sym, ◌∙◌, ap, subst}
use mathlib.Core.List.{List}
use Prim.Native.Nat.{ℕ, ◌+◌, ◌<◌}
use borrow.Author.Tests.{le-ltb, eq-eqb}
use lib.ListN.{length}
use lib.IntN.{ℤ, pos, nat_abs}
use Rattle.exact.specs.Tabulate.{tabulate}
use Rattle.exact.proofs.Filling.{tabulate_length, tabulate_at}
use Rattle.reply.specs.declared.Refusal.TheVariants.{OutOfRange}
use Rattle.reply.proofs.Checking.{refuse_none}
use Rattle.doolittle.specs.Table.{Table, at, table_of}
use Rattle.doolittle.specs.Solution.{K}
use Rattle.adjustment.specs.Corrections.{u_of}
use Rattle.adjustment.specs.Demand.{weighted}
use Rattle.adjustment.specs.Promise.{Answers, adjust_reply}
use Rattle.adjustment.proofs.Promising.{accepted_counts, accepted_weights, accepted_within_minute}
use Rattle.precision.specs.Errors.{S, S_of, errors_of}
use Rattle.precision.specs.Promise.{out_of_range_at, errors_reply, MeanError}
use Rattle.precision.proofs.Squaring.{S_ext, S_weighted}
use Rattle.precision.proofs.Admitting.{admitted}
use Rattle.precision.proofs.Meaning.{lists_mean_error}
use Rattle.std.specs.Prelude.{Ok}

module _ (ds qs cs ws : List ℤ) (lent : Answers) (e : adjust_reply ds qs cs ws lent ≡ Ok tt) where
  abbrev t : Table
  t = table_of qs cs ws

  abbrev us : List ℤ
  us = tabulate t.m (u_of t (K t))

  long : length us ≡ t.m
  long = tabulate_length t.m (u_of t (K t))

  u_is : (i : ℕ) → i < t.m → at us i ≡ u_of t (K t) i
  u_is i l = tabulate_at t.m (u_of t (K t)) i (pos 0) l

  pub table_admitted : errors_reply us qs t.n ≡ Ok tt
  unfolding errors_reply
  table_admitted =
      rw (long, accepted_counts ds qs cs ws lent e, eq-eqb t.m t.m refl)
      (refuse_none t.m (out_of_range_at us qs) (λ i. OutOfRange (i + 1))
      (λ i l. rw (u_is i l, le-ltb 60000 (nat_abs (u_of t (K t) i)) (accepted_within_minute ds qs cs ws lent e i l)) (accepted_weights ds qs cs ws lent e i l)))

  pub table_S : S_of us qs ≡ weighted t (u_of t (K t))
  table_S =
      let known = admitted us qs t.n table_admitted in
      S_ext (length us) (at qs) (at us) (at qs) (u_of t (K t)) (λ i l. refl) (λ i l. ap nat_abs (u_is i (subst (λ (m : ℕ). i < m) long l)))
      ∙ ap (λ (m : ℕ). S m (at qs) (u_of t (K t))) long
      ∙ S_weighted t (u_of t (K t)) (λ i l. known.q_least i (subst (λ (m : ℕ). i < m) (sym long) l)) (λ i l. known.q_most i (subst (λ (m : ℕ). i < m) (sym long) l))

  pub table_mean_error : MeanError t.n (weighted t (u_of t (K t))) (errors_of us qs t.n).mean
  table_mean_error = subst (λ (s : ℤ). MeanError t.n s (errors_of us qs t.n).mean) table_S (lists_mean_error us qs t.n table_admitted)
