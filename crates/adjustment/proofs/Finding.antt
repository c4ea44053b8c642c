-- What the steps of the solution find of a table that has passed its checks, one after another: no weak row; all correlates; their corrections; the first remainder
-- that is too large, or none; the first correction past one minute, or none. Assumes nothing.
--   accepted, refused                what was known of an answer before a `map_err`
--   k_small, v_small                 the correlates and the corrections are within their bounds
--   open_found, past_found, all_found      8, 9 and no refusal
--   solved                           the lists hold the solution
use Rattle.std.proofs.Common.{◌≡◌, refl, ◌∙◌, ℕ, ◌+◌, ◌≤◌, ◌<◌, ℤ, nat_abs, List, Ok, Err, arith, true≢false, sym, ap, subst}
use Rattle.std.specs.Prelude.{Result, is_ok, MatchResult, IsErrAnd}
use Rattle.exact.specs.First.{first}
use Rattle.reply.specs.declared.Refusal.TheVariants.{WeakRow, Remainder, Correction}
use Rattle.reply.proofs.Checking.{refuse_none}
use Rattle.doolittle.specs.Table.{Table, at}
use Rattle.doolittle.specs.Lent.{table_in}
use Rattle.doolittle.specs.declared.SoundTable.{SoundTable}
use Rattle.doolittle.specs.Solution.{weak, K}
use Rattle.doolittle.specs.Inner.{Small, Triangle, Solves}
use Rattle.adjustment.specs.Corrections.{V_of}
use Rattle.adjustment.specs.Refusals.{rows_reply, correlates_reply, corrections_reply, solution_reply}
use Rattle.adjustment.specs.Inner.{Solved, closing, rounding}
use Rattle.adjustment.proofs.Solving.{V_size, V_ext, closing_is, rounding_is, none_too_large, open_refused, none_open, past_refused, none_past, all_accepted, corrections_small, beyond}

-- what was known of an answer before a `map_err`, where that leaves a value, and where it leaves an error
module _ {E D : Type 0} (Known : Result (Unit {0}) E → Type 0) where
  pub accepted : {r : Result (Unit {0}) E} {told : Result (Unit {0}) D} → is_ok told ≡ is_ok r → told ≡ Ok tt → Known r → Known (Ok tt)
  accepted {r = Ok _} e o k = k
  accepted {r = Err _} e o k = absurd (true≢false (ap is_ok (sym o) ∙ e))

  pub refused : (Q : E → D → Type 0) {r : Result (Unit {0}) E} {told : Result (Unit {0}) D} {d : D}
      → MatchResult r (λ x. told ≡ Ok x) (λ e. IsErrAnd told (Q e)) → told ≡ Err d → Known r → (e : E) × Known (Err e) × Q e d
  refused Q {r = Ok _} m o k = absurd (true≢false (ap is_ok (sym m ∙ o)))
  refused Q {r = Err e} m o k = (e, k, subst (λ t. IsErrAnd t (Q e)) o m)

module _ (table : SoundTable) {rows : List (List ℤ)} (f : Triangle (table_in table) rows) where
  abbrev t : Table
  t = table_in table

  pub rows_right : rows_reply t ≡ Ok tt
  unfolding rows_reply
  rows_right = refuse_none t.n (weak t) (λ j. WeakRow (j + 1)) f.sound

  module _ {ks : List ℤ} (g : Solves t ks 0) where
    correlates_right : (correlates_reply t ≡ Ok tt) × ((j : ℕ) → j < t.n → nat_abs (K t j) ≤ 100000000)
    correlates_right = none_too_large t rows_right 0 g.large g.within refl

    k_found : (j : ℕ) → j < t.n → at ks j ≡ K t j
    k_found j l = g.correlates j (omega arith) l

    pub k_small : Small 100000000 ks t.n
    k_small j l = rw (k_found j l) (correlates_right.1 j l)

    module _ (vs : List ℤ) (h : (i : ℕ) → i < t.m → at vs i ≡ V_of t (at ks) i) where
      v_found : (i : ℕ) → i < t.m → at vs i ≡ V_of t (K t) i
      v_found i l = h i l ∙ V_ext t (at ks) (K t) k_found i

      pub v_small : Small 48000000000000 vs t.m
      v_small i l = rw (v_found i l) (V_size table.q.now table.a.now table.w.now table.sound (K t) correlates_right.1 i l)

      module _ {close : ℕ} (e : close ≡ first t.n (beyond 50000000 (closing t (at vs)))) where
        pub open_found : close < t.n → Err (Remainder (close + 1)) ≡ solution_reply t
        open_found l = open_refused t vs v_found close e rows_right correlates_right.0 l

        module _ (none : t.n ≤ close) {within : ℕ} (d : within ≡ first t.m (beyond 60000 (rounding (at vs)))) where
          pub past_found : within < t.m → Err (Correction (within + 1)) ≡ solution_reply t
          past_found l = past_refused t vs v_found within d rows_right correlates_right.0 (none_open t vs v_found close e none) l

          module _ (few : t.m ≤ within) where
            corrections_right : corrections_reply t (K t) ≡ Ok tt
            corrections_right = none_past t vs v_found within d few

            pub all_found : Ok tt ≡ solution_reply t
            all_found = all_accepted t rows_right correlates_right.0 (none_open t vs v_found close e none) corrections_right

            pub solved : {us rs : List ℤ} → ((i : ℕ) → i < within → at us i ≡ rounding (at vs) i) → ((j : ℕ) → j < close → at rs j ≡ closing t (at vs) j) → Solved t ks vs us rs
            solved u r = record {
              k = k_found;
              v = v_found;
              u = λ i l. u i (omega arith) ∙ rounding_is t (K t) vs v_found i l;
              r = λ j l. r j (omega arith) ∙ closing_is t (K t) vs v_found j;
              u_most = corrections_small t (K t) corrections_right;
            }
