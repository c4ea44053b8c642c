-- Laws of the totals so far and the shares to come: what both give together, as nets are counted one after another. Assumes nothing.
--   shares_closed, shares_left             the shares of a net that is closed and of the parts after it; of bytes that are left
--   Leads                                  the totals so far and the shares to come give the report of all
--   leads_none                             before the first net
--   leads_more                             a net more is counted
--   leads_past                             a net past 100,000
--   leads_end                              after the last
--   counted_fits, counted_past             a net counted, by whether 100,000 have been
--   count_fits, count_full, past_told      what is answered then, and what the stream's place tells of it
--   turn_fits, turn_past                   what is then known of the totals and the shares to come
--   none_within, counted_within            totals are no more than their nets can have put to them
use mathlib.Core.Path.{◌≡◌, refl, sym, ◌∙◌, ap, subst}
use mathlib.Core.Bool.{Bool, true, false, cond, not}
use mir.Val.{bool_byte}
use mathlib.Core.List.{List, [], ◌∷◌}
use Prim.Native.Nat.{ℕ, suc, ◌+◌, ◌-◌, ◌≤◌, ◌<◌}
use native.Mathlib.Decide.{dec_lt}
use native.Mathlib.Omega.{arith}
use borrow.Author.Tests.{lt-ltb, le-ltb, ltb-true, ltb-false}
use lib.Dec.{ltb}
use lib.ListN.{length, get_or, take}
use lib.Seq.{take-nil}
use Rattle.reply.specs.declared.Refusal.{Refusal}
use Rattle.reply.specs.declared.Refusal.TheVariants.{Nets}
use Rattle.reply.specs.Checks.{refuse_if}
use Rattle.totals.specs.Totals.{largest_at, total, sum_of, report_of}
use Rattle.totals.specs.Promise.{most_nets}
use Rattle.totals.proofs.Totalling.{joined_sum, joined_most, sum_length, sum_at_lem, sum_none, sum_comm, sum_more, report_at, report_length}
use Rattle.season.specs.Archive.{parts_of}
use Rattle.season.specs.Share.{share_of}
use Rattle.season.specs.Season.{left_shares, shares_in, season_reply, season_report}
use Rattle.season.specs.Stream.{count_reply, counted_in, past_after}
use Rattle.season.specs.Inner.{IsShare, Within}
use Rattle.season.proofs.Parting.{parts_some, more_than_last}
use Rattle.std.specs.Prelude.{Ok, Err}
use Rattle.std.specs.Result.{is_err}

-- ---- the shares of parts
pub shares_closed : (net rest : List ℕ) → shares_in (net ∷ parts_of rest) ≡ share_of net ∷ shares_in (parts_of rest)
unfolding shares_in
shares_closed net rest = more_than_last (parts_of rest) (left_shares net) (share_of net ∷ shares_in (parts_of rest)) (parts_some rest)

pub shares_left : (left : List ℕ) → shares_in (left ∷ []) ≡ left_shares left
unfolding shares_in
shares_left left = refl

-- ---- a share at place 0 is one net
sum_nets : (totals share : List ℕ) → IsShare share → get_or (sum_of totals share) 0 0 ≡ get_or totals 0 0 + 1
unfolding largest_at
sum_nets totals share s = sum_at_lem totals share 0 (omega arith) ∙ joined_sum 0 (get_or totals 0 0) (get_or share 0 0) refl ∙ ap (λ (n : ℕ). get_or totals 0 0 + n) s.net

-- ---- totals so far and shares to come
pub record Leads (shares : List (List ℕ)) (totals : List ℕ) (rest : List (List ℕ)) : Type 0 where
  pub long : length totals ≡ 16
  pub nets : get_or totals 0 0 ≤ most_nets
  pub counts : get_or totals 0 0 + length rest ≡ length shares
  pub report : sum_of totals (report_of (take (most_nets - get_or totals 0 0) rest)) ≡ season_report shares

none_nets : get_or (report_of []) 0 0 ≡ 0
unfolding total
none_nets = report_at [] 0 (omega arith)

pub leads_none : (shares : List (List ℕ)) → Leads shares (report_of []) shares
unfolding season_report
leads_none shares = record {
  long = report_length [];
  nets = omega (arith, none_nets);
  counts = omega (arith, none_nets);
  report = rw none_nets (sum_comm (report_of []) (report_of (take most_nets shares)) ∙ sum_none (report_of (take most_nets shares)) (report_length (take most_nets shares)));
}

module _ {shares : List (List ℕ)} {totals share : List ℕ} {rest : List (List ℕ)} (l : Leads shares totals (share ∷ rest)) where
  pub leads_more : IsShare share → get_or totals 0 0 < most_nets → Leads shares (sum_of totals share) rest
  leads_more s below =
      let one = sum_nets totals share s in
      let e : most_nets - get_or totals 0 0 ≡ suc (most_nets - get_or (sum_of totals share) 0 0) = omega (arith, one) in
      record {
        long = sum_length totals share;
        nets = omega (arith, one);
        counts = omega (arith, one, l.counts);
        report = sum_more totals share (take (most_nets - get_or (sum_of totals share) 0 0) rest) ∙ (rw e at l.report);
      }

  pub leads_past : most_nets ≤ get_or totals 0 0 → (totals ≡ season_report shares) × (season_reply shares ≡ Err (Nets 100001))
  unfolding season_reply
  leads_past full =
      let e : most_nets - get_or totals 0 0 ≡ 0 = omega arith in
      (sym (sum_none totals l.long) ∙ (rw e at l.report), rw (lt-ltb most_nets (length shares) (omega (arith, l.counts, l.nets))))

pub leads_end : {shares : List (List ℕ)} {totals : List ℕ} → Leads shares totals [] → (totals ≡ season_report shares) × (season_reply shares ≡ Ok tt)
unfolding season_reply
leads_end {shares} {totals} l = (
  sym (sum_none totals l.long) ∙ ap (λ (x : List (List ℕ)). sum_of totals (report_of x)) (sym (take-nil (most_nets - get_or totals 0 0))) ∙ l.report,
  rw (le-ltb most_nets (length shares) (omega (arith, l.counts, l.nets))),
)

-- ---- a net is counted
module _ (share totals : List ℕ) where
  pub counted_fits : get_or totals 0 0 < most_nets → counted_in share totals ≡ sum_of totals share
  unfolding counted_in
  counted_fits l = rw (lt-ltb (get_or totals 0 0) most_nets l)

  pub counted_past : most_nets ≤ get_or totals 0 0 → counted_in share totals ≡ totals
  unfolding counted_in
  counted_past l = rw (le-ltb (get_or totals 0 0) most_nets l)

-- what is answered then
module _ (totals : List ℕ) where
  pub count_fits : ltb (get_or totals 0 0) most_nets ≡ true → count_reply totals ≡ Ok tt
  unfolding count_reply
  count_fits e = rw e

  pub count_full : ltb (get_or totals 0 0) most_nets ≡ false → count_reply totals ≡ Err (Nets 100001)
  unfolding count_reply
  count_full e = rw e

  fits_so : (b : Bool) → refuse_if (not b) (Nets 100001) ≡ Ok tt → b ≡ true
  fits_so true e = refl
  fits_so false e = cc

  full_so : (b : Bool) {why : Refusal} → refuse_if (not b) (Nets 100001) ≡ Err why → (b ≡ false) × (refuse_if true (Nets 100001) ≡ Err why)
  full_so true e = cc
  full_so false e = (refl, e)

  -- the stream's place tells it
  pub past_told : bool_byte (is_err (count_reply totals)) ≡ past_after totals
  unfolding count_reply past_after
  past_told = by_nets (ltb (get_or totals 0 0) most_nets)
    where
      by_nets : (b : Bool) → bool_byte (is_err (refuse_if (not b) (Nets 100001))) ≡ cond b 0 1
      by_nets true = refl
      by_nets false = refl

-- a share to come has been counted, or not
module _ {shares : List (List ℕ)} {totals share : List ℕ} {rest : List (List ℕ)} (l : Leads shares totals (share ∷ rest)) {left : List ℕ}
    (c : left ≡ counted_in share totals) where
  pub turn_fits : IsShare share → count_reply totals ≡ Ok tt → Leads shares left rest
  unfolding count_reply
  turn_fits s e =
      let below = ltb-true (get_or totals 0 0) most_nets (fits_so totals (ltb (get_or totals 0 0) most_nets) e) in
      subst (λ (x : List ℕ). Leads shares x rest) (sym (c ∙ counted_fits share totals below)) (leads_more l s below)

  pub turn_past : {why : Refusal} → count_reply totals ≡ Err why → (season_reply shares ≡ Err why) × (left ≡ season_report shares)
  unfolding count_reply
  turn_past e =
      let so = full_so totals (ltb (get_or totals 0 0) most_nets) e in
      let full = ltb-false (get_or totals 0 0) most_nets so.0 in let p = leads_past l full in
      (p.1 ∙ so.1, c ∙ counted_past share totals full ∙ p.0)

module _ (before : ℕ) where
  pub none_within : Within before (report_of [])
  unfolding total
  none_within = record { long = report_length []; nets = omega (arith, none_nets); small = λ i l. omega (arith, report_at [] i l) }

  pub counted_within : (share totals : List ℕ) → IsShare share → Within before totals → Within before (counted_in share totals)
  counted_within share totals s r = by_nets (dec_lt (get_or totals 0 0) most_nets)
    where
      one : get_or (sum_of totals share) 0 0 ≡ get_or totals 0 0 + 1
      one = sum_nets totals share s

      more : get_or totals 0 0 < most_nets → Within before (sum_of totals share)
      more l = record {
        long = sum_length totals share;
        nets = omega (arith, one);
        small = λ i h. omega (arith, one, sum_at_lem totals share i h, joined_most i (get_or totals i 0) (get_or share i 0), r.small i h, s.small i);
      }

      full : ¬ (get_or totals 0 0 < most_nets) → most_nets ≤ get_or totals 0 0
      full n = omega arith

      by_nets : Dec (get_or totals 0 0 < most_nets) → Within before (counted_in share totals)
      by_nets (yes l) = subst (Within before) (sym (counted_fits share totals l)) (more l)
      by_nets (no n) = subst (Within before) (sym (counted_past share totals (full n))) r
