-- Lists that are sound under 23 to 25. Assumes nothing.
--   Clear                   such a list, by its tables: it has sightings, all in range, and no place of it is spoilt for any step of the rescue
--   sound_clear, clear_sound        the two say the same
--   clear_fits              it passes 21 and 22
--   rescue_in               a list that a rescue accepts is in range, and something of it is left
use mathlib.Core.Path.{◌≡◌, refl, sym, ap}
use mathlib.Core.Bool.{Bool, true, false, not}
use mathlib.Core.List.{List}
use mathlib.Core.Logic.{◌⊎◌, inl, inr}
use Prim.Native.Nat.{ℕ, zero, suc, ◌+◌, ◌<◌, ◌≤◌}
use native.Mathlib.Omega.{arith}
use borrow.Author.Tests.{le-leb, eq-eqb, not-false}
use lib.IntN.{ℤ}
use lib.ListN.{length}
use Rattle.exact.specs.First.{first, some_below}
use Rattle.exact.proofs.Searching.{Failed}
use Rattle.reply.specs.Checks.{refuse_if, refuse_first, ◌and_then◌}
use Rattle.reply.specs.Numbers.{number_of}
use Rattle.reply.specs.declared.Refusal.{Refusal}
use Rattle.reply.specs.declared.Refusal.TheVariants.{Sightings, Field, Spread, NothingLeft}
use Rattle.reply.specs.Reply.{Reply}
use Rattle.reply.proofs.Checking.{never, both_accepted, if_accepted, refuse_none, none_refused, refused_as}
use Rattle.station.specs.declared.checks.Check.TheVariants.{PairsWhole, InitialSeen, FacesClose, PositionsAgree}
use Rattle.station.specs.Bounds.{InRange}
use Rattle.station.specs.Sightings.{Book, sightings, lengths_fit, field_fault}
use Rattle.station.specs.Table.{counts, readings}
use Rattle.station.specs.Replies.{fault, refusal, check_of, table_reply, lengths_reply, fields_reply, reply_of}
use Rattle.station.specs.Rescue.{step_check, nothing_left, rescue_reply}
use Rattle.station.specs.Parted.{Sound}
use Rattle.station.proofs.Deciding.{fit, lengths_fit_lem, in_range, reply_fields}
use Rattle.std.specs.Prelude.{Ok, Err}

pub record Clear (b : Book) : Type 0 where
  pub ranges : InRange b
  pub some : 1 ≤ sightings b
  pub quiet : (k p : ℕ) → p < 256 → fault (step_check k) (counts b) (readings b) p ≡ false

-- ---- 21 and 22
-- lists that pass both are in range, and not empty
passes_both : (b : Book) → lengths_reply b 16 16 ≡ Ok tt → fields_reply b ≡ Ok tt → InRange b × (1 ≤ sightings b)
passes_both b a c =
    let e = not-false (fit b 16 16) (if_accepted (not (fit b 16 16)) Sightings a) in
    (in_range b 16 16 e c, (lengths_fit_lem (sightings b) (length b.object) (length b.face) (length b.reading) 16 16 e).some)

module _ (b : Book) (s : InRange b) (some : 1 ≤ sightings b) where
  lengths_pass : fit b 16 16 ≡ true
  unfolding lengths_fit
  lengths_pass =
      rw (le-leb 1 (sightings b) some, le-leb (sightings b) 512 s.few, eq-eqb (length b.object) (sightings b) s.objects, eq-eqb (length b.face) (sightings b) s.faces)
      (rw (eq-eqb (length b.reading) (sightings b) s.readings) refl)

  pub clear_fits : (lengths_reply b 16 16 ≡ Ok tt) × (fields_reply b ≡ Ok tt)
  clear_fits = ((λ t. refuse_if (not (lengths_pass t)) Sightings), refuse_none (sightings b) (field_fault b) (λ h. Field (h + 1)) s.sound)

-- ---- 23 to 25, and then 26
-- what is said in the end: all agree, or 26
abbrev Final : Reply → Type 0
Final reply = (reply ≡ Ok tt) ⊎ ((p : ℕ) × (o : ℕ) × (reply ≡ Err (Spread p o)))

-- a check that never says 26 has accepted
goes_on_lem : (r s : Reply) → ((p o : ℕ) → r ≡ Err (Spread p o) → ⊥) → Final (r and_then s) → (r ≡ Ok tt) × Final s
goes_on_lem (Ok _) s n f = (refl, f)
goes_on_lem (Err why) s n (inl e) = never why e
goes_on_lem (Err why) s n (inr x) = absurd (n x.0 x.1 x.2)

lengths_other : (fault : Bool) (p o : ℕ) → refuse_if fault Sightings ≡ Err (Spread p o) → ⊥
lengths_other true p o e = let w : Sightings ≡ Spread p o = cc in omega (arith, ap number_of w)
lengths_other false p o e = never (Spread p o) (sym e)

-- a check with a lower number does not say 26
first_other : (n : ℕ) (fault : ℕ → Bool) (why : ℕ → Refusal) → ((k : ℕ) → number_of (why k) < 26) → (p o : ℕ) → refuse_first n fault why ≡ Err (Spread p o) → ⊥
first_other n fault why lower p o e = omega (arith, lower (first n fault), ap number_of (refused_as n fault why (Spread p o) e))

module _ (n r : List ℤ) where
  quiet_steps : Failed (fault PairsWhole n r) 256 → Failed (fault InitialSeen n r) 256 → Failed (fault FacesClose n r) 256 → (k p : ℕ) → p < 256 → fault (step_check k) n r p ≡ false
  unfolding step_check
  quiet_steps faces initials close zero = faces
  quiet_steps faces initials close (suc zero) = initials
  quiet_steps faces initials close (suc (suc zero)) = close
  quiet_steps faces initials close (suc (suc (suc k))) = initials

  -- a table that passes 23 to 25 has 26 to pass
  last_check : ((k p : ℕ) → p < 256 → fault (step_check k) n r p ≡ false) → table_reply n r ≡ check_of PositionsAgree n r
  unfolding table_reply step_check
  last_check q =
      rw (refuse_none 256 (fault PairsWhole n r) (refusal PairsWhole) (q 0), refuse_none 256 (fault InitialSeen n r) (refusal InitialSeen) (q 1), refuse_none 256 (fault FacesClose n r) (refusal FacesClose) (q 2))

  final : Final (check_of PositionsAgree n r)
  final = by_test (some_below 256 (fault PositionsAgree n r))
    where
      by_test : (x : Bool) → Final (refuse_if x (refusal PositionsAgree (first 256 (fault PositionsAgree n r))))
      by_test true = inr (_, _, refl)
      by_test false = inl refl

pub sound_clear : (b : Book) → Sound b → Clear b
unfolding reply_of table_reply
sound_clear b f =
    let n = counts b in let r = readings b in
    let a = goes_on_lem (lengths_reply b 16 16) _ (lengths_other (not (fit b 16 16))) f in
    let c = goes_on_lem (fields_reply b) _ (first_other (sightings b) (field_fault b) (λ h. Field (h + 1)) (λ k. omega arith)) a.1 in
    let x = goes_on_lem (check_of PairsWhole n r) _ (first_other 256 (fault PairsWhole n r) (refusal PairsWhole) (λ k. omega arith)) c.1 in
    let y = goes_on_lem (check_of InitialSeen n r) _ (first_other 256 (fault InitialSeen n r) (refusal InitialSeen) (λ k. omega arith)) x.1 in
    let v = goes_on_lem (check_of FacesClose n r) (check_of PositionsAgree n r) (first_other 256 (fault FacesClose n r) (refusal FacesClose) (λ k. omega arith)) y.1 in
    let s = passes_both b a.0 c.0 in
    record {
      ranges = s.0;
      some = s.1;
      quiet = quiet_steps n r (none_refused 256 (fault PairsWhole n r) (refusal PairsWhole) x.0) (none_refused 256 (fault InitialSeen n r) (refusal InitialSeen) y.0) (none_refused 256 (fault FacesClose n r) (refusal FacesClose) v.0);
    }

pub clear_sound : (b : Book) → Clear b → Sound b
clear_sound b c =
    rw (reply_fields b 16 16 (lengths_pass b c.ranges c.some), (clear_fits b c.ranges c.some).1, last_check (counts b) (readings b) c.quiet) (final (counts b) (readings b))

-- ---- a list that a rescue accepts
pub rescue_in : (b : Book) (room : Bool) → rescue_reply b room ≡ Ok tt → InRange b × (nothing_left b ≡ false)
unfolding rescue_reply
rescue_in b room e =
    let a = both_accepted (lengths_reply b 16 16) _ e in
    let c = both_accepted (refuse_if (not room) Sightings) _ a.1 in
    let d = both_accepted (fields_reply b) (refuse_if (nothing_left b) NothingLeft) c.1 in
    ((passes_both b a.0 d.0).0, if_accepted (nothing_left b) NothingLeft d.1)
