-- What an accepted list has passed. Assumes nothing.
--   Passed, passed               every check, at every position and object: no field out of range, no fault of 23 to 26
use mathlib.Core.Path.{◌≡◌, sym, ◌∙◌}
use mathlib.Core.Bool.{Bool, false, not}
use Prim.Native.Nat.{ℕ, ◌+◌, ◌*◌, ◌/◌, ◌%◌, ◌<◌}
use native.Mathlib.Omega.{arith}
use borrow.Author.Tests.{not-false}
use Rattle.exact.proofs.Searching.{Failed}
use Rattle.reply.specs.declared.Refusal.TheVariants.{Sightings}
use Rattle.reply.proofs.Checking.{both_accepted, if_accepted, none_refused}
use Rattle.station.specs.declared.checks.Check.TheVariants.{PairsWhole, InitialSeen, FacesClose, PositionsAgree}
use Rattle.station.specs.Bounds.{InRange}
use Rattle.station.specs.Sightings.{Book}
use Rattle.station.specs.Table.{counts, readings}
use Rattle.station.specs.Means.{faces_fault, initial_fault, apart_fault, spread_fault}
use Rattle.station.specs.Replies.{fault, refusal, check_of, table_reply, lengths_reply, fields_reply, reply_of}
use Rattle.station.proofs.Deciding.{fit, in_range}
use Rattle.std.specs.Prelude.{Ok}

pub record Passed (b : Book) : Type 0 where
  pub ranges : InRange b
  pub faces : (i j : ℕ) → i < 16 → j < 16 → faces_fault (counts b) i j ≡ false
  pub initials : (i j : ℕ) → i < 16 → j < 16 → initial_fault (counts b) i j ≡ false
  pub close : (i j : ℕ) → i < 16 → j < 16 → apart_fault (counts b) (readings b) i j ≡ false
  pub agree : (i j : ℕ) → i < 16 → j < 16 → spread_fault (counts b) (readings b) i j ≡ false

-- place k of a check that goes by rows of 16
row_of : (x y : ℕ) → y < 16 → (16 * x + y) / 16 ≡ x
row_of x y l = omega arith

column_of : (x y : ℕ) → y < 16 → (16 * x + y) % 16 ≡ y
column_of x y l = omega arith

at_place : (f : ℕ → ℕ → Bool) → Failed (λ k. f (k / 16) (k % 16)) 256 → (x y : ℕ) → x < 16 → y < 16 → f x y ≡ false
at_place f h x y lx ly = (λ i. f (sym (row_of x y ly) i) (sym (column_of x y ly) i)) ∙ h (16 * x + y) (omega arith)

pub passed : (b : Book) (d p : ℕ) → reply_of b d p ≡ Ok tt → Passed b
unfolding reply_of table_reply fault
passed b d p e =
    let n = counts b in let r = readings b in
    let a = both_accepted (lengths_reply b d p) _ e in
    let c = both_accepted (fields_reply b) _ a.1 in
    let f = both_accepted (check_of PairsWhole n r) _ c.1 in
    let g = both_accepted (check_of InitialSeen n r) _ f.1 in
    let h = both_accepted (check_of FacesClose n r) (check_of PositionsAgree n r) g.1 in
    record {
      ranges = in_range b d p (not-false (fit b d p) (if_accepted (not (fit b d p)) Sightings a.0)) c.0;
      faces = at_place (faces_fault n) (none_refused 256 (fault PairsWhole n r) (refusal PairsWhole) f.0);
      initials = at_place (initial_fault n) (none_refused 256 (fault InitialSeen n r) (refusal InitialSeen) g.0);
      close = at_place (apart_fault n r) (none_refused 256 (fault FacesClose n r) (refusal FacesClose) h.0);
      agree = λ i j li lj. at_place (λ x y. spread_fault n r y x) (none_refused 256 (fault PositionsAgree n r) (refusal PositionsAgree) h.1) j i lj li;
    }
