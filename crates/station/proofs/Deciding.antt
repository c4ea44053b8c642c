-- The laws of the station's order of checks. Assumes nothing.
--   LengthsFit, lengths_fit_lem        what the test of the lengths tells
--   in_range                       lists that pass 21 and 22 are in range
--   reply_lengths, reply_fields    the reply where 21 refuses, and where it accepts
--   no_room                        21 refuses answer lists of another length than 16
--   reply_opened, rescue_opened    the replies of both operations, past those
use mathlib.Core.Path.{◌≡◌, refl, sym}
use mathlib.Core.Bool.{Bool, true, false, ◌&&◌, and-false}
use Prim.Native.Nat.{ℕ, ◌+◌, ◌≤◌}
use borrow.Author.Tests.{leb-true, eqb-true}
use lib.Dec.{leb, eqb}
use lib.ListN.{length}
use Rattle.reply.specs.declared.Refusal.TheVariants.{Sightings, Field, NothingLeft}
use Rattle.reply.specs.Reply.{Reply}
use Rattle.reply.specs.Checks.{refuse_if, ◌and_then◌}
use Rattle.reply.proofs.Checking.{none_refused}
use Rattle.station.specs.Sightings.{Book, sightings, lengths_fit, field_fault}
use Rattle.station.specs.Bounds.{InRange, opening}
use Rattle.station.specs.Table.{counts, readings}
use Rattle.station.specs.Replies.{lengths_reply, fields_reply, table_reply, reply_of}
use Rattle.station.specs.Rescue.{nothing_left, rescue_reply}
use Rattle.station.proofs.Tests.{and_true}
use Rattle.std.specs.Prelude.{Ok, Err}

-- ---- 21
pub record LengthsFit (positions objects faces readings directions pairs : ℕ) : Type 0 where
  pub some : 1 ≤ positions
  pub few : positions ≤ 512
  pub objects_fit : objects ≡ positions
  pub faces_fit : faces ≡ positions
  pub readings_fit : readings ≡ positions
  pub directions_fit : directions ≡ 16
  pub pairs_fit : pairs ≡ 16

pub lengths_fit_lem : (n o f r d p : ℕ) → lengths_fit n o f r d p ≡ true → LengthsFit n o f r d p
unfolding lengths_fit
lengths_fit_lem n o f r d p e =
    let a = and_true (leb 1 n) _ e in let b = and_true (leb n 512) _ a.1 in let c = and_true (eqb o n) _ b.1 in
    let g = and_true (eqb f n) _ c.1 in let h = and_true (eqb r n) _ g.1 in let k = and_true (eqb d 16) (eqb p 16) h.1 in
    record {
      some = leb-true 1 n a.0;
      few = leb-true n 512 b.0;
      objects_fit = eqb-true o n c.0;
      faces_fit = eqb-true f n g.0;
      readings_fit = eqb-true r n h.0;
      directions_fit = eqb-true d 16 k.0;
      pairs_fit = eqb-true p 16 k.1;
    }

-- ---- the reply, by the tests of 21 and 22
module _ (b : Book) (d p : ℕ) where
  abbrev pub fit : Bool
  fit = lengths_fit (sightings b) (length b.object) (length b.face) (length b.reading) d p

  pub reply_lengths : fit ≡ false → reply_of b d p ≡ Err Sightings
  unfolding reply_of
  reply_lengths e = rw e

  module _ (e : fit ≡ true) where
    pub reply_fields : reply_of b d p ≡ (fields_reply b and_then table_reply (counts b) (readings b))
    unfolding reply_of
    reply_fields = rw e

    pub in_range : fields_reply b ≡ Ok tt → InRange b
    in_range a =
        let f = lengths_fit_lem (sightings b) (length b.object) (length b.face) (length b.reading) d p e in
        record {
          few = f.few;
          objects = f.objects_fit;
          faces = f.faces_fit;
          readings = f.readings_fit;
          sound = none_refused (sightings b) (field_fault b) (λ h. Field (h + 1)) a;
        }

-- ---- the lent lists by themselves, and then the sightings
pub no_room : (b : Book) (d p : ℕ) → (eqb d 16 && eqb p 16) ≡ false → fit b d p ≡ false
unfolding lengths_fit
no_room b d p e = simp (e, and-false)

grouped : (r s t : Reply) → ((r and_then s) and_then t) ≡ (r and_then (s and_then t))
grouped (Ok _) s t = refl
grouped (Err why) s t = refl

pub reply_opened : (b : Book) → reply_of b 16 16 ≡ (opening b and_then table_reply (counts b) (readings b))
unfolding reply_of
reply_opened b = sym (grouped (lengths_reply b 16 16) (fields_reply b) (table_reply (counts b) (readings b)))

pub rescue_opened : (b : Book) → rescue_reply b true ≡ (opening b and_then refuse_if (nothing_left b) NothingLeft)
unfolding rescue_reply
rescue_opened b = sym (grouped (lengths_reply b 16 16) (fields_reply b) (refuse_if (nothing_left b) NothingLeft))
