-- What a station answers, for every input: the checks in their fixed order, and the lent lists afterwards.
use Rattle.std.specs.Prelude.{◌≡◌, Bool, not, List, ℕ, ◌+◌, ◌/◌, ◌%◌, ℤ, length}
use Rattle.reply.specs.Checks.{refuse_if, refuse_first, ◌and_then◌, leaves}
use Rattle.reply.specs.Verdicts.{verdict_of}
use Rattle.reply.specs.declared.Refusal.{Refusal}
use Rattle.reply.specs.declared.Refusal.TheVariants.{Sightings, Field, Faces, Initial, FacesApart, Spread}
use Rattle.reply.specs.Reply.{Reply}
use Rattle.station.specs.declared.checks.Check.{Check}
use Rattle.station.specs.declared.checks.Check.TheVariants.{PairsWhole, InitialSeen, FacesClose, PositionsAgree}
use Rattle.station.specs.Sightings.{Book, sightings, lengths_fit, field_fault}
use Rattle.station.specs.Table.{counts, readings}
use Rattle.station.specs.Means.{faces_fault, initial_fault, apart_fault, spread_fault, directions, pair_counts}

-- the fault that a check of the table looks for at its k-th place. "23 to 25 by position then object, 26 by object then position":
-- place k is position k / 16 + 1 and object k % 16 + 1 for the first three, and the other way round for the last
unfoldable pub fault : Check → List ℤ → List ℤ → ℕ → Bool
fault PairsWhole n r k = faces_fault n (k / 16) (k % 16)
fault InitialSeen n r k = initial_fault n (k / 16) (k % 16)
fault FacesClose n r k = apart_fault n r (k / 16) (k % 16)
fault PositionsAgree n r k = spread_fault n r (k % 16) (k / 16)

-- and the refusal there: positions and objects count from 1
abbrev pub refusal : Check → ℕ → Refusal
refusal PairsWhole k = Faces (k / 16 + 1) (k % 16 + 1)
refusal InitialSeen k = Initial (k / 16 + 1)
refusal FacesClose k = FacesApart (k / 16 + 1) (k % 16 + 1)
refusal PositionsAgree k = Spread (k % 16 + 1) (k / 16 + 1)

-- one check over the whole table
abbrev pub check_of : Check → List ℤ → List ℤ → Reply
check_of check n r = refuse_first 256 (fault check n r) (refusal check)

-- 23, 24, 25, 26: "each cover the whole list before the next"
unfoldable pub table_reply : List ℤ → List ℤ → Reply
table_reply n r = check_of PairsWhole n r and_then check_of InitialSeen n r and_then check_of FacesClose n r and_then check_of PositionsAgree n r

-- 21: "no sightings, over 512, or field lists of unequal length", and answer lists of another length than 16
abbrev pub lengths_reply : Book → ℕ → ℕ → Reply
lengths_reply b directions pairs =
    refuse_if (not (lengths_fit (sightings b) (length b.object) (length b.face) (length b.reading) directions pairs)) Sightings

-- 22: "sighting field out of range", by ordinal
abbrev pub fields_reply : Book → Reply
fields_reply b = refuse_first (sightings b) (field_fault b) (λ h. Field (h + 1))

-- the reply, by the sightings and the lengths of the two lent answer lists
unfoldable pub reply_of : Book → ℕ → ℕ → Reply
reply_of b directions pairs = lengths_reply b directions pairs and_then fields_reply b and_then table_reply (counts b) (readings b)

-- everything that an operation on this input must leave: the reply and the two lent lists, which held d and p before;
-- "a refusal returns number and place only; all lent lists stay as they were"
pub record Answers (b : Book) (d p : List ℤ) (reply : Reply) (directionsNow pairsNow : List ℤ) : Type 0 where
  pub replied : reply ≡ reply_of b (length d) (length p)
  -- in the rules' numbers: number and place
  pub verdict : verdict_of reply ≡ verdict_of (reply_of b (length d) (length p))
  pub directions_are : directionsNow ≡ leaves reply (directions (counts b) (readings b)) d
  pub pairs_are : pairsNow ≡ leaves reply (pair_counts (counts b)) p
