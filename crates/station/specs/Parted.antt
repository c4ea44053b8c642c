-- What the rescue of a list of sightings means to its reader, beside the rule in specs/Rescue. Sightings count from 0 here, ordinals from 1.
use Rattle.std.specs.Prelude.{◌≡◌, ◌⊎◌, ℕ, ◌+◌, ◌-◌, ◌<◌, ◌≤◌, length, get_or, Ok, Err}
use Rattle.reply.specs.declared.Refusal.TheVariants.{Spread}
use Rattle.station.specs.Sightings.{Book, sightings, position_at, object_at, face_at, reading_at}
use Rattle.station.specs.Rearrangement.{Rearranged}
use Rattle.station.specs.Replies.{reply_of}
use Rattle.station.specs.Rescue.{reason, kept, ordinals, reasons}

-- "Kept and dropped together are the list given, each once."
pub record Parted (b : Book) : Type 0 where
  -- where the m-th kept and the m-th dropped sighting stood in the list
  pub kept_from : ℕ → ℕ
  pub dropped_from : ℕ → ℕ
  pub kept_in : (m : ℕ) → m < sightings (kept b) → kept_from m < sightings b
  pub dropped_in : (m : ℕ) → m < length (ordinals b) → dropped_from m < sightings b
  -- "in their old order"
  pub kept_order : (k m : ℕ) → k < m → m < sightings (kept b) → kept_from k < kept_from m
  pub dropped_order : (k m : ℕ) → k < m → m < length (ordinals b) → dropped_from k < dropped_from m
  -- the kept sighting has its four fields
  pub position_is : (m : ℕ) → m < sightings (kept b) → position_at (kept b) m ≡ position_at b (kept_from m)
  pub object_is : (m : ℕ) → m < sightings (kept b) → object_at (kept b) m ≡ object_at b (kept_from m)
  pub face_is : (m : ℕ) → m < sightings (kept b) → face_at (kept b) m ≡ face_at b (kept_from m)
  pub reading_is : (m : ℕ) → m < sightings (kept b) → reading_at (kept b) m ≡ reading_at b (kept_from m)
  pub objects_long : length (kept b).object ≡ sightings (kept b)
  pub faces_long : length (kept b).face ≡ sightings (kept b)
  pub readings_long : length (kept b).reading ≡ sightings (kept b)
  -- the dropped one has its ordinal and a reason
  pub ordinal_is : (m : ℕ) → m < length (ordinals b) → get_or (ordinals b) m 0 ≡ dropped_from m + 1
  pub reason_is : (m : ℕ) → m < length (ordinals b) → get_or (reasons b) m 0 ≡ reason b (dropped_from m)
  pub reason_in : (m : ℕ) → m < length (ordinals b) → (1 ≤ get_or (reasons b) m 0) × (get_or (reasons b) m 0 ≤ 4)
  pub reasons_long : length (reasons b) ≡ length (ordinals b)
  -- every sighting of the list is one of them, and none is both
  pub each : (h : ℕ) → h < sightings b → ((m : ℕ) × (m < sightings (kept b)) × (kept_from m ≡ h)) ⊎ ((m : ℕ) × (m < length (ordinals b)) × (dropped_from m ≡ h))
  pub not_both : (k m : ℕ) → k < sightings (kept b) → m < length (ordinals b) → kept_from k ≡ dropped_from m → ⊥
  pub together : sightings (kept b) + length (ordinals b) ≡ sightings b

-- a list "sound under 23 to 25": the station accepts it, or refuses it with 26 alone
abbrev pub Sound : Book → Type 0
Sound b = (reply_of b 16 16 ≡ Ok tt) ⊎ ((p : ℕ) × (o : ℕ) × (reply_of b 16 16 ≡ Err (Spread p o)))

-- "the order of arrival does not decide": of two orders of the same sightings the same ones are dropped, each with its reason. Its ordinal says where it
-- stands in the order that is given
pub record DroppedAlike {b b' : Book} (q : Rearranged b b') : Type 0 where
  pub from : ℕ → ℕ
  pub to : ℕ → ℕ
  pub from_in : (m : ℕ) → m < length (ordinals b) → from m < length (ordinals b)
  pub to_in : (m : ℕ) → m < length (ordinals b) → to m < length (ordinals b)
  pub back : (m : ℕ) → m < length (ordinals b) → to (from m) ≡ m
  pub forth : (m : ℕ) → m < length (ordinals b) → from (to m) ≡ m
  pub ordinal_is : (m : ℕ) → m < length (ordinals b) → get_or (ordinals b) (from m) 0 ≡ q.from (get_or (ordinals b') m 0 - 1) + 1
  pub reason_is : (m : ℕ) → m < length (ordinals b) → get_or (reasons b') m 0 ≡ get_or (reasons b) (from m) 0
  -- and both lists keep their length
  pub ordinals_long : length (ordinals b') ≡ length (ordinals b)
  pub reasons_long : length (reasons b') ≡ length (reasons b)
