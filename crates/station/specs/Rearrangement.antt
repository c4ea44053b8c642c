-- The same sightings in another order of arrival.
use Rattle.std.specs.Prelude.{◌≡◌, ℕ, ◌<◌, length}
use Rattle.station.specs.Sightings.{Book, sightings, position_at, object_at, face_at, reading_at}

-- the sighting at place h of b' is the one at place `from h` of b, and `to` leads back: each sighting of b stands in b' once
pub record Rearranged (b b' : Book) : Type 0 where
  pub from : ℕ → ℕ
  pub to : ℕ → ℕ
  pub from_in : (h : ℕ) → h < sightings b → from h < sightings b
  pub to_in : (h : ℕ) → h < sightings b → to h < sightings b
  pub back : (h : ℕ) → h < sightings b → to (from h) ≡ h
  pub forth : (h : ℕ) → h < sightings b → from (to h) ≡ h
  pub position_is : (h : ℕ) → h < sightings b → position_at b' h ≡ position_at b (from h)
  pub object_is : (h : ℕ) → h < sightings b → object_at b' h ≡ object_at b (from h)
  pub face_is : (h : ℕ) → h < sightings b → face_at b' h ≡ face_at b (from h)
  pub reading_is : (h : ℕ) → h < sightings b → reading_at b' h ≡ reading_at b (from h)
  -- and every list keeps its length
  pub positions_long : length b'.position ≡ length b.position
  pub objects_long : length b'.object ≡ length b.object
  pub faces_long : length b'.face ≡ length b.face
  pub readings_long : length b'.reading ≡ length b.reading
