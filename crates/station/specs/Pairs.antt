-- The inspectorate's first question: what a pair is, and what it means that left and right are joined only where position and object agree.
use Rattle.std.specs.Prelude.{◌≡◌, Bool, true, ◌⊎◌, ℕ, ◌+◌, ◌<◌, pos, ◌*ℤ◌}
use Rattle.exact.specs.Sum.{sum}
use Rattle.station.specs.Sightings.{Book, sightings, position_at, object_at, face_at, reading_at}
use Rattle.station.specs.SumWhere.{sum_where}
use Rattle.station.specs.Table.{one, counts, readings}
use Rattle.station.specs.Means.{L, R, seen, P}

-- the sighting at place h of the list is of face f (0 left, 1 right), position p and object o
pub record Sighted (b : Book) (f p o h : ℕ) : Type 0 where
  pub listed : h < sightings b
  pub face_is : face_at b h ≡ pos f
  pub position_is : position_at b h ≡ pos p
  pub object_is : object_at b h ≡ pos o

-- "Left and right are joined only where position and object agree": the sightings at h and k are the one left and the one right of position p and object o
pub record Pair (b : Book) (p o h k : ℕ) : Type 0 where
  pub left : Sighted b 0 p o h
  pub right : Sighted b 1 p o k
  pub only_left : (m : ℕ) → Sighted b 0 p o m → m ≡ h
  pub only_right : (m : ℕ) → Sighted b 1 p o m → m ≡ k

-- the pair of position i + 1 and object j + 1: its two sightings, and that L and R there are what these two read
pub record Joined (b : Book) (i j : ℕ) : Type 0 where
  pub left : ℕ
  pub right : ℕ
  pub pair : Pair b (i + 1) (j + 1) left right
  pub left_reading : L (readings b) i j ≡ reading_at b left
  pub right_reading : R (readings b) i j ≡ reading_at b right

-- the sighting at place m is the left or the right of a pair
pub record Entered (b : Book) (m : ℕ) : Type 0 where
  pub i : ℕ
  pub j : ℕ
  pub joined : Joined b i j
  pub which : (m ≡ joined.left) ⊎ (m ≡ joined.right)

pub record JoinedRightly (b : Book) : Type 0 where
  -- every pair that enters a direction is made of one left and one right sighting of the list with the same position and the same object
  pub made : (i j : ℕ) → i < 16 → j < 16 → seen (counts b) i j ≡ true → Joined b i j
  -- and every such pair enters, so that `seen` is a test as `counted` below asks for
  pub is_seen : (i j : ℕ) → i < 16 → j < 16 → Joined b i j → seen (counts b) i j ≡ true
  -- each sighting enters a pair,
  pub enters : (m : ℕ) → m < sightings b → Entered b m
  -- and no sighting enters two: not as the left of both, nor as the right of both, nor as the left of one and the right of another
  pub one_left : {p o p' o' h k k' : ℕ} → Pair b p o h k → Pair b p' o' h k' → (p ≡ p') × (o ≡ o')
  pub one_right : {p o p' o' h h' k : ℕ} → Pair b p o h k → Pair b p' o' h' k → (p ≡ p') × (o ≡ o')
  pub one_face : {p o p' o' h k k' : ℕ} → Pair b p o h k → Pair b p' o' k' h → ⊥
  -- P counts those pairs: it is the number of positions that pass any test which tells the positions with a pair,
  pub counted : (j : ℕ) → j < 16 → (test : ℕ → Bool) → ((i : ℕ) → i < 16 → test i ≡ true → Joined b i j) → ((i : ℕ) → i < 16 → Joined b i j → test i ≡ true) → P (counts b) j ≡ sum_where 16 test one
  -- and every sighting is in one of them: twice the sum of all P is the number of sightings
  pub all_counted : pos 2 *ℤ sum 16 (P (counts b)) ≡ pos (sightings b)
