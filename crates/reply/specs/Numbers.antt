-- "Numbers of the refusals": the rules' table, one line for each case.
use Rattle.std.specs.Prelude.{ℕ, ◌+◌, ◌*◌}
use Rattle.reply.specs.declared.Refusal.{Refusal}
use Rattle.reply.specs.declared.Refusal.TheVariants.{Malformed, Count, OutOfRange, Coefficient, Misclosure, WeakRow, Correlate, Remainder, Correction, Sightings, Field, Faces, Initial, FacesApart, Spread, Nets, Sheet, NothingLeft}

abbrev pub number_of : Refusal → ℕ
number_of (Malformed line) = 1
number_of (Count line) = 2
number_of (OutOfRange line) = 3
number_of (Coefficient condition) = 4
number_of (Misclosure condition) = 5
number_of (WeakRow row) = 6
number_of (Correlate row) = 7
number_of (Remainder condition) = 8
number_of (Correction direction) = 9
number_of Sightings = 21
number_of (Field ordinal) = 22
number_of (Faces position object) = 23
number_of (Initial position) = 24
number_of (FacesApart position object) = 25
number_of (Spread position object) = 26
number_of (Nets net) = 30
number_of (Sheet line) = 31
number_of NothingLeft = 32

abbrev pub place_of : Refusal → ℕ
place_of (Malformed line) = line
place_of (Count line) = line
place_of (OutOfRange line) = line
place_of (Coefficient condition) = condition
place_of (Misclosure condition) = condition
place_of (WeakRow row) = row
place_of (Correlate row) = row
place_of (Remainder condition) = condition
place_of (Correction direction) = direction
place_of Sightings = 0
place_of (Field ordinal) = ordinal
place_of (Faces position object) = 100 * position + object
place_of (Initial position) = 100 * position + 1
place_of (FacesApart position object) = 100 * position + object
place_of (Spread position object) = 100 * position + object
place_of (Nets net) = net
place_of (Sheet line) = line
place_of NothingLeft = 0
