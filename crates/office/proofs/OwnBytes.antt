-- A line is the file's own bytes, from its start on. Assumes nothing.
--   own_bytes            as many bytes as the line has, from its start, are the line
use mathlib.Core.Path.{◌≡◌, refl, ap}
use mathlib.Core.Bool.{Bool, true, false, cond}
use mathlib.Core.List.{List, [], ◌∷◌}
use Prim.Native.Nat.{ℕ, zero, suc}
use lib.ListN.{length, take, drop}
use lib.Dec.{ltb}
use Rattle.text.specs.Parts.{bytes_before, place_from}
use Rattle.text.specs.Lines.{LF, line_at}

first_taken : (n : ℕ) (bytes : List ℕ) → take (length (take n bytes)) bytes ≡ take n bytes
first_taken zero bytes = refl
first_taken (suc n) [] = refl
first_taken (suc n) (b ∷ bytes) = ap (λ (rest : List ℕ). b ∷ rest) (first_taken n bytes)

either : (whole : Bool) (n : ℕ) (bytes : List ℕ) → take (length (cond whole (take n bytes) [])) bytes ≡ cond whole (take n bytes) []
either true n bytes = first_taken n bytes
either false n bytes = refl

pub own_bytes : (file : List ℕ) (start : ℕ) → take (length (line_at file start)) (drop start file) ≡ line_at file start
unfolding line_at
own_bytes file start = either (ltb (place_from LF file start) (length file)) (bytes_before LF (drop start file)) (drop start file)
