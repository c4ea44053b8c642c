-- What the inner functions of the rescue hand each other: why each position and object is dropped, by its place in the order of the checks, and the
-- tables of the list that is left. No rule: a caller outside sees none of it.
use Rattle.std.specs.Prelude.{Bool, cond, List, ℕ, zero, suc, ◌%◌, eqb, ℤ, pos, get_or, replicate}
use Rattle.exact.specs.Tabulate.{tabulate}
use Rattle.station.specs.declared.checks.Check.{Check}
use Rattle.station.specs.Replies.{fault}
use Rattle.station.specs.Rescue.{step_check}

-- the place, or the sighting, at h has no reason
abbrev pub free : List ℕ → ℕ → Bool
free reasons h = eqb (get_or reasons h 0) 0

-- a step notes its number at each place that its check finds spoilt in the tables n and r
unfoldable pub noted : Check → (step : ℕ) → (n r : List ℤ) → (why : List ℕ) → List ℕ
noted check step n r why = tabulate 256 (λ k. cond (fault check n r k) step (get_or why k 0))

-- a table without what stands, of either face, at a place with a reason
unfoldable pub cleared : (why : List ℕ) (table : List ℤ) → List ℤ
cleared why table = tabulate 512 (λ k. cond (free why (k % 256)) (get_or table k (pos 0)) (pos 0))

-- the reasons after the first k steps, from the tables of the list as it was given
unfoldable pub why_after : ℕ → (n r : List ℤ) → List ℕ
why_after zero n r = replicate 256 0
why_after (suc k) n r = noted (step_check k) (suc k) (cleared (why_after k n r) n) (cleared (why_after k n r) r) (why_after k n r)
