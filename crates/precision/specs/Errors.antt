-- "Probable error of a direction": mean and probable error, from the printed corrections u, the inverse weights q and the number n of conditions.
use Rattle.std.specs.Prelude.{cond, List, ℕ, zero, suc, ◌+◌, ◌*◌, ◌/◌, ltb, length, ℤ, pos, nat_abs, ◌*ℤ◌}
use Rattle.exact.specs.Nearest.{nearest}
use Rattle.exact.specs.Sum.{sum}
use Rattle.doolittle.specs.Table.{at}
use Rattle.precision.specs.declared.Errors.{Errors}

-- "Take S = sum of 2,520*u*u/q, always whole."
abbrev pub weighted_square : (q u : ℤ) → ℤ
weighted_square q u = pos (2520 * (nat_abs u * nat_abs u) / nat_abs q)

unfoldable pub S : (m : ℕ) (q u : ℕ → ℤ) → ℤ
S m q u = sum m (λ i. weighted_square (q i) (u i))

-- from e upward, in at most so many steps: to where the next number, squared and c times, is above s
unfoldable pub climb : (c s steps e : ℕ) → ℕ
climb c s zero e = e
climb c s (suc steps) e = cond (ltb s ((e + 1) * (e + 1) * c)) e (climb c s steps (e + 1))

-- the largest whole e with e*e*c not above s, for a c above 0; e is then not above s itself, so s steps are enough
unfoldable pub root : (c s : ℕ) → ℕ
root c s = climb c s s 0

-- "The mean error is the largest whole e with e*e*2,520*n not above S."
unfoldable pub mean_error : (n : ℕ) (S : ℤ) → ℤ
mean_error n S = pos (root (2520 * n) (nat_abs S))

-- "The probable error is nearest(6,745*e / 10,000)."
unfoldable pub probable_error : (e : ℤ) → ℤ
probable_error e = nearest (pos 6745 *ℤ e) (pos 10000)

-- S of lists of u and q, and both errors
abbrev pub S_of : (us qs : List ℤ) → ℤ
S_of us qs = S (length us) (at qs) (at us)

abbrev pub errors : (mean probable : ℤ) → Errors
errors mean probable = record { mean = mean; probable = probable }

unfoldable pub errors_of : (us qs : List ℤ) (n : ℕ) → Errors
errors_of us qs n = let e = mean_error n (S_of us qs) in errors e (probable_error e)
