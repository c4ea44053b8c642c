-- One term of a condition: its kind, the ranges of its fields, what it adds to the coefficients and what it adds to w.
use Rattle.std.specs.Prelude.{Bool, true, false, not, cond, ◌&&◌, ◌||◌, List, ℕ, zero, suc, eqb, ℤ, pos, neg_ℤ, nat_abs, ◌+ℤ◌, ◌-ℤ◌, get_or, Option, Some, None}
use Rattle.exact.specs.Circle.{C, modulo}
use Rattle.exact.specs.Outside.{outside}
use Rattle.exact.specs.Same.{same}
use Rattle.condition.specs.declared.Kind.{Kind}
use Rattle.condition.specs.declared.Kind.TheVariants.{Angle, Side}
use Rattle.condition.specs.declared.term.Letter.{Letter}
use Rattle.condition.specs.declared.term.Letter.TheVariants.{P, F, L, R}
use Rattle.condition.specs.declared.term.Term.{Term}

-- ---- the kind of a term
-- "Under A: P i k, and F fixed angle [..]. Under S: L or R, logarithm, d, i, k." A kind is lent as the code of its letter: P is 80, F 70,
-- L 76 and R 82; any other number is no kind
unfoldable pub letter_of : ℤ → Option Letter
letter_of code =
    cond (same code (pos 80)) (Some P) (cond (same code (pos 70)) (Some F) (cond (same code (pos 76)) (Some L) (cond (same code (pos 82)) (Some R) None)))

abbrev pub suits : Kind → Option Letter → Bool
suits Angle (Some P) = true
suits Angle (Some F) = true
suits Angle (Some L) = false
suits Angle (Some R) = false
suits Angle None = false
suits Side (Some P) = false
suits Side (Some F) = false
suits Side (Some L) = true
suits Side (Some R) = true
suits Side None = false

-- ---- the ranges of its fields; a field that the kind doesn't use is not read
-- "i and k run from 0 to m."
abbrev pub astray : ℤ → Term → Bool
astray m t = outside (pos 0) m t.i || outside (pos 0) m t.k

-- "A fixed length has i = k = 0 and d = 0."
abbrev pub fixed_length : Term → Bool
fixed_length t = same t.i (pos 0) && same t.k (pos 0) && same t.d (pos 0)

-- "a logarithm (0 to 200,000,000 [..]), a difference per second d ([..] -2,000 to 2,000) and an angle from i to k"; "i = k is refused otherwise"
abbrev pub side_fault : ℤ → Term → Bool
side_fault m t =
    outside (pos 0) (pos 200000000) t.value
    || outside (neg_ℤ (pos 2000)) (pos 2000) t.d
    || astray m t
    || (same t.i t.k && not (fixed_length t))

abbrev pub fault_of : Option Letter → ℤ → Term → Bool
fault_of (Some P) m t = astray m t || same t.i t.k
fault_of (Some F) m t = outside (pos 0) (C -ℤ pos 1) t.value
fault_of (Some L) m t = side_fault m t
fault_of (Some R) m t = side_fault m t
fault_of None m t = false

abbrev pub fault : ℤ → Term → Bool
fault m t = fault_of t.letter m t

-- of a term by its letter's code and its fields
unfoldable pub term_fault : ℤ → ℕ → ℤ → ℤ → ℤ → ℤ → Bool
term_fault m letter value d i k = fault m (record { letter = letter_of (pos letter); value = value; d = d; i = i; k = k })

-- ---- what it adds to the coefficient of direction number h
-- x at the number n, and nothing elsewhere
abbrev pub placed : ℕ → ℤ → ℕ → ℤ
placed n x h = cond (eqb n h) x (pos 0)

-- an angle from i to k with the factor x: "-x to i and +x to k"
abbrev pub turned : ℤ → Term → ℕ → ℤ
turned x t h = placed (nat_abs t.i) (neg_ℤ x) h +ℤ placed (nat_abs t.k) x h

-- An angle "adds -100 to the coefficient of i and +100 to that of k". A side term "on the left [..] adds -d to i and +d to k; on the right the reverse"
abbrev pub share_of : Option Letter → Term → ℕ → ℤ
share_of (Some P) t h = turned (pos 100) t h
share_of (Some F) t h = pos 0
share_of (Some L) t h = turned t.d t h
share_of (Some R) t h = turned (neg_ℤ t.d) t h
share_of None t h = pos 0

unfoldable pub share : Term → ℕ → ℤ
share t h = share_of t.letter t h

-- ---- what it adds to w
-- "Direction number 0 is a fixed initial: value 0". The list holds directions 1 to m
abbrev pub direction_at : List ℤ → ℕ → ℤ
direction_at directions zero = pos 0
direction_at directions (suc h) = get_or directions h (pos 0)

-- "An angle from i to k is (direction k - direction i) modulo C."
unfoldable pub angle : List ℤ → Term → ℤ
angle directions t = modulo (direction_at directions (nat_abs t.k) -ℤ direction_at directions (nat_abs t.i)) C

-- an angle, a fixed angle, a left logarithm, a right one with its sign turned
abbrev pub part_of : Option Letter → List ℤ → Term → ℤ
part_of (Some P) directions t = angle directions t
part_of (Some F) directions t = t.value
part_of (Some L) directions t = t.value
part_of (Some R) directions t = neg_ℤ t.value
part_of None directions t = pos 0

unfoldable pub part : List ℤ → Term → ℤ
part directions t = part_of t.letter directions t
