-- Whole turns of a circle: the floor of a quotient, and what is left of a number when whole turns are taken away.
use Rattle.std.specs.Prelude.{◌/◌, ℤ, pos, negsuc, nat_abs, ◌-ℤ◌, ◌*ℤ◌}

-- the circle, in 0.001 second
abbrev pub C : ℤ
C = pos 1296000000

-- floor (n / d) for a divisor above 0: the largest whole number that is not above n / d
unfoldable pub floor : ℤ → ℤ → ℤ
floor (pos n) d = pos (n / nat_abs d)
floor (negsuc n) d = negsuc (n / nat_abs d)

-- z modulo m: what is left when whole m are taken away, from 0 to m - 1
unfoldable pub modulo : ℤ → ℤ → ℤ
modulo z m = z -ℤ m *ℤ floor z m
