-- The promises leave nothing open: two answers that meet one promise are equal. Assumes nothing.
--   one_answer       of `out_of_range`; one_weight: of `weight_out_of_range`
--   (of `check`: reply's one_reply)
use mathlib.Core.Path.{◌≡◌}
use mathlib.Core.Bool.{Bool}
use lib.IntN.{ℤ}
use Rattle.exact.proofs.Unique.{only}
use Rattle.direction.specs.Ranges.{weight_out_of_range, out_of_range}

pub one_answer : (direction q : ℤ) (a b : Bool) → a ≡ out_of_range direction q → b ≡ out_of_range direction q → a ≡ b
one_answer direction q a b x y = only x y

pub one_weight : (q : ℤ) (a b : Bool) → a ≡ weight_out_of_range q → b ≡ weight_out_of_range q → a ≡ b
one_weight q a b x y = only x y
