-- The record of a direction: its value from 0 to C - 1, and its inverse weight q from 1 to 10.
use Rattle.std.specs.Prelude.{Bool, ◌||◌, List, ℕ, ◌+◌, length, get_or, ℤ, pos, ◌-ℤ◌}
use Rattle.exact.specs.Circle.{C}
use Rattle.exact.specs.Outside.{outside}
use Rattle.reply.specs.Reply.{Reply}
use Rattle.reply.specs.declared.Refusal.TheVariants.{OutOfRange}
use Rattle.reply.specs.Checks.{refuse_first}

abbrev pub weight_out_of_range : ℤ → Bool
weight_out_of_range q = outside (pos 1) (pos 10) q

abbrev pub out_of_range : ℤ → ℤ → Bool
out_of_range direction q = outside (pos 0) (C -ℤ pos 1) direction || weight_out_of_range q

-- the direction of that number, counted from 0, is out of range
abbrev pub fault_at : List ℤ → List ℤ → ℕ → Bool
fault_at ds qs i = out_of_range (get_or ds i (pos 0)) (get_or qs i (pos 0))

-- 3 for direction or q, going by direction number
unfoldable pub directions_reply : List ℤ → List ℤ → Reply
directions_reply ds qs = refuse_first (length ds) (fault_at ds qs) (λ i. OutOfRange (i + 1))
