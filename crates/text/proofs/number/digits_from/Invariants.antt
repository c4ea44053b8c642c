-- `text::number::digits_from` meets its contract: i digits have a value below 10 ^ i. Assumes nothing.
use Rattle.std.proofs.Common.{◌≡◌, ◌-◌, ◌<◌, ◌^◌, take, drop, Some}
use Rattle.text.specs.Numbers.{read_digits}
use Rattle.text.proofs.number.digits_from.Given as goal

abbrev pub invariant-loop-end : goal.invariant-loop-end
invariant-loop-end l = (l.value < 10 ^ (l.end - l.start)) × (read_digits 0 (take (l.end - l.start) (drop l.start l.text)) ≡ Some l.value)
