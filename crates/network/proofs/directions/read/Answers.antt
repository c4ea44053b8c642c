-- `network::directions::read` meets its contract: what has been read and the directions of what is left are those of the file. Assumes nothing.
use mathlib.Core.Path.{◌≡◌, sym, ◌∙◌}
use native.Mathlib.Omega.{arith}
use borrow.Author.Rules.{rules}
use lib.IntN.{ℤ}
use Rattle.std.specs.Prelude.{None, Some}
use Rattle.exact.proofs.Bound.{read_at}
use Rattle.network.specs.declared.record.Record.TheVariants.{Direction}
use Rattle.network.proofs.Walking.{Walked, walked_as, directions_stop}
use Rattle.network.proofs.Reading.{read_room, read_more, read_all}
use Rattle.network.proofs.directions.read.Goals as goal
use Rattle.network.proofs.directions.read.Goals.{In-Some-Direction}

pub returns-in_default : goal.returns-in_default
returns-in_default c =
    let no : (x y z : ℤ) → c.in_default.field-0.said ≡ Direction x y z → ⊥ = search rules in
    record {
      directions = read_all c.loop-direction.invariant
          (directions_stop c.args.file.now c.loop-direction.start
          (λ x y z next e. no x y z (let same : Some c.in_default.field-0 ≡ Some (record { said = Direction x y z; next = next }) = sym c.in_default.is ∙ c.read-turn.ensures ∙ e in cc))
          c.loop-direction.invariant.led);
      after = c.read-turn.ensures;
    }

pub returns-in_default-2-clause-directions : goal.returns-in_default-2-clause-directions
returns-in_default-2-clause-directions c =
    read_all c.loop-direction.invariant
    (directions_stop c.args.file.now c.loop-direction.start
    (λ x y z next e. let same : None ≡ Some (record { said = Direction x y z; next = next }) = sym c.in_default.is ∙ c.read-turn.ensures ∙ e in cc)
    c.loop-direction.invariant.led)

-- ---- a D line
module _ (c : In-Some-Direction) where
  known : (number : ℤ) × (c.in-Some-Direction.field-0.said ≡ Direction number c.in-Some-Direction.direction c.in-Some-Direction.weight)
  known = search rules

  line : Walked c.args.file.now c.loop-direction.start (Direction known.0 c.in-Some-Direction.direction c.in-Some-Direction.weight) c.in-Some-Direction.next
  line = walked_as c.read-turn.ensures c.in-Some-Direction.is known.1 (search rules)

pub bounds-directions-m : goal.bounds-directions-m
bounds-directions-m c = omega (arith, read_room c.loop-direction.invariant (line c) c.requires.0, c.loop-direction.invariant.long)

pub bounds-q-m : goal.bounds-q-m
bounds-q-m c = omega (arith, read_room c.loop-direction.invariant (line c) c.requires.0, c.loop-direction.invariant.q_long)

pub loop-direction-smaller : goal.loop-direction-smaller
loop-direction-smaller c = let w = line c in omega (arith, w.on, w.within)

pub loop-direction-preserved : goal.loop-direction-preserved
loop-direction-preserved c =
    rw c.in-Some-Direction.next-is
    (read_more c.loop-direction.invariant (line c) _ _ (read_at c.in-Some-Direction.direction (search rules)) (read_at c.in-Some-Direction.weight (search rules))
    (read_room c.loop-direction.invariant (line c) c.requires.0))
