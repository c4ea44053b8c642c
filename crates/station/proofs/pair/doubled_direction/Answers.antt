-- `pair::doubled_direction` meets its contract: readings within 512 circles, s within half a circle. Assumes nothing.
use Rattle.std.proofs.Common.{◌≡◌, ◌∙◌, ap, arith, ℤ, pos, ◌-ℤ◌, ◌+ℤ◌, ◌*ℤ◌, to_z, of_z, w64}
use Rattle.std.proofs.lemmas.Int.{ints}
use Rattle.exact.specs.Circle.{C, modulo}
use Rattle.exact.proofs.Bound.{read}
use Rattle.station.specs.Table.{slot}
use Rattle.station.specs.Means.{L, s, g}
use Rattle.station.proofs.Figures.{s_size, told}
use Rattle.station.proofs.pair.doubled_direction.Goals as goal
use Rattle.station.proofs.pair.doubled_direction.Goals.{After-left_reading-2, After-faces_differ, After-faces_differ-2}

-- what the machine has of 2 (L - L1), and of its sum with s
module _ (c : After-left_reading-2) where
  first_reading : let a = c.args in c.left_reading-2.result ≡ L a.table.now.sums a.at.position 0
  first_reading = let p = c.initial-initial.ensures in c.left_reading-2.ensures ∙ (λ t. L c.args.table.now.sums (p.0 t) (p.1 t))

  abbrev turned : ℤ
  turned = to_z w64 (of_z w64 (pos 2 *ℤ to_z w64 (of_z w64 (to_z w64 (of_z w64 c.left_reading.result) -ℤ to_z w64 (of_z w64 c.left_reading-2.result)))))

  turned_is : let a = c.args in turned ≡ pos 2 *ℤ (L a.table.now.sums a.at.position a.at.object -ℤ L a.table.now.sums a.at.position 0)
  turned_is = let a = c.args in let small = a.table.now.small in omega (arith, ints, first_reading, small (slot 0 a.at.position a.at.object), small (slot 0 a.at.position 0))

first_differ : (c : After-faces_differ-2) → c.faces_differ-2.result ≡ s c.args.table.now.sums c.args.at.position 0
first_differ c = let p = c.initial-initial.ensures in c.faces_differ-2.ensures ∙ (λ t. s c.args.table.now.sums (p.0 t) (p.1 t))

module _ (c : After-faces_differ) where
  abbrev before : After-left_reading-2
  before = (goal.at.After-faces_differ c).After-left_reading-2

  with_s : let a = c.args in let r = a.table.now.sums in
      to_z w64 (of_z w64 (turned before +ℤ to_z w64 (of_z w64 c.faces_differ.result))) ≡ pos 2 *ℤ (L r a.at.position a.at.object -ℤ L r a.at.position 0) +ℤ s r a.at.position a.at.object
  with_s = let a = c.args in let small = a.table.now.small in let t = turned_is before in omega (arith, ints, small (slot 0 a.at.position a.at.object), small (slot 0 a.at.position 0), s_size a.table.now.sums a.at.position a.at.object)

pub overflow_add-turned : goal.overflow_add-turned
overflow_add-turned c =
    let a = c.args in let small = a.table.now.small in let t = turned_is (goal.at.overflow_add-turned c).After-left_reading-2 in
    omega (arith, ints, small (slot 0 a.at.position a.at.object), small (slot 0 a.at.position 0), s_size a.table.now.sums a.at.position a.at.object)

pub overflow_sub-turned-2 : goal.overflow_sub-turned-2
overflow_sub-turned-2 c =
    let a = c.args in let small = a.table.now.small in let t = with_s (goal.at.overflow_sub-turned-2 c).After-faces_differ in let d = first_differ c in
    omega (arith, ints, small (slot 0 a.at.position a.at.object), small (slot 0 a.at.position 0), s_size a.table.now.sums a.at.position a.at.object, s_size a.table.now.sums a.at.position 0)

pub returns : goal.returns
unfolding g
returns c =
    let fits = overflow_sub-turned-2 (goal.at.returns c).After-faces_differ-2 in
    let e = read fits ∙ (λ u. with_s (goal.at.returns c).After-faces_differ u -ℤ told c.faces_differ-2.type_inv (first_differ (goal.at.returns c).After-faces_differ-2) u) in
    told c.modulo.type_inv (c.modulo.ensures ∙ ap (λ (z : ℤ). modulo z (pos 2 *ℤ C)) e)
