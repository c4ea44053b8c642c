-- `molsadriu_probable_error` meets its promise: what it hands over and takes back are the same numbers. Assumes nothing.
use Rattle.std.proofs.Common.{◌≡◌, to_z, of_z, w64, arith}
use Rattle.std.proofs.lemmas.Int.{to_z-of_z}
use Rattle.office.proofs.Telling.{found_told}
use Rattle.office.proofs.molsadriu_probable_error.Goals as goal

pub returns : goal.returns
returns c =
    let lent = c.args in let left = c.tell_given-told.new.place in
    let mean_lent : to_z w64 (of_z w64 lent.mean.now) ≡ lent.mean.now = grind (arith, to_z-of_z) in
    let probable_lent : to_z w64 (of_z w64 lent.probable.now) ≡ lent.probable.now = grind (arith, to_z-of_z) in
    let mean : to_z w64 (of_z w64 left.mean) ≡ left.mean = grind (arith, to_z-of_z) in
    let probable : to_z w64 (of_z w64 left.probable) ≡ left.probable = grind (arith, to_z-of_z) in
    rw (mean, probable) (rw (mean_lent, probable_lent) at (found_told c.tell_given-told.ensures.verdict c.tell_given-told.ensures.left c.probable_error.ensures))
