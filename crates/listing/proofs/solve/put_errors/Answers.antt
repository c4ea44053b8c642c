-- On a plain sheet nothing is put.
use Rattle.std.proofs.Common.{◌≡◌, ◌∙◌, ap, ap₂, to_z, of_z, w64, arith}
use Rattle.std.proofs.lemmas.Int.{to_z-of_z}
use Rattle.precision.specs.declared.Errors.{Errors}
use Rattle.text.proofs.Putting.{puts_as, puts_none, puts_most}
use Rattle.listing.specs.Listing.{e_line, on_sheet}
use Rattle.listing.proofs.solve.put_errors.Goals as goal

pub returns-in-Plain : goal.returns-in-Plain
unfolding on_sheet
returns-in-Plain c = rw c.in-Plain.is (puts_most (omega arith) puts_none)

pub returns-in-WithErrors : goal.returns-in-WithErrors
unfolding on_sheet
returns-in-WithErrors c =
    let found = c.estimate-mean.result in
    let mean : to_z w64 (of_z w64 found.mean) ≡ found.mean = grind (arith, to_z-of_z) in
    let probable : to_z w64 (of_z w64 found.probable) ≡ found.probable = grind (arith, to_z-of_z) in
    rw c.in-WithErrors.is (puts_as (ap₂ e_line mean probable ∙ ap (λ (x : Errors). e_line x.mean x.probable) c.estimate-mean.ensures) c.put_e.ensures)
