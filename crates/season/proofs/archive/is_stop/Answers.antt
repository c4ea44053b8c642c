-- `season::archive::is_stop` meets its contract. Assumes nothing.
use Rattle.std.proofs.Common.{◌≡◌, sym, ◌∙◌, ap, ℕ, ◌-◌, length, get_or, take, drop, length-drop, arith}
use Rattle.std.specs.Prelude.{eqb}
use Rattle.std.proofs.lemmas.Bool.{ne_eqb}
use native.Mathlib.Nat.{add-zero}
use lib.Seq.{length-take-le, get_or-take, get_or-drop}
use Rattle.season.proofs.Walking.{stop_byte, no_stop}
use Rattle.season.proofs.archive.is_stop.Goals as goal

pub returns-then-end-at-eq1 : goal.returns-then-end-at-eq1
returns-then-end-at-eq1 c =
    let a = c.args in let text = a.archive.now in let line = take (a.end - a.at) (drop a.at text) in
    let one : a.end - a.at ≡ 1 = omega arith in
    let long : length line ≡ 1 = length-take-le (a.end - a.at) (drop a.at text) (omega (arith, length-drop a.at text)) ∙ one in
    sym (stop_byte line long
    ∙ ap (λ (b : ℕ). eqb b 46) (get_or-take (a.end - a.at) (drop a.at text) 0 0 (omega arith) ∙ get_or-drop a.at text 0 0 ∙ ap (λ (n : ℕ). get_or text n 0) (add-zero a.at)))

pub returns-else-end-at-eq1 : goal.returns-else-end-at-eq1
returns-else-end-at-eq1 c =
    let a = c.args in let line = drop a.at a.archive.now in let short : (a.end - a.at ≡ 1) → ⊥ = c.if-end-at-eq1.false in
    ne_eqb (a.end - a.at) 1 short ∙ sym (no_stop (take (a.end - a.at) line) (λ e. short (sym (length-take-le (a.end - a.at) line (omega (arith, length-drop a.at a.archive.now))) ∙ e)))
