-- `checks::spread_fault` meets its contract: an object that was sighted has a base. Assumes nothing.
use Rattle.std.proofs.Common.{◌≡◌, ◌∙◌, sym, refl, rules, tests, ltb, nat_abs, Bool, false, ℤ, Option, MatchOption}
use Rattle.std.specs.Prelude.{Some, None}
use Rattle.exact.proofs.Searching.{not_both}
use Rattle.station.specs.Means.{spread_fault, e}
use Rattle.station.proofs.Positions.{lowest_none}
use Rattle.station.proofs.checks.spread_fault.Goals as goal

-- an answer that is told in both cases of what it was made from
told_by : (r : Option ℤ) {N : Type 0} {S P : ℤ → Type 0} {answer due : Bool} → MatchOption r N S → MatchOption r (answer ≡ false) P
    → (N → due ≡ false) → ((b : ℤ) → S b → P b → answer ≡ due) → answer ≡ due
told_by None m p none some = p ∙ sym (none m)
told_by (Some b) m p none some = some b m p

pub returns-then-seen : goal.returns-then-seen
unfolding spread_fault
returns-then-seen c =
    let a = c.args in
    told_by c.base.result c.base.ensures c.is_some_and.ensures
    (λ l. not_both (sym c.if-seen.true ∙ c.seen.ensures ∙ lowest_none _ _ l _ a.at.inside.0))
    (λ b s p.
    let n = a.table.now.count in let r = a.table.now.sums in
    let far : c.is_some_and.result ≡ ltb 120000 (nat_abs (e n r a.at.position a.at.object)) = search (rules, tests) in
    far ∙ rw (sym c.seen.ensures ∙ c.if-seen.true) refl)
