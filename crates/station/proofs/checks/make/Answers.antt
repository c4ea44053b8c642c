-- `checks::make` meets its contract: what `find` answers is the first place at fault, or that there is none. Assumes nothing.
use Rattle.std.proofs.Common.{◌≡◌, sym, rules, tests, arith, Bool, true, false, ℕ, ◌≤◌, ◌<◌, MatchOption}
use Rattle.std.proofs.lemmas.Iterator.{first_from_Range}
use Rattle.reply.proofs.Checking.{refuse_at, refuse_none}
use Rattle.station.specs.Replies.{fault, refusal}
use Rattle.station.proofs.checks.make.Goals as goal
use Rattle.station.proofs.checks.make.Goals.{After-find}

abbrev at_fault : After-find → ℕ → Bool
at_fault c = fault c.args.check c.args.table.now.count c.args.table.now.sums

found : (c : After-find) → MatchOption c.find.result ((k : ℕ) → 0 ≤ k → k < 256 → at_fault c k ≡ false)
    (λ i. (0 ≤ i) × (i < 256) × (at_fault c i ≡ true) × ((k : ℕ) → 0 ≤ k → k < i → at_fault c k ≡ false))
found c =
    first_from_Range _ _ _ _ (λ k. at_fault c k ≡ true) (λ k. at_fault c k ≡ false) c.find.ensures.ran (λ x q k. search (rules, tests)) (λ x q k. search (rules, tests))

pub refusal-requires : goal.refusal-requires
refusal-requires c = (rw c.in-Some.is at (found (goal.at.refusal-requires c).After-find)).1

pub returns-in-Some : goal.returns-in-Some
returns-in-Some c =
    let f = goal.at.returns-in-Some c in let p = rw c.in-Some.is at (found f.After-find) in
    rw c.refusal.ensures (sym (refuse_at 256 (at_fault f.After-find) (refusal c.args.check) c.in-Some.k p.1 (λ h l. p.3 h (omega arith) l) p.2))

pub returns-in-None : goal.returns-in-None
returns-in-None c =
    let f = goal.at.returns-in-None c in let p = rw c.in-None.is at (found f.After-find) in
    sym (refuse_none 256 (at_fault f.After-find) (refusal c.args.check) (λ h l. p h (omega arith) l))
