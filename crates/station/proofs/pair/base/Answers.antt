-- `pair::base` meets its contract: the pair that `find` has found is that of the lowest position. Assumes nothing.
use Rattle.std.proofs.Common.{◌≡◌, ◌<◌, ◌≤◌, ◌∙◌, refl, rules, tests, ℕ, ℤ, MatchOption}
use Rattle.std.specs.Prelude.{Option, Some, None, IsSomeAnd}
use Rattle.std.proofs.lemmas.Iterator.{YieldsList-from_range, YieldsList-from_map_by}
use Rattle.std.proofs.lemmas.Iterator.Search.{find_from_yields_List}
use Rattle.station.specs.Means.{g, lowest}
use Rattle.station.specs.declared.table.PairAt.{PairAt}
use Rattle.station.proofs.Chains.{stand, is_seen, lowest_found}
use Rattle.station.proofs.pair.base.Goals as goal
use Rattle.station.proofs.pair.base.Goals.{After-find}

found : (c : After-find) → let n = c.args.table.now.count in let j = c.args.object in
    MatchOption c.find.result (16 ≤ lowest n j) (λ at. (lowest n j < 16) × ((at.position ≡ lowest n j) × (at.object ≡ j)))
found c =
    let n = c.args.table.now.count in let j = c.args.object in
    lowest_found n j c.find.result
    (find_from_yields_List (is_seen n j) _ _ _ c.find.ensures.ran
    (YieldsList-from_map_by _ stand (λ (i : ℕ). (i, j)) (YieldsList-from_range 0 16 16 c.map.ensures.source refl) c.map.ensures.closure (λ x r q k. search rules))
    (λ x b q k. search (rules, tests)))

-- what is made of an answer, where it is told what each of the two is
made_of : (r : Option PairAt) (made : Option ℤ) (N : Type 0) {S : PairAt → Type 0} {Q : PairAt → ℤ → Type 0} {T : ℤ → Type 0} → MatchOption r N S
    → MatchOption r (made ≡ None) (λ at. IsSomeAnd made (Q at)) → ((at : PairAt) (b : ℤ) → S at → Q at b → T b) → MatchOption made N T
made_of None made N m p f = rw p m
made_of (Some at) None N m p f = absurd p
made_of (Some at) (Some b) N m p f = f at b m p

pub returns : goal.returns
returns c =
    let r = c.args.table.now.sums in
    made_of c.find.result c.map-2.result _ (found (goal.at.returns c).After-find) c.map-2.ensures.cases
    (λ at b m q. let here : b ≡ g r at.position at.object = search (rules, tests) in (m.0, here ∙ (λ t. g r (m.1.0 t) (m.1.1 t))))
