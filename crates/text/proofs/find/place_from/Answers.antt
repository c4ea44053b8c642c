-- `text::find::place_from` meets its contract: what std's search finds behind the start. Assumes nothing.
use Rattle.std.proofs.Common.{ap, ℕ, ◌+◌, drop, eqb, rules, tests}
use Rattle.std.proofs.lemmas.Iterator.{YieldsList-from_slice}
use Rattle.std.proofs.lemmas.Iterator.Search.{position_from_yields_List}
use Rattle.text.proofs.Parting.{found_or, rest_from}
use Rattle.text.proofs.find.place_from.Goals as goal

pub returns : goal.returns
unfolding Rattle.text.specs.Parts.place_from
returns c =
    let a = c.args in let s = drop a.start a.text.now in let after = rest_from a.start a.text.now in
    let found =
    position_from_yields_List (λ b. eqb b a.byte) _ _ c.position-before.result c.position-before.ensures.ran (YieldsList-from_slice s (rw (c.iter.ensures.rest, c.min.ensures) after))
    (λ x b q k. search (rules, tests)) in
    ap (λ (n : ℕ). a.start + n) (rw (c.unwrap_or.ensures, c.min.ensures, after, found) (found_or a.byte s))
