-- `touched::shares_before` meets its contract, by what `any` answers over a range. Assumes nothing.
use Rattle.std.proofs.Common.{refl, sym, ◌∙◌, arith, rules, tests, leb, get_or}
use Rattle.std.proofs.lemmas.Iterator.{YieldsList-from_range}
use Rattle.std.proofs.lemmas.Iterator.Search.{any_from_yields_List}
use Rattle.exact.proofs.Searching.{some_in_range}
use Rattle.touched.specs.Inner.{shared_ones}
use Rattle.touched.proofs.shares_before.Goals as goal

pub returns : goal.returns
returns c =
    let w = c.args.words.now in let j = c.args.j in
    any_from_yields_List (λ k. leb 3 (shared_ones (get_or w j 0) (get_or w k 0))) _ _ _ c.any.ensures.ran
    (YieldsList-from_range 0 j j refl (omega arith)) (λ x b q k. search (rules, tests)) ∙ sym (some_in_range j _)
