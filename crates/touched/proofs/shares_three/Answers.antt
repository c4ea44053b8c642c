-- `touched::shares_three` meets its contract, by what `any` answers over a range. Assumes nothing.
use Rattle.std.proofs.Common.{refl, sym, ◌∙◌, arith, rules, tests}
use Rattle.std.proofs.lemmas.Iterator.{YieldsList-from_range}
use Rattle.std.proofs.lemmas.Iterator.Search.{any_from_yields_List}
use Rattle.exact.proofs.Searching.{some_in_range}
use Rattle.touched.specs.Inner.{shares_before}
use Rattle.touched.proofs.Touching.{shares_three_lem}
use Rattle.touched.proofs.shares_three.Goals as goal

pub returns : goal.returns
returns c =
    let a = c.args in let w = c.words-all.result in
    any_from_yields_List (shares_before w) _ _ _ c.any.ensures.ran (YieldsList-from_range 0 a.n a.n refl (omega arith)) (λ x b q k. search (rules, tests))
    ∙ sym (some_in_range a.n _) ∙ shares_three_lem a.a.now a.m a.n w c.words-all.ensures
