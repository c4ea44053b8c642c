-- `book::lines::Means::objects_seen` meets its contract, by what `count` answers of a filtered list. Assumes nothing.
use Rattle.std.proofs.Common.{◌≡◌, ◌∙◌, ap, rules, tests, arith, length}
use Rattle.std.proofs.lemmas.Iterator.{YieldsList-from_slice}
use Rattle.std.proofs.lemmas.Iterator.Consumers.{YieldsList-at, YieldsList-from_filter, count_from_yields_List}
use Rattle.book.specs.Listing.{objects_seen}
use Rattle.book.proofs.Composing.{has_pair, seen_counted}
use Rattle.book.proofs.lines.Means.objects_seen.Goals as goal

pub returns : goal.returns
returns c =
    let pairs = c.args.self.now.pairs in let all : length pairs ≡ 16 = omega arith in
    count_from_yields_List c.filter.result _ c.count.ensures.ran
    (YieldsList-from_filter _ has_pair (YieldsList-at c.filter.ensures.source (YieldsList-from_slice pairs cc)) c.filter.ensures.closure (λ x b q k. search (rules, tests)))
    ∙ seen_counted pairs ∙ ap (objects_seen pairs) all
