use Rattle.std.proofs.Common.{ap, ◌∙◌, rules}
use Rattle.std.proofs.lemmas.Iterator.{YieldsList-from_zip, YieldsList-from_slice}
use Rattle.std.proofs.lemmas.Iterator.Consumers.{count_from_yields_List}
use Rattle.std.proofs.lemmas.Iterator.Search.{YieldsList-from_take_while}
use Rattle.list.proofs.Marking.{alike, alike_front}
use Rattle.list.proofs.marks.common.Goals as goal

pub returns : goal.returns
returns c =
    let pairs = c.take_while.ensures.source in
    count_from_yields_List _ c.count.result c.count.ensures.ran
    (YieldsList-from_take_while _ alike
    (YieldsList-from_zip
    (YieldsList-from_slice c.args.a.now (ap (λ z. z.a.rest.now) pairs ∙ ap (λ i. i.rest.now) c.zip.ensures.first ∙ c.iter.ensures.rest))
    (YieldsList-from_slice c.args.b.now (ap (λ z. z.b.rest.now) pairs ∙ c.zip.ensures.second.0)))
    c.take_while.ensures.closure c.take_while.ensures.done (λ x b q k. search rules))
    ∙ alike_front c.args.a.now c.args.b.now
