use Rattle.std.proofs.Common.{sym, ◌∙◌, rules}
use Rattle.std.proofs.lemmas.Result.{IfOk-weaker}
use Rattle.std.proofs.lemmas.Iterator.Splits.{YieldsList-from_slice_split}
use Rattle.std.proofs.lemmas.Iterator.Consumers.{map_from_collect, YieldsList-from_filter, YieldsList-at}
use borrow.Author.Tests.{tests}
use Rattle.graph_text.specs.Lines.{is_blank}
use Rattle.graph_text.proofs.Splitting.{fields_by_split, is_filled}
use Rattle.graph_text.proofs.fields.fields.Goals as goal

pub returns : goal.returns
returns c =
    IfOk-weaker c.collect.result _ _ (λ v e. e ∙ sym (fields_by_split c.args.text.now))
    (map_from_collect c.collect.result c.collect.ensures.ran
    (YieldsList-from_filter _ is_filled (YieldsList-at c.filter.ensures.source (YieldsList-from_slice_split _ is_blank c.args.text.now c.split.ensures.rest c.split.ensures.done c.split.ensures.closure (λ x b q k. search (rules, tests))))
    c.filter.ensures.closure (λ x b q k. search (rules, tests))))
