use Rattle.std.proofs.Common.{rules}
use Rattle.std.proofs.lemmas.Iterator.{YieldsList-from_slice}
use Rattle.std.proofs.lemmas.Iterator.Search.{YieldsList-from_take_while}
use Rattle.std.proofs.lemmas.Iterator.Consumers.{count_from_yields_List, YieldsList-at}
use borrow.Author.Tests.{tests}
use Rattle.graph_text.specs.Lines.{is_blank}
use Rattle.graph_text.proofs.fields.blanks_in_front.Goals as goal

pub returns : goal.returns
returns c =
    count_from_yields_List c.take_while.result c.count.result c.count.ensures.ran
    (YieldsList-from_take_while _ is_blank (YieldsList-at c.take_while.ensures.source (YieldsList-from_slice c.args.text.now cc)) c.take_while.ensures.closure c.take_while.ensures.done (λ x b q k. search (rules, tests)))
