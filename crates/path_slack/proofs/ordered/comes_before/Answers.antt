use Rattle.std.proofs.Common.{◌∙◌}
use Rattle.decomposition.specs.Graph.{is_list_before}
use Rattle.path_slack.proofs.Order.{is_list_before-cmp, by_second}
use Rattle.path_slack.proofs.ordered.comes_before.Goals as goal

pub returns : goal.returns
returns c =
    let a = c.args.a.now in
    let b = c.args.b.now in
    c.is_lt.ensures
    ∙ is_list_before-cmp a.path b.path c.path_order.result c.path_order.ensures
    ∙ by_second a.slack b.slack (is_list_before a.path b.path) c.if-a-b-2.false
    ∙ by_second a.weight b.weight _ c.if-a-b.false
