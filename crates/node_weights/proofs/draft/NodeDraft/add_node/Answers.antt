use Rattle.std.proofs.Common.{◌≡◌, sym, ap, ◌∙◌}
use Rattle.std.proofs.lemmas.Bool.{iff_false}
use Rattle.std.specs.Option.{is_some, unwrap_or}
use Rattle.graph_text.specs.Reading.{value_of}
use Rattle.node_weights.proofs.Repeats.{named, unnamed, node-weight, node-repeated, node-many, node-none}
use Rattle.node_weights.proofs.draft.NodeDraft.add_node.Goals as goal

pub returns-in_default-clause-err : goal.returns-in_default-clause-err
returns-in_default-clause-err c = λ lines line holds has.
    node-weight lines line c.args.name.now c.args.weight.now has (ap is_some (sym c.parse_weight.ensures ∙ c.in_default.is))

pub returns-then-has_node-clause-err : goal.returns-then-has_node-clause-err
returns-then-has_node-clause-err c = λ lines line holds has.
    node-repeated lines line c.args.name.now c.args.weight.now has (ap is_some (sym c.parse_weight.ensures ∙ c.in-Some.is))
    (named lines c.args.self.now holds c.args.name.now (c.has_node.ensures.0 c.if-has_node.true))

pub returns-then-is_full-clause-err : goal.returns-then-is_full-clause-err
returns-then-is_full-clause-err c = λ lines line holds has.
    node-many lines line c.args.name.now c.args.weight.now has (ap is_some (sym c.parse_weight.ensures ∙ c.in-Some.is))
    (unnamed lines c.args.self.now holds c.args.name.now (iff_false c.has_node.ensures c.if-has_node.false))
    (sym (c.is_full.ensures.full lines holds) ∙ c.if-is_full.true)

pub returns-clause-ok : goal.returns-clause-ok
returns-clause-ok c = λ lines line holds has.
    let new = unnamed lines c.args.self.now holds c.args.name.now (iff_false c.has_node.ensures c.if-has_node.false) in
    let value : value_of c.args.weight.now ≡ c.in-Some.weight = ap (λ o. unwrap_or o 0) (sym c.parse_weight.ensures ∙ c.in-Some.is) in
    record {
      none = node-none lines line c.args.name.now c.args.weight.now has (ap is_some (sym c.parse_weight.ensures ∙ c.in-Some.is)) new
          (sym (c.is_full.ensures.full lines holds) ∙ c.if-is_full.false);
      holds = c.in_ok-insert_node.ensures lines line c.args.weight.now holds has.fields_are value new;
    }
