use Rattle.std.proofs.Common.{◌&&◌, sym, ◌∙◌}
use Rattle.std.proofs.lemmas.Bool.{iff_false, and_parts, and_from, false_from_ne_true}
use Rattle.node_weights.specs.NodeText.{has_node}
use Rattle.node_weights.proofs.Repeats.{named, is_named, has-edge, has-no_edge, ends-within, edge-unknown, edge-repeated, edge-many, edge-none}
use Rattle.node_weights.proofs.draft.NodeDraft.add_edge.Goals as goal

pub returns-in_default-clause-err : goal.returns-in_default-clause-err
returns-in_default-clause-err c = λ lines line holds has.
    edge-unknown lines line c.args.tail.now c.args.head.now has
    (false_from_ne_true (has_node lines c.args.tail.now && has_node lines c.args.head.now)
    (λ t. let both = and_parts (has_node lines c.args.tail.now) (has_node lines c.args.head.now) t in
    c.in_default.ensures (is_named lines c.args.self.now holds c.args.tail.now both.0, is_named lines c.args.self.now holds c.args.head.now both.1)))

pub returns-then-has_edge-clause-err : goal.returns-then-has_edge-clause-err
returns-then-has_edge-clause-err c = λ lines line holds has.
    let among = c.in-Some.ensures in
    edge-repeated lines line c.args.tail.now c.args.head.now has
    (and_from _ _ (named lines c.args.self.now holds c.args.tail.now among.tail_there) (named lines c.args.self.now holds c.args.head.now among.head_there))
    (has-edge lines c.args.self.now holds c.args.tail.now c.args.head.now (c.in-Some.u, c.in-Some.v) among (c.has_edge.ensures.0 c.if-has_edge.true))

pub returns-then-is_full-clause-err : goal.returns-then-is_full-clause-err
returns-then-is_full-clause-err c = λ lines line holds has.
    let among = c.in-Some.ensures in
    edge-many lines line c.args.tail.now c.args.head.now has
    (and_from _ _ (named lines c.args.self.now holds c.args.tail.now among.tail_there) (named lines c.args.self.now holds c.args.head.now among.head_there))
    (has-no_edge lines c.args.self.now holds c.args.tail.now c.args.head.now (c.in-Some.u, c.in-Some.v) among (iff_false c.has_edge.ensures c.if-has_edge.false))
    (sym (c.is_full.ensures.full lines holds) ∙ c.if-is_full.true)

pub insert_edge-requires-clause-ends : goal.insert_edge-requires-clause-ends
insert_edge-requires-clause-ends c = ends-within c.args.self.now.labels c.args.tail.now c.args.head.now (c.in-Some.u, c.in-Some.v) c.in-Some.ensures

pub returns-clause-ok : goal.returns-clause-ok
returns-clause-ok c = λ lines line holds number has.
    let among = c.in-Some.ensures in
    let new = iff_false c.has_edge.ensures c.if-has_edge.false in
    record {
      none = edge-none lines line c.args.tail.now c.args.head.now has
          (and_from _ _ (named lines c.args.self.now holds c.args.tail.now among.tail_there) (named lines c.args.self.now holds c.args.head.now among.head_there))
          (has-no_edge lines c.args.self.now holds c.args.tail.now c.args.head.now (c.in-Some.u, c.in-Some.v) among new)
          (sym (c.is_full.ensures.full lines holds) ∙ c.if-is_full.false);
      holds = c.in_ok-insert_edge.ensures lines line c.args.tail.now c.args.head.now holds number has.fields_are among new;
    }
