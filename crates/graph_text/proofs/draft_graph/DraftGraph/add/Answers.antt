use Rattle.std.proofs.Common.{◌≡◌, ◌∷◌, ◌++◌, [], map, true, false, length, nat_eq, refl, sym, ap, ◌∙◌}
use Rattle.std.proofs.lemmas.Bool.{eq-eqb, ne_eqb, iff_false}
use Rattle.std.proofs.lemmas.List.{map_push}
use Rattle.std.proofs.lemmas.List.Elements.{All-push}
use Rattle.graph_text.specs.Reading.{Line, ends_of, range_of, most_edges}
use Rattle.graph_text.proofs.DraftGraphs.{fault_among-is, many-from_numbers}
use Rattle.graph_text.proofs.Repeats.{repeats-from_edge, repeats-from_no_edge, labels-push}
use Rattle.graph_text.proofs.draft_graph.DraftGraph.add.Goals as goal

pub returns-then-has_edge-clause-fault : goal.returns-then-has_edge-clause-fault
returns-then-has_edge-clause-fault c = λ mode edges line holds ends.
    fault_among-is edges line true (nat_eq (length edges) most_edges)
    (repeats-from_edge edges line c.args.tail.now c.args.head.now ends holds.shaped c.args.self.now.labels holds.names holds.edges_are (c.has_edge.ensures.0 c.if-has_edge.true)) refl

pub returns-then-len-eq-MOST_EDGES-clause-fault : goal.returns-then-len-eq-MOST_EDGES-clause-fault
returns-then-len-eq-MOST_EDGES-clause-fault c = λ mode edges line holds ends.
    fault_among-is edges line false true
    (repeats-from_no_edge edges line c.args.tail.now c.args.head.now ends holds.shaped c.args.self.now.labels holds.names holds.edges_are (iff_false c.has_edge.ensures c.if-has_edge.false))
    (eq-eqb (length edges) most_edges (sym (many-from_numbers edges c.args.self.now.edge_numbers holds.numbers) ∙ sym c.len.ensures ∙ c.if-len-eq-MOST_EDGES.true))

pub returns-clause-fault : goal.returns-clause-fault
returns-clause-fault c = λ mode edges line holds ends.
    fault_among-is edges line false false
    (repeats-from_no_edge edges line c.args.tail.now c.args.head.now ends holds.shaped c.args.self.now.labels holds.names holds.edges_are (iff_false c.has_edge.ensures c.if-has_edge.false))
    (ne_eqb (length edges) most_edges (λ e. c.if-len-eq-MOST_EDGES.false (c.len.ensures ∙ many-from_numbers edges c.args.self.now.edge_numbers holds.numbers ∙ e)))

pub returns-clause-added : goal.returns-clause-added
returns-clause-added c = λ mode edges line holds ends number range none.
    let labels = labels-push edges line c.args.tail.now c.args.head.now ends holds.shaped
    c.args.self.now.labels c.add_vertex.new.self c.add_vertex-2.new.self c.add_edge.new.self c.in_ok-u.u c.in_ok-v.v c.in_ok-_is_new._is_new
    holds.names holds.edges_are (iff_false c.has_edge.ensures c.if-has_edge.false)
    c.in_ok-u.ensures.names c.in_ok-u.ensures.vertex c.in_ok-v.ensures.names c.in_ok-v.ensures.vertex c.in_ok-_is_new.ensures.new c.in_ok-_is_new.ensures.added in
    record {
      names = labels.0;
      edges_are = labels.1;
      ranges_are = c.in_ok-push.ensures.ok
          ∙ ap (λ x. x ++ c.args.range ∷ []) holds.ranges_are
          ∙ ap (λ r. map (range_of mode) edges ++ r ∷ []) (sym range)
          ∙ sym (map_push (range_of mode) edges line);
      numbers = c.in_ok-push-2.ensures.items
          ∙ ap (λ x. x ++ c.args.number ∷ []) holds.numbers
          ∙ ap (λ n. map (λ (l : Line). l.number) edges ++ n ∷ []) (sym number)
          ∙ sym (map_push (λ (l : Line). l.number) edges line);
      shaped = All-push (λ (l : Line). length (ends_of l) ≡ 2) edges line holds.shaped (ap length ends);
    }
