use Rattle.std.proofs.Common.{◌++◌, ◌∷◌, [], refl, sym, ap, ◌∙◌}
use Rattle.node_weights.proofs.Growing.{HoldsLines-node}
use Rattle.node_weights.proofs.draft.NodeDraft.insert_node.Goals as goal

pub returns : goal.returns
returns c = λ lines line field holds fields value new.
    HoldsLines-node lines line c.args.name.now field fields new c.args.self.now _ holds
    c.in_ok-add_vertex.ensures.names (c.in_ok-push.ensures.items ∙ ap (λ w. c.args.self.now.weights.items ++ w ∷ []) (sym value)) refl
