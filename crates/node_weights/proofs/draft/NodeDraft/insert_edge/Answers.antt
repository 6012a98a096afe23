use Rattle.std.proofs.Common.{◌≡◌, ℕ, ◌++◌, ◌∷◌, [], Bool, true, false, Contains, refl, ap, ◌∙◌}
use Rattle.std.specs.Prelude.{MatchBool}
use Rattle.graph_text.specs.Labels.{LabelLists}
use Rattle.node_weights.proofs.Growing.{HoldsLines-edge}
use Rattle.node_weights.proofs.draft.NodeDraft.insert_edge.Goals as goal

-- an edge that was not there was added
added : (is_new : Bool) (old new : LabelLists) (edge : ℕ × ℕ) → ¬ Contains old.edges edge
    → MatchBool is_new (¬ Contains old.edges edge) (Contains old.edges edge)
    → MatchBool is_new (new ≡ record { names = old.names; edges = old.edges ++ edge ∷ [] }) (new ≡ old)
    → new ≡ record { names = old.names; edges = old.edges ++ edge ∷ [] }
added true old new edge none found is = is
added false old new edge none found is = absurd (none found)

pub returns : goal.returns
returns c = λ lines line tail head holds number fields among none.
    HoldsLines-edge lines line tail head fields c.args.self.now _ holds (c.args.u, c.args.v) among
    (added c.in_ok-_is_new._is_new c.args.self.now.labels _ (c.args.u, c.args.v) none c.in_ok-_is_new.ensures.new c.in_ok-_is_new.ensures.added)
    refl (c.in_ok-push.ensures.items ∙ ap (λ n. c.args.self.now.edge_numbers.items ++ n ∷ []) number)
