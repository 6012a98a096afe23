use Rattle.std.proofs.Common.{◌≡◌, ℕ, List, [], Vec, Global, map, length, ap, sym, subst, ◌∙◌, arith}
use Rattle.std.specs.Prelude.{IsTrue}
use Rattle.graph_text.specs.Labels.{LabelLists, is_field}
use Rattle.graph_text.proofs.Places.{get_or-map_read}
use Rattle.graph_text.proofs.labels.Labels.name.Goals as goal

pub returns-clause-field : goal.returns-clause-field
returns-clause-field c =
    let bytes : Vec ℕ Global → List ℕ = λ name. name.items in
    let names : length (map bytes c.self.inside.names.keys) ≡ length c.args.self.now.names = ap (λ (l : LabelLists). length l.names) c.self.view_is in
    subst (λ name. IsTrue (is_field name))
    (get_or-map_read bytes c.self.inside.names.keys c.args.v _ [] c.index.ensures ∙ sym c.as_slice.ensures.value)
    (c.self.invariant.labels.fields c.args.v [] (omega arith))
