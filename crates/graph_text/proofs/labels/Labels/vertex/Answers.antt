use Rattle.std.proofs.Common.{ℕ, [], Vec, Global, Some, ap, ◌∙◌}
use Rattle.std.proofs.lemmas.Slice.Eq.{bytes_eq-Decides}
use Rattle.graph_text.specs.Labels.{LabelLists}
use Rattle.graph_text.proofs.Naming.{place_in_names}
use Rattle.graph_text.proofs.Places.{position-Decides}
use Rattle.graph_text.proofs.labels.Labels.vertex.Goals as goal

pub returns-in_err-v-clause-place : goal.returns-in_err-v-clause-place
returns-in_err-v-clause-place c =
    place_in_names (λ (name : Vec ℕ Global). name.items) c.self.inside.names.keys c.args.self.now.names c.args.name.now c.from_residual.result
    (ap (λ (l : LabelLists). l.names) c.self.view_is) (c.from_residual.ensures ∙ c.in_err-v.ensures.index)

pub returns-in_err-v-clause-found : goal.returns-in_err-v-clause-found
returns-in_err-v-clause-found c =
    position-Decides bytes_eq-Decides c.args.self.now.names c.args.name.now [] c.from_residual.result (returns-in_err-v-clause-place c)

pub returns-clause-place : goal.returns-clause-place
returns-clause-place c =
    place_in_names (λ (name : Vec ℕ Global). name.items) c.self.inside.names.keys c.args.self.now.names c.args.name.now (Some c.in_ok-v.v)
    (ap (λ (l : LabelLists). l.names) c.self.view_is) c.in_ok-v.ensures.index

pub returns-clause-found : goal.returns-clause-found
returns-clause-found c =
    position-Decides bytes_eq-Decides c.args.self.now.names c.args.name.now [] (Some c.in_ok-v.v) (returns-clause-place c)
