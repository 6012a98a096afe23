use Rattle.std.proofs.Common.{◌≡◌, ℕ, List, Vec, Global, map, length, ap, sym, subst, ◌∙◌, arith}
use Rattle.std.proofs.lemmas.List.{length-map}
use Rattle.graph_text.specs.Labels.{LabelLists, AreLabels, with_name}
use Rattle.graph_text.specs.Reading.{vertex_of}
use Rattle.graph_text.proofs.Naming.{same_labels-there, names_inserted, AreLabels-with_name, length-with_name, vertex_of-with_name}
use Rattle.graph_text.proofs.Places.{position_or_len-map}
use Rattle.graph_text.proofs.labels.Labels.add_vertex.Goals as goal
use Rattle.graph_text.proofs.labels.Labels.add_vertex.Goals.{In_ok-v}

pub returns-in-Some-clause-names : goal.returns-in-Some-clause-names
returns-in-Some-clause-names c =
    same_labels-there c.args.self.now c.args.name.now c.in-Some.v c.in-Some.ensures.found.0 c.in-Some.ensures.found.1

abbrev bytes : Vec ℕ Global → List ℕ
bytes name = name.items

-- the names after the insert
names_after : (c : In_ok-v) → map bytes c.insert_full.new.self.keys ≡ with_name c.args.self.now.names c.args.name.now
names_after c =
    ap (λ keys. map bytes keys) c.in_ok-v.ensures.keys
    ∙ names_inserted bytes c.self.inside.names.keys c.in_ok-from_slice.field-0
    ∙ ap (λ name. with_name (map bytes c.self.inside.names.keys) name) c.in_ok-from_slice.ensures.items
    ∙ ap (λ (l : LabelLists). with_name l.names c.args.name.now) c.self.view_is

pub invariant_of-self-2 : goal.invariant_of-self-2
invariant_of-self-2 c =
    let before : AreLabels c.args.self.now = subst AreLabels c.self.view_is c.self.invariant.labels in
    let edges : c.self.inside.edges.keys ≡ c.args.self.now.edges = ap (λ (l : LabelLists). l.edges) c.self.view_is in
    let few : length (map bytes c.insert_full.new.self.keys) ≡ length (with_name c.args.self.now.names c.args.name.now) = ap length (names_after c) in
    record {
      labels = subst AreLabels (λ i. record { names = sym (names_after c) i; edges = sym edges i }) (AreLabels-with_name c.args.self.now c.args.name.now before c.requires.field);
      few_names = omega (arith, c.requires.room, length-with_name c.args.self.now.names c.args.name.now, length-map c.insert_full.new.self.keys bytes);
      few_edges = c.self.invariant.few_edges;
    }

pub returns-clause-names : goal.returns-clause-names
returns-clause-names c =
    let edges : c.self.inside.edges.keys ≡ c.args.self.now.edges = ap (λ (l : LabelLists). l.edges) c.self.view_is in
    λ i. record { names = names_after c i; edges = edges i }

pub returns-clause-vertex : goal.returns-clause-vertex
returns-clause-vertex c =
    c.in_ok-v.ensures.index
    ∙ sym (position_or_len-map _ bytes c.self.inside.names.keys)
    ∙ ap (λ name. vertex_of (map bytes c.self.inside.names.keys) name) c.in_ok-from_slice.ensures.items
    ∙ ap (λ (l : LabelLists). vertex_of l.names c.args.name.now) c.self.view_is
    ∙ sym (vertex_of-with_name c.args.self.now.names c.args.name.now)
    ∙ ap (λ names. vertex_of names c.args.name.now) (sym (names_after c))
