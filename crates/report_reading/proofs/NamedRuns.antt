-- The edges that names tell are a run, and the names are those along it.
use Rattle.std.proofs.Common.{◌≡◌, ℕ, ◌<◌, ◌≤◌, true, ◌&&◌, nat_lt, List, [], ◌∷◌, length, map, sym, ap, ◌∙◌, arith, lt-ltb}
use Rattle.std.specs.Prelude.{Some, ◌==◌}
use Rattle.std.specs.List.{position}
use Rattle.std.specs.Option.{option_map, option_and_then}
use Rattle.std.specs.Str.{bytes_eq}
use Rattle.std.proofs.lemmas.Bool.{and_parts, and_from, eq-eqb, eqb-true}
use Rattle.std.proofs.lemmas.List.Quantifiers.{position-Some}
use Rattle.std.proofs.lemmas.Slice.Eq.{bytes_eq-Decides}
use Rattle.decomposition.specs.Graph.{same_ends, is_walk_from, is_run}
use Rattle.graph_text.specs.Labels.{LabelLists, name_at, tail_at, head_at}
use Rattle.report_reading.specs.Names.{graph_at, names_along}
use Rattle.report_reading.specs.LineFields.{vertex_in, edge_in, edges_in}
use Rattle.report_reading.proofs.Taken.{map-some, and_then-some}

-- the vertex of a name has this name
pub vertex-named : (labels : LabelLists) (name : List ℕ) (v : ℕ) → vertex_in labels name ≡ Some v → (v < length labels.names) × (name ≡ name_at labels v)
vertex-named labels name v h =
    let p = position-Some (bytes_eq name) labels.names v [] h in
    (p.0, (bytes_eq-Decides name (name_at labels v)).0 p.1)

-- the edge between two names: it is there, and leads from the vertex of the one to that of the other
pub record Joins (labels : LabelLists) (tail head : List ℕ) (e : ℕ) : Type 0 where
  pub inside : e < length labels.edges
  pub tail_vertex : vertex_in labels tail ≡ Some (tail_at labels e)
  pub head_vertex : vertex_in labels head ≡ Some (head_at labels e)
  pub tail_name : tail ≡ name_at labels (tail_at labels e)
  pub head_name : head ≡ name_at labels (head_at labels e)

pub edge-named : (labels : LabelLists) (tail head : List ℕ) (e : ℕ) → edge_in labels tail head ≡ Some e → Joins labels tail head e
edge-named labels tail head e h =
    let a = and_then-some (λ u. option_and_then (λ v. position (same_ends (u, v)) labels.edges) (vertex_in labels head)) (vertex_in labels tail) e h in
    let b = and_then-some (λ v. position (same_ends (a.0, v)) labels.edges) (vertex_in labels head) e a.2 in
    let p = position-Some (same_ends (a.0, b.0)) labels.edges e (0, 0) b.2 in
    let ends = and_parts (a.0 == tail_at labels e) (b.0 == head_at labels e) p.1 in
    let u : a.0 ≡ tail_at labels e = eqb-true _ _ ends.0 in
    let v : b.0 ≡ head_at labels e = eqb-true _ _ ends.1 in
    record {
      inside = p.0;
      tail_vertex = a.1 ∙ ap (λ x. Some x) u;
      head_vertex = b.1 ∙ ap (λ x. Some x) v;
      tail_name = (vertex-named labels tail a.0 a.1).1 ∙ ap (name_at labels) u;
      head_name = (vertex-named labels head b.0 b.1).1 ∙ ap (name_at labels) v;
    }

-- edges along names from a vertex on: they are a walk, and enter the vertices of the other names
record Leads (labels : LabelLists) (u : ℕ) (names : List (List ℕ)) (es : List ℕ) : Type 0 where
  walk : is_walk_from (graph_at labels) u es ≡ true
  heads : names ≡ map (name_at labels) (map (head_at labels) es)

leads : (labels : LabelLists) (name : List ℕ) (names : List (List ℕ)) (u : ℕ) (es : List ℕ) → vertex_in labels name ≡ Some u →
    edges_in labels (name ∷ names) ≡ Some es → Leads labels u names es
leads labels name [] u es from h = let e : [] ≡ es = cc in record { walk = ap (is_walk_from (graph_at labels) u) (sym e); heads = ap (λ x. map (name_at labels) (map (head_at labels) x)) e }
leads labels name (next ∷ names) u es from h =
    let a = and_then-some (λ e. option_map (λ es. e ∷ es) (edges_in labels (next ∷ names))) (edge_in labels name next) es h in
    let b = map-some (λ es. a.0 ∷ es) (edges_in labels (next ∷ names)) es a.2 in
    let j = edge-named labels name next a.0 a.1 in
    let rest = leads labels next names (head_at labels a.0) b.0 j.head_vertex b.1 in
    let same : tail_at labels a.0 ≡ u = cc (j.tail_vertex, from) in
    record {
      walk =
          ap (is_walk_from (graph_at labels) u) (sym b.2)
          ∙ and_from (nat_lt a.0 (length labels.edges)) ((tail_at labels a.0 == u) && is_walk_from (graph_at labels) (head_at labels a.0) b.0)
          (lt-ltb _ _ j.inside)
          (and_from (tail_at labels a.0 == u) (is_walk_from (graph_at labels) (head_at labels a.0) b.0) (eq-eqb _ _ same) rest.walk);
      heads =
          ap (λ n. n ∷ names) j.head_name
          ∙ ap (λ ns. name_at labels (head_at labels a.0) ∷ ns) rest.heads
          ∙ ap (λ x. map (name_at labels) (map (head_at labels) x)) b.2;
    }

-- two names or more
pub run-named : (labels : LabelLists) (names : List (List ℕ)) (es : List ℕ) → 2 ≤ length names → edges_in labels names ≡ Some es →
    (is_run (graph_at labels) es ≡ true) × (names ≡ names_along labels es)
run-named labels [] es two h = absurd (omega (arith, two))
run-named labels (name ∷ []) es two h = absurd (omega (arith, two))
run-named labels (name ∷ next ∷ names) es two h =
    let a = and_then-some (λ e. option_map (λ es. e ∷ es) (edges_in labels (next ∷ names))) (edge_in labels name next) es h in
    let b = map-some (λ es. a.0 ∷ es) (edges_in labels (next ∷ names)) es a.2 in
    let j = edge-named labels name next a.0 a.1 in
    let all = leads labels name (next ∷ names) (tail_at labels a.0) es j.tail_vertex h in (
      ap (is_run (graph_at labels)) (sym b.2) ∙ ap (is_walk_from (graph_at labels) (tail_at labels a.0)) b.2 ∙ all.walk,
      ap (λ n. n ∷ next ∷ names) j.tail_name
          ∙ ap (λ ns. name_at labels (tail_at labels a.0) ∷ ns) all.heads
          ∙ ap (λ x. name_at labels (tail_at labels a.0) ∷ map (name_at labels) (map (head_at labels) x)) (sym b.2)
          ∙ ap (names_along labels) b.2,
    )
