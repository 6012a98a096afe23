-- The names that are written in a report are read as the vertices and the edges that they were written for.
use Rattle.std.proofs.Common.{◌≡◌, ℕ, ◌<◌, ◌≤◌, Bool, true, List, [], ◌∷◌, length, get_or, map, position, refl, sym, ap, ◌∙◌, arith, inl, inr}
use Rattle.std.specs.Prelude.{Some, None, ◌⊎◌, IsTrue}
use Rattle.std.specs.Bool.{Decides}
use Rattle.std.specs.List.{list_all, position_or_len, IsDistinct}
use Rattle.std.specs.Option.{option_map, option_and_then}
use Rattle.std.proofs.lemmas.Bool.{and_from, both_ways, cond-true, lt-ltb, cases_lt}
use Rattle.std.proofs.lemmas.List.Elements.{All-get_or}
use Rattle.std.proofs.lemmas.List.Sums.{passes_at_first}
use Rattle.std.proofs.lemmas.Map.Keys.{apart_from_distinct}
use Rattle.std.proofs.lemmas.Slice.Eq.{bytes_eq-Decides}
use Rattle.decomposition.specs.Graph.{same_ends, is_walk_from, is_run}
use Rattle.decomposition.proofs.Nets.{same_ends-Decides}
use Rattle.decomposition.proofs.Walks.{walk-cons}
use Rattle.graph_text.proofs.Places.{position_or_len-le}
use Rattle.graph_text.specs.Labels.{LabelLists, AreLabels, name_at, tail_at, head_at, is_field}
use Rattle.report_reading.specs.Names.{graph_at, names_along}
use Rattle.report_reading.specs.LineFields.{vertex_in, edge_in, edges_in}

-- in a list of which no two are the same, the first place of an entry is its place
first_place : {X : Type 0} {e : X → X → Bool} (same : (a b : X) → Decides (e a b) (a ≡ b)) (xs : List X) (i : ℕ) (d : X) → IsDistinct e xs →
    i < length xs → position (e (get_or xs i d)) xs ≡ Some i
first_place {X} {e} same xs i d once there =
    let x = get_or xs i d in
    let p = position_or_len (e x) xs in
    let low : p ≤ i = position_or_len-le (e x) xs i d ((same x x).1 refl) in
    let inside : p < length xs = omega arith in
    let passes : e x (get_or xs p d) ≡ true = passes_at_first (e x) xs d inside in
    let is : p ≡ i = by p low passes (cases_lt p i) in
    cond-true _ (Some p) None (lt-ltb p (length xs) inside) ∙ ap (λ k. Some k) is where
      by : (p : ℕ) → p ≤ i → e (get_or xs i d) (get_or xs p d) ≡ true → (p < i) ⊎ (i ≤ p) → p ≡ i
      by p low passes (inl before) =
          let apart = apart_from_distinct e xs p i d once before there in
          absurd (both_ways (e (get_or xs p d) (get_or xs i d)) apart ((same (get_or xs p d) (get_or xs i d)).1 (sym ((same (get_or xs i d) (get_or xs p d)).0 passes))))
      by p low passes (inr not_before) = omega arith

pub vertex-written : (labels : LabelLists) (v : ℕ) → AreLabels labels → v < length labels.names → vertex_in labels (name_at labels v) ≡ Some v
vertex-written labels v are there = first_place bytes_eq-Decides labels.names v [] are.once there

pub vertex-field : (labels : LabelLists) (v : ℕ) → AreLabels labels → v < length labels.names → is_field (name_at labels v) ≡ true
vertex-field labels v are there = All-get_or (λ name. IsTrue (is_field name)) labels.names v [] there are.fields

-- the ends of an edge are vertices
pub record HasEnds (labels : LabelLists) (e : ℕ) : Type 0 where
  pub tail : tail_at labels e < length labels.names
  pub head : head_at labels e < length labels.names

pub edge-ends : (labels : LabelLists) (e : ℕ) → AreLabels labels → e < length labels.edges → HasEnds labels e
edge-ends labels e are there =
    let ends = All-get_or (λ (edge : ℕ × ℕ). (edge.0 < length labels.names) × (edge.1 < length labels.names)) labels.edges e (0, 0) there are.ends in
    record { tail = ends.0; head = ends.1 }

pub edge-written : (labels : LabelLists) (e : ℕ) → AreLabels labels → e < length labels.edges →
    edge_in labels (name_at labels (tail_at labels e)) (name_at labels (head_at labels e)) ≡ Some e
edge-written labels e are there =
    let ends = edge-ends labels e are there in
    let h = name_at labels (head_at labels e) in
    ap (option_and_then (λ u. option_and_then (λ v. position (same_ends (u, v)) labels.edges) (vertex_in labels h))) (vertex-written labels (tail_at labels e) are ends.tail)
    ∙ ap (option_and_then (λ v. position (same_ends (tail_at labels e, v)) labels.edges)) (vertex-written labels (head_at labels e) are ends.head)
    ∙ first_place same_ends-Decides labels.edges e (0, 0) are.simple there

-- the edges of a walk, along the names of the vertices that they enter
walk-written : (labels : LabelLists) (u : ℕ) (es : List ℕ) → AreLabels labels → is_walk_from (graph_at labels) u es ≡ true →
    (edges_in labels (name_at labels u ∷ map (name_at labels) (map (head_at labels) es)) ≡ Some es)
    × (list_all is_field (map (name_at labels) (map (head_at labels) es)) ≡ true)
walk-written labels u [] are walk = (refl, refl)
walk-written labels u (e ∷ es) are walk =
    let s = walk-cons (graph_at labels) u e es walk in
    let rest = walk-written labels (head_at labels e) es are s.rest in
    let ends = edge-ends labels e are s.inside in
    let h = name_at labels (head_at labels e) in
    let behind = edges_in labels (h ∷ map (name_at labels) (map (head_at labels) es)) in (
      ap (λ v. option_and_then (λ x. option_map (λ xs. x ∷ xs) behind) (edge_in labels (name_at labels v) h)) (sym s.leaves)
          ∙ ap (option_and_then (λ x. option_map (λ xs. x ∷ xs) behind)) (edge-written labels e are s.inside)
          ∙ ap (option_map (λ xs. e ∷ xs)) rest.0,
      and_from (is_field h) _ (vertex-field labels (head_at labels e) are ends.head) rest.1,
    )

-- a run: its edges, and that the names along it are fields, at least two
pub record RunWritten (labels : LabelLists) (run : List ℕ) : Type 0 where
  pub edges : edges_in labels (names_along labels run) ≡ Some run
  pub fields : list_all is_field (names_along labels run) ≡ true
  pub two : 2 ≤ length (names_along labels run)

pub run-written : (labels : LabelLists) (run : List ℕ) → AreLabels labels → is_run (graph_at labels) run ≡ true → RunWritten labels run
run-written labels [] are run = absurd (cc)
run-written labels (e ∷ es) are run =
    let s = walk-cons (graph_at labels) (tail_at labels e) e es run in
    let w = walk-written labels (tail_at labels e) (e ∷ es) are run in
    record {
      edges = w.0;
      fields = and_from (is_field (name_at labels (tail_at labels e))) _ (vertex-field labels (tail_at labels e) are (edge-ends labels e are s.inside).tail) w.1;
      two = omega arith;
    }
