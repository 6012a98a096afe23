-- The runs of the constraints of a block: each is a run of the net, and no two are equal.
use Rattle.std.proofs.Common.{◌≡◌, ◌≢◌, ℕ, suc, ◌<◌, ◌≤◌, Bool, true, false, not, List, [], ◌∷◌, map, filter, length, get_or, refl, sym, ap, subst, ◌∙◌, arith}
use Rattle.std.specs.Prelude.{All, AllPairs, ◌==◌}
use Rattle.std.specs.Cmp.Lexicographic.{pointwise}
use Rattle.std.specs.List.{list_any, list_all, position_or_len, IsDistinct}
use Rattle.std.proofs.lemmas.Bool.{true≢false, or_parts, and_from, eqb-false, eq-eqb, lt-ltb, ltb-false, not-true}
use Rattle.std.proofs.lemmas.Bool.Decides.{Decides-eqb}
use Rattle.std.proofs.lemmas.List.Elements.{All-nil, All-cons, All-head, All-tail, All-map, All-filter, All-weaker, filter_passes}
use Rattle.std.proofs.lemmas.List.Folds.{list_all-map}
use Rattle.std.proofs.lemmas.List.Kept.{AllPairs-cons, AllPairs-filter}
use Rattle.std.proofs.lemmas.List.Sums.{passes_at_first, prefix_len-le-length}
use Rattle.std.proofs.lemmas.Map.Made.{IsDistinct-from_AllPairs}
use Rattle.std.proofs.lemmas.Slice.Eq.{bytes_eq-Decides, slice_eq-Decides}
use Rattle.std.specs.Str.{bytes_eq}
use Rattle.decomposition.specs.Graph.{Graph, graph_of, edge_count, tail, head, same_ends, is_walk_from, is_run}
use Rattle.decomposition.proofs.Nets.{same_ends-Decides}
use Rattle.decomposition.proofs.Open.{all-from_places}
use Rattle.graph_text.specs.Reading.{Line, names_of, edges_of, vertex_of, neighbours, run_of, has_unknown, listed, same_fields, is_short, run_lines, first_listed, constraint_lines}
use Rattle.graph_text.proofs.FirstLists.{same_fields-Decides, first_listed-All}
use Rattle.graph_text.proofs.GraphOfLines.{filter-empty}

module _ (g : Graph) where
  abbrev place : ℕ × ℕ → ℕ
  place p = position_or_len (same_ends p) g.edges

  -- the edges between neighbours, and whether one is missing
  abbrev along : List ℕ → List ℕ
  along vs = map place (neighbours vs)

  abbrev misses : List ℕ → Bool
  misses es = list_any (λ e. e == edge_count g) es

  -- an edge from one vertex to another
  record Joins (u v e : ℕ) : Type 0 where
    within : e < edge_count g
    tail_is : tail g e ≡ u
    head_is : head g e ≡ v

  joins : (u v : ℕ) → (place (u, v) == edge_count g) ≡ false → Joins u v (place (u, v))
  joins u v other =
      let differs : place (u, v) ≡ edge_count g → ⊥ = eqb-false (place (u, v)) (edge_count g) other in
      let there : place (u, v) < edge_count g = omega (arith, prefix_len-le-length (λ x. not (same_ends (u, v) x)) g.edges) in
      let same = (same_ends-Decides (u, v) (get_or g.edges (place (u, v)) (0, 0))).0 (passes_at_first (same_ends (u, v)) g.edges (0, 0) there) in
      record { within = there; tail_is = sym (ap (λ (p : ℕ × ℕ). p.0) same); head_is = sym (ap (λ (p : ℕ × ℕ). p.1) same) }

  -- edges between all neighbours are a walk
  walk-along : (u : ℕ) (vs : List ℕ) → misses (along (u ∷ vs)) ≡ false → is_walk_from g u (along (u ∷ vs)) ≡ true
  walk-along u [] none = refl
  walk-along u (v ∷ vs) none =
      let parts = or_parts (place (u, v) == edge_count g) (misses (along (v ∷ vs))) none in
      let edge = joins u v parts.0 in
      and_from _ _ (lt-ltb (place (u, v)) (edge_count g) edge.within)
      (and_from _ _ (eq-eqb (tail g (place (u, v))) u edge.tail_is)
      (subst (λ w. is_walk_from g w (along (v ∷ vs)) ≡ true) (sym edge.head_is) (walk-along v vs parts.1)))

  run-along : (u v : ℕ) (vs : List ℕ) → misses (along (u ∷ v ∷ vs)) ≡ false → is_run g (along (u ∷ v ∷ vs)) ≡ true
  run-along u v vs none =
      let edge = joins u v (or_parts (place (u, v) == edge_count g) (misses (along (v ∷ vs))) none).0 in
      subst (λ w. is_walk_from g w (along (u ∷ v ∷ vs)) ≡ true) (sym edge.tail_is) (walk-along u (v ∷ vs) none)

  -- the vertices of a walk
  abbrev vertices_on : List ℕ → List ℕ
  vertices_on [] = []
  vertices_on (e ∷ es) = tail g e ∷ map (head g) (e ∷ es)

  heads-along : (u : ℕ) (vs : List ℕ) → misses (along (u ∷ vs)) ≡ false → map (head g) (along (u ∷ vs)) ≡ vs
  heads-along u [] none = refl
  heads-along u (v ∷ vs) none =
      let parts = or_parts (place (u, v) == edge_count g) (misses (along (v ∷ vs))) none in
      ap (λ w. w ∷ map (head g) (along (v ∷ vs))) (joins u v parts.0).head_is ∙ ap (λ ws. v ∷ ws) (heads-along v vs parts.1)

  vertices-along : (u v : ℕ) (vs : List ℕ) → misses (along (u ∷ v ∷ vs)) ≡ false → vertices_on (along (u ∷ v ∷ vs)) ≡ u ∷ v ∷ vs
  vertices-along u v vs none =
      let edge = joins u v (or_parts (place (u, v) == edge_count g) (misses (along (v ∷ vs))) none).0 in
      ap (λ w. w ∷ map (head g) (along (u ∷ v ∷ vs))) edge.tail_is ∙ ap (λ ws. u ∷ ws) (heads-along u (v ∷ vs) none)

  module _ (inside : All (λ e. (e.0 < g.vertices) × (e.1 < g.vertices)) g.edges) where
    inside-behind : (u : ℕ) (vs : List ℕ) → misses (along (u ∷ vs)) ≡ false → All (λ w. w < g.vertices) vs
    inside-behind u [] none = All-nil (λ w. w < g.vertices)
    inside-behind u (v ∷ vs) none =
        let parts = or_parts (place (u, v) == edge_count g) (misses (along (v ∷ vs))) none in
        let edge = joins u v parts.0 in
        All-cons (λ w. w < g.vertices) v vs (subst (λ w. w < g.vertices) edge.head_is (inside (place (u, v)) (0, 0) edge.within).1) (inside-behind v vs parts.1)

    inside-along : (u v : ℕ) (vs : List ℕ) → misses (along (u ∷ v ∷ vs)) ≡ false → All (λ w. w < g.vertices) (u ∷ v ∷ vs)
    inside-along u v vs none =
        let edge = joins u v (or_parts (place (u, v) == edge_count g) (misses (along (v ∷ vs))) none).0 in
        All-cons (λ w. w < g.vertices) u (v ∷ vs) (subst (λ w. w < g.vertices) edge.tail_is (inside (place (u, v)) (0, 0) edge.within).0) (inside-behind u (v ∷ vs) none)

-- the names of vertices, by their numbers
names-back : (names xs : List (List ℕ)) → All (λ v. v < length names) (map (vertex_of names) xs) → map (λ v. get_or names v []) (map (vertex_of names) xs) ≡ xs
names-back names [] inside = refl
names-back names (x ∷ xs) inside =
    let within = All-head (λ v. v < length names) (vertex_of names x) (map (vertex_of names) xs) inside in
    let same = (bytes_eq-Decides x (get_or names (vertex_of names x) [])).0 (passes_at_first (bytes_eq x) names [] within) in
    ap (λ y. y ∷ map (λ v. get_or names v []) (map (vertex_of names) xs)) (sym same)
    ∙ ap (λ ys. x ∷ ys) (names-back names xs (All-tail (λ v. v < length names) (vertex_of names x) (map (vertex_of names) xs) inside))

-- the first lines of lists list different vertices
first-apart : (lines : List Line) → AllPairs (λ a b. listed a ≢ listed b) (first_listed lines)
first-apart [] = λ i j d less within. absurd (omega arith)
first-apart (l ∷ lines) =
    let other = λ (k : Line). not (same_fields (listed l) (listed k)) in
    AllPairs-cons (λ a b. listed a ≢ listed b) l (filter other (first_listed lines))
    (All-weaker (λ k. other k ≡ true) (λ k. listed l ≢ listed k) (λ k t e. true≢false (sym ((same_fields-Decides (listed l) (listed k)).1 e) ∙ not-true _ t))
    (filter other (first_listed lines)) (filter_passes other (first_listed lines)))
    (AllPairs-filter (λ a b. listed a ≢ listed b) other (first_listed lines) (first-apart lines))

module _ (names : List (List ℕ)) (edges : List (ℕ × ℕ)) where
  abbrev net : Graph
  net = graph_of (length names) edges

  -- a line that lists two vertices or more, with an edge between each two neighbours
  record IsLinked (l : Line) : Type 0 where
    long : is_short l ≡ false
    known : has_unknown names edges (listed l) ≡ false

  list-run : (xs : List (List ℕ)) → 2 ≤ length xs → has_unknown names edges xs ≡ false → is_run net (run_of names edges xs) ≡ true
  list-run [] long known = absurd (omega arith)
  list-run (x ∷ []) long known = absurd (omega arith)
  list-run (x ∷ y ∷ ys) long known = run-along net (vertex_of names x) (vertex_of names y) (map (vertex_of names) ys) known

  list-back : All (λ e. (e.0 < length names) × (e.1 < length names)) edges → (xs : List (List ℕ)) → 2 ≤ length xs → has_unknown names edges xs ≡ false
      → map (λ v. get_or names v []) (vertices_on net (run_of names edges xs)) ≡ xs
  list-back inside [] long known = absurd (omega arith)
  list-back inside (x ∷ []) long known = absurd (omega arith)
  list-back inside (x ∷ y ∷ ys) long known =
      ap (map (λ v. get_or names v [])) (vertices-along net (vertex_of names x) (vertex_of names y) (map (vertex_of names) ys) known)
      ∙ names-back names (x ∷ y ∷ ys) (inside-along net inside (vertex_of names x) (vertex_of names y) (map (vertex_of names) ys) known)

  abbrev run_at : Line → List ℕ
  run_at l = run_of names edges (listed l)

  long-enough : (l : Line) → is_short l ≡ false → 2 ≤ length (listed l)
  long-enough l long = ltb-false (length (listed l)) 2 long

  -- lists of different vertices give different runs
  runs-apart : All (λ e. (e.0 < length names) × (e.1 < length names)) edges → (lines : List Line) → All IsLinked lines → AllPairs (λ a b. listed a ≢ listed b) lines
      → AllPairs (λ a b. a ≢ b) (map run_at lines)
  runs-apart inside [] each apart = λ i j d less within. absurd (omega arith)
  runs-apart inside (l ∷ lines) each apart =
      let here = All-head IsLinked l lines each in
      let rest = All-tail IsLinked l lines each in
      AllPairs-cons (λ a b. a ≢ b) (run_at l) (map run_at lines)
      (All-map (λ run. run_at l ≢ run) run_at lines
      (λ k d within same. let there = rest k d within in
      apart 0 (suc k) d (omega arith) (omega arith)
      (sym (list-back inside (listed l) (long-enough l here.long) here.known)
      ∙ ap (λ run. map (λ v. get_or names v []) (vertices_on net run)) same
      ∙ list-back inside (listed (get_or lines k d)) (long-enough (get_or lines k d) there.long) there.known)))
      (runs-apart inside lines rest (λ i j d less within. apart (suc i) (suc j) d (omega arith) (omega arith)))

  runs-are : (lines : List Line) → All IsLinked lines → list_all (is_run net) (map run_at lines) ≡ true
  runs-are lines each =
      list_all-map (is_run net) run_at lines
      ∙ all-from_places (λ l. is_run net (run_at l)) lines (record { number = 0; bytes = 0; fields = [] })
      (λ k within. let there = each k (record { number = 0; bytes = 0; fields = [] }) within in
      list-run (listed (get_or lines k (record { number = 0; bytes = 0; fields = [] }))) (long-enough (get_or lines k (record { number = 0; bytes = 0; fields = [] })) there.long) there.known)

-- where no `#S` line is refused for an edge, its constraints are runs, no two of them equal
module _ (lines : List Line) (known : filter (λ l. has_unknown (names_of lines) (edges_of lines) (listed l)) (run_lines lines) ≡ []) where
  linked : All (IsLinked (names_of lines) (edges_of lines)) (constraint_lines lines)
  linked = first_listed-All (IsLinked (names_of lines) (edges_of lines)) (filter (λ l. not (is_short l)) (run_lines lines))
      (λ k d within. record {
        long = not-true _ (filter_passes (λ l. not (is_short l)) (run_lines lines) k d within);
        known = All-filter (λ l. not (is_short l)) (λ l. has_unknown (names_of lines) (edges_of lines) (listed l) ≡ false) (run_lines lines)
            (filter-empty (λ l. has_unknown (names_of lines) (edges_of lines) (listed l)) (run_lines lines) known) k d within;
      })

  pub constraints-runs : list_all (is_run (graph_of (length (names_of lines)) (edges_of lines))) (map (λ l. run_of (names_of lines) (edges_of lines) (listed l)) (constraint_lines lines)) ≡ true
  constraints-runs = runs-are (names_of lines) (edges_of lines) (constraint_lines lines) linked

  pub constraints-distinct : All (λ e. (e.0 < length (names_of lines)) × (e.1 < length (names_of lines))) (edges_of lines)
      → IsDistinct (pointwise (λ d e. d == e)) (map (λ l. run_of (names_of lines) (edges_of lines) (listed l)) (constraint_lines lines))
  constraints-distinct inside =
      IsDistinct-from_AllPairs (λ xs ys. slice_eq-Decides Decides-eqb xs ys (pointwise (λ d e. d == e) xs ys) refl) _
      (runs-apart (names_of lines) (edges_of lines) inside (constraint_lines lines) linked (first-apart (filter (λ l. not (is_short l)) (run_lines lines))))
