-- The edges of the text of a node graph: their lines can be read back, and their names, ends and ranges are those of the split graph.
use Rattle.std.proofs.Common.{◌≡◌, ℕ, ◌+◌, ◌*◌, ◌<◌, ◌≤◌, true, false, not, ◌||◌, List, [], ◌∷◌, ◌++◌, map, length, take, get_or, Contains, refl, sym, ap, subst, ◌∙◌, arith, true≢false, length-append}
use Rattle.std.specs.Prelude.{All, ◌==◌, flat_map}
use Rattle.std.specs.List.{list_any, range_with_len, IsDistinct}
use Rattle.std.specs.Str.{bytes_eq}
use Rattle.std.proofs.lemmas.Bool.{and_parts, and_from, false_from_ne_true, ne_eqb, eq-eqb}
use Rattle.std.proofs.lemmas.Grind.{flat_map-append}
use Rattle.std.proofs.lemmas.List.{map-append, length-map, get_or-map, take_all}
use Rattle.std.proofs.lemmas.List.Elements.{All-nil, All-cons, All-head, All-tail, All-append, All-map, All-from_recursion, recursion_from_All, Contains-get_or}
use Rattle.std.proofs.lemmas.List.Folds.{flat_map-map}
use Rattle.std.proofs.lemmas.List.FromFn.{length-range_with_len, get_or-range_with_len, fill_by_all}
use Rattle.std.proofs.lemmas.Map.Keys.{IsDistinct-cons, IsDistinct-head, IsDistinct-tail}
use Rattle.std.proofs.lemmas.Slice.Eq.{bytes_eq-Decides}
use Rattle.decomposition.specs.Graph.{Graph, graph_of, IsNet, edge_count, same_ends}
use Rattle.decomposition.proofs.Reaching.{closes_none}
use Rattle.graph_text.specs.Labels.{is_field}
use Rattle.graph_text.specs.Lines.{is_blank}
use Rattle.graph_text.specs.Reading.{most_weight, distinct, vertex_of, closes_cycle}
use Rattle.graph_text.proofs.Mentions.{map_agree}
use Rattle.graph_text.proofs.Places.{map-map}
use Rattle.node_routes.specs.Split.{vertex_edge, link_edge, just, heaviest, split_graph, split_ranges}
use Rattle.node_weights.specs.NodeText.{NodeLists}
use Rattle.node_weights.specs.Kept.{IsNodeGraph}
use Rattle.node_weights.specs.SplitText.{vertex_graph, name_of, entry_of, exit_of, NamedEdge, named_vertex, named_link, named_edges}
use Rattle.node_weights.specs.SplitLaws.{split_names}
use Rattle.node_weights.proofs.SplitEdges.{IsGoodEdge, both_ends, numbers_of, range_on, same_names}
use Rattle.node_weights.proofs.SplitNames.{split_names-once, distinct-once, distinct-mentioned, entry-place, exit-place, vertex-at, Contains-split}

-- a field behind a letter is a field
letter-field : (b : ℕ) (name : List ℕ) → (is_blank b || (b == 10)) ≡ false → is_field name ≡ true → is_field (b ∷ name) ≡ true
letter-field b name letter h =
    let parts = and_parts (not (length name == 0)) (not (list_any (λ b. is_blank b || (b == 10)) name)) h in
    and_from (not (length (b ∷ name) == 0)) (not (list_any (λ b. is_blank b || (b == 10)) (b ∷ name)))
    (ap not (ne_eqb (length (b ∷ name)) 0 (λ e. omega (arith, e))))
    (ap (λ t. not (t || list_any (λ b. is_blank b || (b == 10)) name)) letter ∙ parts.1)

heaviest-le : (ws : List ℕ) → All (λ w. w ≤ most_weight) ws → heaviest ws ≤ most_weight
heaviest-le [] each = omega arith
heaviest-le (w ∷ ws) each =
    let P : ℕ → Type 0 = λ w. w ≤ most_weight in
    let here : w ≤ most_weight = All-head P w ws each in
    omega (arith, here, heaviest-le ws (All-tail P w ws each))

-- edges with different numbers have different names
distinct-by_numbers : (names : List (List ℕ)) (es : List NamedEdge) → IsDistinct same_ends (map (numbers_of names) es) → IsDistinct same_names es
unfolding IsDistinct
distinct-by_numbers names [] once = tt
distinct-by_numbers names (e ∷ es) once =
    let others = All-from_recursion (λ f. same_ends (numbers_of names e) f ≡ false) (map (numbers_of names) es) (IsDistinct-head same_ends (numbers_of names e) (map (numbers_of names) es) once) in
    IsDistinct-cons same_names e es
    (recursion_from_All (λ f. same_names e f ≡ false) es
    (λ k d within.
    let f = get_or es k d in
    let other : same_ends (numbers_of names e) (numbers_of names f) ≡ false =
    ap (same_ends (numbers_of names e)) (sym (get_or-map (numbers_of names) es k d (numbers_of names d) within)) ∙ others k (numbers_of names d) (omega (arith, within, length-map es (numbers_of names))) in
    false_from_ne_true (same_names e f)
    (λ same.
    let parts = and_parts (bytes_eq e.tail f.tail) (bytes_eq e.head f.head) same in
    true≢false
    (sym
    (and_from (vertex_of names e.tail == vertex_of names f.tail) (vertex_of names e.head == vertex_of names f.head)
    (eq-eqb (vertex_of names e.tail) (vertex_of names f.tail) (ap (vertex_of names) ((bytes_eq-Decides e.tail f.tail).0 parts.0)))
    (eq-eqb (vertex_of names e.head) (vertex_of names f.head) (ap (vertex_of names) ((bytes_eq-Decides e.head f.head).0 parts.1))))
    ∙ other))))
    (distinct-by_numbers names es (IsDistinct-tail same_ends (numbers_of names e) (map (numbers_of names) es) once))

-- no edge of a net closes a cycle with those before it
pub net-closes_none : (g : Graph) → IsNet g → (e : ℕ) → e < edge_count g → closes_cycle g e ≡ false
net-closes_none g net e within =
    let whole : IsNet (graph_of g.vertices (take (edge_count g) g.edges)) =
    subst (λ (edges : List (ℕ × ℕ)). IsNet (graph_of g.vertices edges)) (sym (take_all (edge_count g) g.edges (omega arith))) net in
    false_from_ne_true (closes_cycle g e) (λ found. closes_none g (edge_count g) e (omega arith) whole within found)

module _ (g : NodeLists) (is : IsNodeGraph g) where
  abbrev vertices : List ℕ
  vertices = range_with_len 0 (length g.names)

  abbrev names : List (List ℕ)
  names = split_names g.names

  vertex-inside : All (λ v. v < length g.names) vertices
  vertex-inside = λ k d within. omega (arith, get_or-range_with_len 0 (length g.names) k d (omega (arith, within, length-range_with_len 0 (length g.names))), within, length-range_with_len 0 (length g.names))

  name-field : (v : ℕ) → v < length g.names → is_field (name_of g v) ≡ true
  name-field v within = is.labels.fields v [] within

  -- the line of each edge can be read back
  vertex-good : (v : ℕ) → v < length g.names → IsGoodEdge (named_vertex g v)
  vertex-good v within = record {
    tail_field = letter-field 105 (name_of g v) refl (name-field v within);
    head_field = letter-field 111 (name_of g v) refl (name-field v within);
    no_hash = refl;
    rising = omega arith;
    small = is.small v 0 (omega (arith, within, is.weighted));
  }

  link-good : (e : ℕ × ℕ) → (e.0 < length g.names) × (e.1 < length g.names) → IsGoodEdge (named_link g e)
  link-good e within = record {
    tail_field = letter-field 111 (name_of g e.0) refl (name-field e.0 within.0);
    head_field = letter-field 105 (name_of g e.1) refl (name-field e.1 within.1);
    no_hash = refl;
    rising = omega arith;
    small = heaviest-le g.weights is.small;
  }

  pub edges-good : All IsGoodEdge (named_edges g)
  edges-good =
      All-append IsGoodEdge (map (named_vertex g) vertices) (map (named_link g) g.edges)
      (All-map IsGoodEdge (named_vertex g) vertices (λ k d within. vertex-good (get_or vertices k d) (vertex-inside k d within)))
      (All-map IsGoodEdge (named_link g) g.edges (λ k d within. link-good (get_or g.edges k d) (is.labels.ends k d within)))

  -- as many as the graph has vertices and edges
  pub edges-count : length (named_edges g) ≡ length g.names + length g.edges
  edges-count =
      omega (
        arith,
        length-append (map (named_vertex g) vertices) (map (named_link g) g.edges),
        length-map vertices (named_vertex g),
        length-map g.edges (named_link g),
        length-range_with_len 0 (length g.names),
      )

  -- the names, each at its first mention
  vertex-names : flat_map both_ends (map (named_vertex g) vertices) ≡ names
  vertex-names =
      flat_map-map both_ends (named_vertex g) vertices
      ∙ sym (flat_map-map (λ (name : List ℕ). entry_of name ∷ exit_of name ∷ []) (name_of g) vertices)
      ∙ ap split_names (sym (fill_by_all (name_of g) g.names (length g.names) [] refl (λ k within. refl)))

  link-names : (es : List (ℕ × ℕ)) → All (λ e. (e.0 < length g.names) × (e.1 < length g.names)) es → All (Contains names) (flat_map both_ends (map (named_link g) es))
  link-names [] each = All-nil (Contains names)
  link-names (e ∷ es) each =
      let within = All-head (λ (e : ℕ × ℕ). (e.0 < length g.names) × (e.1 < length g.names)) e es each in
      let rest = flat_map both_ends (map (named_link g) es) in
      All-cons (Contains names) (exit_of (name_of g e.0)) (entry_of (name_of g e.1) ∷ rest)
      (Contains-split g.names (name_of g e.0) (Contains-get_or g.names e.0 [] within.0)).1
      (All-cons (Contains names) (entry_of (name_of g e.1)) rest (Contains-split g.names (name_of g e.1) (Contains-get_or g.names e.1 [] within.1)).0
      (link-names es (All-tail (λ (e : ℕ × ℕ). (e.0 < length g.names) × (e.1 < length g.names)) e es each)))

  pub names-are : distinct (flat_map both_ends (named_edges g)) ≡ names
  names-are =
      let links = flat_map both_ends (map (named_link g) g.edges) in
      ap distinct (flat_map-append both_ends (map (named_vertex g) vertices) (map (named_link g) g.edges) ∙ ap (λ ns. ns ++ links) vertex-names)
      ∙ distinct-mentioned names links (link-names g.edges is.labels.ends)
      ∙ distinct-once names (split_names-once g.names is.labels.once)

  -- the numbers of an entry and of an exit
  entry-number : (v : ℕ) → v < length g.names → vertex_of names (entry_of (name_of g v)) ≡ 2 * v
  entry-number v within = entry-place g.names (name_of g v) ∙ ap (λ n. 2 * n) (vertex-at g.names v is.labels.once within)

  exit-number : (v : ℕ) → v < length g.names → vertex_of names (exit_of (name_of g v)) ≡ 2 * v + 1
  exit-number v within =
      let at = vertex-at g.names v is.labels.once within in
      exit-place g.names (name_of g v) (omega (arith, at, within)) ∙ ap (λ n. 2 * n + 1) at

  -- the edges by numbers
  pub edges-are : map (numbers_of names) (named_edges g) ≡ (split_graph (vertex_graph g)).edges
  edges-are =
      map-append (numbers_of names) (map (named_vertex g) vertices) (map (named_link g) g.edges)
      ∙ (λ i. of_vertices i ++ of_links i)
    where
      of_vertices : map (numbers_of names) (map (named_vertex g) vertices) ≡ map vertex_edge (range_with_len 0 (length g.weights))
      of_vertices =
          map-map (numbers_of names) (named_vertex g) vertices
          ∙ map_agree (λ v. numbers_of names (named_vertex g v)) vertex_edge vertices
          (λ k d within. let v = get_or vertices k d in let inside = vertex-inside k d within in (λ i. (entry-number v inside i, exit-number v inside i)))
          ∙ ap (λ n. map vertex_edge (range_with_len 0 n)) (sym is.weighted)

      of_links : map (numbers_of names) (map (named_link g) g.edges) ≡ map link_edge g.edges
      of_links =
          map-map (numbers_of names) (named_link g) g.edges
          ∙ map_agree (λ e. numbers_of names (named_link g e)) link_edge g.edges
          (λ k d within. let e = get_or g.edges k d in let ends = is.labels.ends k d within in (λ i. (exit-number e.0 ends.0 i, entry-number e.1 ends.1 i)))

  -- their ranges
  pub ranges-are : map range_on (named_edges g) ≡ split_ranges (vertex_graph g)
  ranges-are =
      map-append range_on (map (named_vertex g) vertices) (map (named_link g) g.edges)
      ∙ (λ i. of_vertices i ++ map-map range_on (named_link g) g.edges i)
    where
      weights-are : g.weights ≡ map (λ v. get_or g.weights v 0) vertices
      weights-are = fill_by_all (λ v. get_or g.weights v 0) g.weights (length g.names) 0 is.weighted (λ k within. refl)

      of_vertices : map range_on (map (named_vertex g) vertices) ≡ map just g.weights
      of_vertices =
          map-map range_on (named_vertex g) vertices
          ∙ sym (map-map just (λ v. get_or g.weights v 0) vertices)
          ∙ ap (map just) (sym weights-are)

  -- no edge stands twice
  pub edges-once : IsNet (split_graph (vertex_graph g)) → IsDistinct same_names (named_edges g)
  edges-once net = distinct-by_numbers names (named_edges g) (subst (IsDistinct same_ends) (sym edges-are) net.simple)

  -- there are as many names as vertices
  pub names-count : length names ≡ 2 * length g.weights
  names-count = count g.names ∙ ap (λ n. 2 * n) (sym is.weighted)
    where
      count : (ns : List (List ℕ)) → length (split_names ns) ≡ 2 * length ns
      count [] = refl
      count (n ∷ ns) = omega (arith, count ns)
