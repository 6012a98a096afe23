-- A graph of edges that lead from the source to the sink, each by two names: no edge closes a cycle, and its flow is balanced.
use Rattle.std.proofs.Common.{◌≡◌, ℕ, ◌+◌, ◌<◌, ◌≤◌, Bool, true, false, not, cond, ◌&&◌, List, [], ◌∷◌, map, length, get_or, Contains, refl, sym, ap, subst, ◌∙◌, ⊎_elim, arith}
use Rattle.std.specs.Prelude.{All, ◌==◌, flat_map, sum_by}
use Rattle.std.specs.List.{list_any}
use Rattle.std.specs.Str.{bytes_eq}
use Rattle.std.proofs.lemmas.Bool.{cases_Bool, false_from_ne_true, and_left, and_right, not-false, eqb-true, eq-eqb}
use Rattle.std.proofs.lemmas.List.{length-map, length-take, get_or-map}
use Rattle.std.proofs.lemmas.List.Elements.{All-nil, All-cons, All-weaker, Contains-append_right}
use Rattle.std.proofs.lemmas.List.Folds.{Any-from_list_any}
use Rattle.std.proofs.lemmas.List.Sums.{passes_at_first, sum_by-cons}
use Rattle.std.proofs.lemmas.Slice.Eq.{bytes_eq-Decides}
use Rattle.decomposition.specs.declared.Range.{Range}
use Rattle.decomposition.specs.Graph.{Graph, graph_of, graph_before, edge_count, tail, head, is_inner, is_source, is_sink, is_walk_from, walk_end}
use Rattle.decomposition.specs.Answer.{sum_below}
use Rattle.decomposition.specs.Flow.{flow_into, flow_out_of}
use Rattle.decomposition.specs.Instance.{range_at}
use Rattle.decomposition.specs.Reach.{Reaches}
use Rattle.decomposition.proofs.Balance.{inner-parts}
use Rattle.decomposition.proofs.Reaching.{Reaches-from_within, IsEdge-before}
use Rattle.decomposition.proofs.Sums.{sum_below_first}
use Rattle.decomposition.proofs.Walks.{IsStep, walk-cons}
use Rattle.dag_net.proofs.Lists.{Contains-head}
use Rattle.graph_text.specs.Reading.{distinct, vertex_of, closes_cycle}
use Rattle.graph_text.proofs.Mentions.{Contains-distinct}
use Rattle.graph_text.proofs.Places.{place_of_contained, list_any-map}
use Rattle.demo_text.specs.Demo.{both_ends}
use Rattle.demo_text.proofs.EdgesAlong.{IsDemoEdge, rank}

-- whether a vertex of these ranges is not balanced
abbrev pub unbalanced_in : Graph → List Range → ℕ → Bool
unbalanced_in g ranges v =
    let weight = λ (e : ℕ). (range_at ranges e).lo in
    is_inner g v && not (flow_into g weight v == flow_out_of g weight v)

-- the vertices of edges by names, the edges by numbers of vertices, and the ranges of weights
abbrev pub names_in : List (List ℕ × List ℕ) → List (List ℕ)
names_in es = distinct (flat_map both_ends es)

abbrev pub numbers_of : List (List ℕ) → List ℕ × List ℕ → ℕ × ℕ
numbers_of names e = (vertex_of names e.0, vertex_of names e.1)

abbrev pub net_of : List (List ℕ × List ℕ) → Graph
net_of es = graph_of (length (names_in es)) (map (numbers_of (names_in es)) es)

abbrev pub range_with : (List ℕ × List ℕ → ℕ) → List ℕ × List ℕ → Range
range_with weight e = record { lo = weight e; hi = weight e }

-- the ends of the edges are names
AreNamed : List (List ℕ) → List ℕ × List ℕ → Type 0
AreNamed names e = Contains names e.0 × Contains names e.1

ends-mentioned : (es : List (List ℕ × List ℕ)) → All (AreNamed (flat_map both_ends es)) es
unfolding AreNamed
ends-mentioned [] = All-nil (AreNamed [])
ends-mentioned (e ∷ es) =
    let rest = flat_map both_ends es in
    All-cons (AreNamed (e.0 ∷ e.1 ∷ rest)) e es
    (Contains-head e.0 (e.1 ∷ rest), Contains-append_right (e.0 ∷ []) (e.1 ∷ rest) e.1 (Contains-head e.1 rest))
    (All-weaker (AreNamed rest) (AreNamed (e.0 ∷ e.1 ∷ rest))
    (λ f there. (Contains-append_right (e.0 ∷ e.1 ∷ []) rest f.0 there.0, Contains-append_right (e.0 ∷ e.1 ∷ []) rest f.1 there.1))
    es (ends-mentioned es))

ends-named : (es : List (List ℕ × List ℕ)) → All (AreNamed (names_in es)) es
unfolding AreNamed
ends-named es =
    All-weaker (AreNamed (flat_map both_ends es)) (AreNamed (names_in es))
    (λ e there. (Contains-distinct (flat_map both_ends es) e.0 there.0, Contains-distinct (flat_map both_ends es) e.1 there.1))
    es (ends-mentioned es)

name-back : (names : List (List ℕ)) (name : List ℕ) → Contains names name → get_or names (vertex_of names name) [] ≡ name
name-back names name there = (place_of_contained bytes_eq-Decides names name [] there).1

-- the name that has the number of another name is that name
same-number : (names : List (List ℕ)) (x y : List ℕ) → Contains names y → vertex_of names x ≡ vertex_of names y → x ≡ y
same-number names x y there same =
    let place = place_of_contained bytes_eq-Decides names y [] there in
    let within : vertex_of names x < length names = omega (arith, place.0, same) in
    (bytes_eq-Decides x (get_or names (vertex_of names x) [])).0 (passes_at_first (bytes_eq x) names [] within)
    ∙ ap (λ n. get_or names n []) same ∙ place.1

module _ (es : List (List ℕ × List ℕ)) (each : All IsDemoEdge es) where
  height : ℕ → ℕ
  height k = rank (get_or (names_in es) k [])

  -- each edge leads higher
  edge-rises : (k : ℕ) → k < edge_count (net_of es) → height (tail (net_of es) k) < height (head (net_of es) k)
  unfolding height AreNamed
  edge-rises k within =
      let inside : k < length es = omega (arith, within, length-map es (numbers_of (names_in es))) in
      let d : List ℕ × List ℕ = ([], []) in
      let e = get_or es k d in
      let at : get_or (map (numbers_of (names_in es)) es) k (0, 0) ≡ numbers_of (names_in es) e = get_or-map (numbers_of (names_in es)) es k d (0, 0) inside in
      let named = ends-named es k d inside in
      let low : rank (get_or (names_in es) (tail (net_of es) k) []) ≡ rank e.0 =
      ap (λ (p : ℕ × ℕ). rank (get_or (names_in es) p.0 [])) at ∙ ap rank (name-back (names_in es) e.0 named.0) in
      let high : rank (get_or (names_in es) (head (net_of es) k) []) ≡ rank e.1 =
      ap (λ (p : ℕ × ℕ). rank (get_or (names_in es) p.1 [])) at ∙ ap rank (name-back (names_in es) e.1 named.1) in
      omega (arith, low, high, (each k d inside).rises)

  walk-rises : (g : Graph) → ((k : ℕ) → k < edge_count g → height (tail g k) < height (head g k))
      → (v : ℕ) (walk : List ℕ) → is_walk_from g v walk ≡ true → height v ≤ height (walk_end g v walk)
  walk-rises g rises v [] is = omega arith
  walk-rises g rises v (k ∷ walk) is =
      let s : IsStep g v k walk = walk-cons g v k walk is in
      omega (arith, rises k s.inside, ap height s.leaves, walk-rises g rises (head g k) walk s.rest)

  -- no edge closes a cycle
  pub closes-none : (k : ℕ) → k < edge_count (net_of es) → closes_cycle (net_of es) k ≡ false
  closes-none k within =
      false_from_ne_true (closes_cycle (net_of es) k)
      (λ found.
      let g = graph_before (net_of es) k in
      let way : Reaches g (head (net_of es) k) (tail (net_of es) k) = Reaches-from_within (edge_count g) g (head (net_of es) k) (tail (net_of es) k) found in
      let rises : (j : ℕ) → j < edge_count g → height (tail g j) < height (head g j) =
      λ j there.
      (let low : j < k = omega (arith, there, length-take k (net_of es).edges) in
      let same = IsEdge-before (net_of es) k j (omega arith) low in
      omega (arith, ap height same.1, ap height same.2, edge-rises j (omega arith))) in
      omega (arith, walk-rises g rises (head (net_of es) k) way.edges way.walk, ap height way.end, edge-rises k within))

  -- a test of the numbers of vertices as a test of their names
  abbrev test_of : ℕ → List ℕ → Bool
  test_of v name = vertex_of (names_in es) name == v

  -- flows as sums over the edges
  module _ (weight : List ℕ × List ℕ → ℕ) (v : ℕ) where
    flow_sum : (ends : List ℕ × List ℕ → List ℕ) (end : ℕ × ℕ → ℕ) → ((e : List ℕ × List ℕ) → end (numbers_of (names_in es) e) ≡ vertex_of (names_in es) (ends e)) → (fs : List (List ℕ × List ℕ))
        → sum_below (λ k. cond (end (get_or (map (numbers_of (names_in es)) fs) k (0, 0)) == v) (range_at (map (range_with weight) fs) k).lo 0) (length (map (numbers_of (names_in es)) fs))
        ≡ sum_by (λ e. cond (test_of v (ends e)) (weight e) 0) fs
    flow_sum ends end same [] = refl
    flow_sum ends end same (e ∷ fs) =
        sum_below_first (λ k. cond (end (get_or (map (numbers_of (names_in es)) (e ∷ fs)) k (0, 0)) == v) (range_at (map (range_with weight) (e ∷ fs)) k).lo 0) (length (map (numbers_of (names_in es)) fs))
        ∙ (λ i. cond (same e i == v) (weight e) 0 + flow_sum ends end same fs i)
        ∙ sym (sum_by-cons (λ e. cond (test_of v (ends e)) (weight e) 0) e fs)

    -- an inner vertex is not the source, and not the sink
    not_source : is_source (net_of es) v ≡ false → test_of v (115 ∷ []) ≡ false
    unfolding AreNamed
    not_source inner =
        let entered : list_any (λ e. test_of v e.1) es ≡ true = sym (list_any-map (λ (e : ℕ × ℕ). e.1 == v) (numbers_of (names_in es)) es) ∙ not-false _ inner in
        let (k, e, within, at, here) = Any-from_list_any (λ e. test_of v e.1) es entered in
        false_from_ne_true (test_of v (115 ∷ []))
        (λ t.
        let named : Contains (names_in es) e.1 = subst (λ (f : List ℕ × List ℕ). Contains (names_in es) f.1) at (ends-named es k e within).1 in
        let rises : rank e.0 < rank e.1 = subst (λ (f : List ℕ × List ℕ). rank f.0 < rank f.1) at (each k e within).rises in
        let same : 115 ∷ [] ≡ e.1 = same-number (names_in es) (115 ∷ []) e.1 named (eqb-true _ v t ∙ sym (eqb-true _ v here)) in
        omega (arith, ap rank same, rises))

    not_sink : is_sink (net_of es) v ≡ false → test_of v (116 ∷ []) ≡ false
    unfolding AreNamed
    not_sink inner =
        let left : list_any (λ e. test_of v e.0) es ≡ true = sym (list_any-map (λ (e : ℕ × ℕ). e.0 == v) (numbers_of (names_in es)) es) ∙ not-false _ inner in
        let (k, e, within, at, here) = Any-from_list_any (λ e. test_of v e.0) es left in
        false_from_ne_true (test_of v (116 ∷ []))
        (λ t.
        let named : Contains (names_in es) e.0 = subst (λ (f : List ℕ × List ℕ). Contains (names_in es) f.0) at (ends-named es k e within).0 in
        let low : rank e.0 < 116 = subst (λ (f : List ℕ × List ℕ). rank f.0 < 116) at (each k e within).before_sink in
        let same : 116 ∷ [] ≡ e.0 = same-number (names_in es) (116 ∷ []) e.0 named (eqb-true _ v t ∙ sym (eqb-true _ v here)) in
        omega (arith, ap rank same, low))

    -- no vertex is unbalanced
    pub unbalanced-none : ((test : List ℕ → Bool) → test (115 ∷ []) ≡ false → test (116 ∷ []) ≡ false
        → sum_by (λ e. cond (test e.1) (weight e) 0) es ≡ sum_by (λ e. cond (test e.0) (weight e) 0) es)
        → unbalanced_in (net_of es) (map (range_with weight) es) v ≡ false
    unbalanced-none even =
        ⊎_elim
        (λ t.
        let inner = inner-parts (net_of es) v t in
        let flows : flow_into (net_of es) (λ k. (range_at (map (range_with weight) es) k).lo) v ≡ flow_out_of (net_of es) (λ k. (range_at (map (range_with weight) es) k).lo) v =
        flow_sum (λ e. e.1) (λ p. p.1) (λ e. refl) es ∙ even (test_of v) (not_source inner.0) (not_sink inner.1) ∙ sym (flow_sum (λ e. e.0) (λ p. p.0) (λ e. refl) es) in
        and_right (is_inner (net_of es) v) _ (ap not (eq-eqb _ _ flows)))
        (λ f. and_left (is_inner (net_of es) v) _ f)
        (cases_Bool (is_inner (net_of es) v))
