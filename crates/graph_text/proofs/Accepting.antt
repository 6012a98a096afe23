-- Every graph that a block is read as is a valid instance of its model, with labels that fit it.
use Rattle.std.proofs.Common.{◌≡◌, ◌≢◌, ℕ, zero, suc, ◌+◌, ◌<◌, ◌≤◌, Bool, true, false, not, ◌&&◌, ◌||◌, List, [], ◌∷◌, filter, length, take, get_or, refl, sym, ap, subst, ◌∙◌, ⊎_elim, arith}
use Rattle.std.specs.Prelude.{All, AllPairs, IsTrue, ◌==◌, Option, Some, None, Ok, Err}
use Rattle.std.specs.List.{list_any, list_all, flat_map, IsDistinct}
use Rattle.std.specs.Str.{bytes_eq}
use Rattle.std.proofs.lemmas.Bool.{true≢false, cond_both, and_parts, not-true, not-false, eqb-true, or_left, eq-eqb, cases_lt}
use Rattle.std.proofs.lemmas.List.{length-map, take_all, get_or-take, length-take, length_push, get_or_append_left, get_or_push}
use Rattle.std.proofs.lemmas.List.Elements.{All-nil, All-cons, All-head, All-tail, All-filter, All-weaker, filter_passes, All-take, All-drop, All-append, All-from_recursion, recursion_from_All}
use Rattle.std.proofs.lemmas.Map.Keys.{IsDistinct-cons, IsDistinct-head, IsDistinct-tail}
use Rattle.decomposition.specs.declared.Mode.{Mode}
use Rattle.decomposition.specs.declared.Mode.TheVariants.{Exact, Interval, Abs}
use Rattle.decomposition.specs.Graph.{Graph, IsNet, graph_of, graph_before, edge_count, tail, head, is_inner, is_walk_from, walk_end, below}
use Rattle.decomposition.specs.Flow.{IsBalanced, flow_into, flow_out_of}
use Rattle.decomposition.specs.Instance.{FitsModel, lower_bound}
use Rattle.decomposition.proofs.Balance.{inner-parts}
use Rattle.decomposition.proofs.Walks.{IsStep, walk-cons, edge_out_of}
use Rattle.decomposition.proofs.Reaching.{closes_some, IsNet-more}
use Rattle.report_terms.specs.declared.refusal.Why.TheVariants.{Cycle, UnknownEdge, Unconserved}
use Rattle.report_terms.specs.declared.refusal.Refusal.{Refusal}
use Rattle.graph_text.specs.declared.block.RawGraph.{RawGraph}
use Rattle.graph_text.specs.Accepted.{IsAccepted, GraphsAreAccepted}
use Rattle.graph_text.specs.Labels.{is_field}
use Rattle.graph_text.specs.Reading.{Line, numbered_lines, filled_lines, content_lines, edge_lines, most_constraints, listed, constraint_lines, run_of, unknown_lines, ends_of, distinct, names_of, edge_of, edges_of, raw_graph_of, refused, line_refusals, earliest, or_else, err_or, refusal_of, closes_cycle, cycle_lines, is_unbalanced, unconserved_lines, lines_naming, instance_of, weights_of}
use Rattle.graph_text.proofs.Finishing.{lines_where-empty, inner_inside}
use Rattle.graph_text.proofs.GraphOfLines.{AreSound-from_line, earliest-none, refused-empty, filter-empty, edges_inside, edges_distinct, few_edges, few-from_none, range_each, ranges_bounded, ranges_single}
use Rattle.graph_text.proofs.RunsOfLists.{constraints-runs, constraints-distinct}
use Rattle.graph_text.proofs.Splitting.{fields_are_fields}

-- what a graph is read as where nothing is refused
or_else-none : (a b : Option Refusal) → or_else a b ≡ None → (a ≡ None) × (b ≡ None)
or_else-none None b h = (refl, h)
or_else-none (Some r) b h = absurd (let e : Some r ≡ None = h in cc)

read-ok : (refusal : Option Refusal) (made graph : RawGraph) → err_or refusal made ≡ Ok graph → (refusal ≡ None) × (made ≡ graph)
read-ok None made graph h = (refl, let e : Ok made ≡ Ok graph = h in cc)
read-ok (Some r) made graph h = absurd (let e : Err r ≡ Ok graph = h in cc)

-- names, each once, are distinct and fields
IsDistinct-filter : {X : Type 0} (e : X → X → Bool) (p : X → Bool) (xs : List X) → IsDistinct e xs → IsDistinct e (filter p xs)
IsDistinct-filter e p [] h = h
IsDistinct-filter e p (x ∷ xs) h =
    let rest : IsDistinct e (filter p xs) = IsDistinct-filter e p xs (IsDistinct-tail e x xs h) in
    cond_both (p x) (x ∷ filter p xs) (filter p xs) (IsDistinct e)
    (λ _. IsDistinct-cons e x (filter p xs)
    (recursion_from_All (λ y. e x y ≡ false) (filter p xs) (All-filter p (λ y. e x y ≡ false) xs (All-from_recursion (λ y. e x y ≡ false) xs (IsDistinct-head e x xs h)))) rest)
    (λ _. rest)

distinct-once : (names : List (List ℕ)) → IsDistinct bytes_eq (distinct names)
unfolding IsDistinct
distinct-once [] = tt
distinct-once (name ∷ names) =
    IsDistinct-cons bytes_eq name (filter (λ n. not (bytes_eq name n)) (distinct names))
    (recursion_from_All (λ y. bytes_eq name y ≡ false) (filter (λ n. not (bytes_eq name n)) (distinct names))
    (All-weaker (λ y. not (bytes_eq name y) ≡ true) (λ y. bytes_eq name y ≡ false) (λ y t. not-true _ t) _ (filter_passes (λ n. not (bytes_eq name n)) (distinct names))))
    (IsDistinct-filter bytes_eq (λ n. not (bytes_eq name n)) (distinct names) (distinct-once names))

distinct-All : (P : List ℕ → Type 0) (names : List (List ℕ)) → All P names → All P (distinct names)
distinct-All P [] each = each
distinct-All P (name ∷ names) each =
    All-cons P name (filter (λ n. not (bytes_eq name n)) (distinct names)) (All-head P name names each)
    (All-filter (λ n. not (bytes_eq name n)) P (distinct names) (distinct-All P names (All-tail P name names each)))

flat_map-All : {X Y : Type 0} (P : Y → Type 0) (f : X → List Y) (xs : List X) → All (λ x. All P (f x)) xs → All P (flat_map f xs)
flat_map-All P f [] each = All-nil P
flat_map-All P f (x ∷ xs) each = All-append P (f x) (flat_map f xs) (All-head (λ y. All P (f y)) x xs each) (flat_map-All P f xs (All-tail (λ y. All P (f y)) x xs each))

-- every field of a line is a field
abbrev HasFields : Line → Type 0
HasFields l = All (λ field. IsTrue (is_field field)) l.fields

numbered-fields : (n : ℕ) (lines : List (List ℕ)) → All (λ line. list_any (λ b. b == 10) line ≡ false) lines → All HasFields (numbered_lines n lines)
numbered-fields n [] whole = All-nil HasFields
numbered-fields n (line ∷ lines) whole =
    All-cons HasFields _ (numbered_lines (n + 1) lines) (fields_are_fields line (All-head (λ line. list_any (λ b. b == 10) line ≡ false) line lines whole))
    (numbered-fields (n + 1) lines (All-tail (λ line. list_any (λ b. b == 10) line ≡ false) line lines whole))

edge_lines-fields : (lines : List Line) → All HasFields lines → All HasFields (edge_lines lines)
edge_lines-fields lines each = All-drop HasFields 1 (content_lines lines) (All-filter _ HasFields (filled_lines lines) (All-filter _ HasFields lines each))

names-fields : (lines : List Line) → All HasFields lines → All (λ name. IsTrue (is_field name)) (names_of lines)
names-fields lines each =
    distinct-All (λ name. IsTrue (is_field name)) (flat_map ends_of (edge_lines lines))
    (flat_map-All (λ name. IsTrue (is_field name)) ends_of (edge_lines lines)
    (λ k d within. All-take (λ name. IsTrue (is_field name)) 2 (get_or (edge_lines lines) k d).fields (edge_lines-fields lines each k d within)))

-- a graph without an edge that closes a cycle is a net
IsNet-before : (g : Graph) → All (λ edge. (edge.0 < g.vertices) × (edge.1 < g.vertices)) g.edges → AllPairs (λ a b. a ≢ b) g.edges
    → ((e : ℕ) → e < edge_count g → closes_cycle g e ≡ false) → (n : ℕ) → n ≤ edge_count g → IsNet (graph_before g n)
unfolding IsDistinct
IsNet-before g inside distinct apart zero few = record {
  in_range = refl;
  simple = tt;
  acyclic = none;
} where
  none : (v : ℕ) (es : List ℕ) → IsTrue (is_walk_from (graph_before g 0) v es) → walk_end (graph_before g 0) v es ≡ v → es ≡ []
  none v [] walk closed = refl
  none v (e ∷ es) walk closed = absurd (let s : IsStep (graph_before g 0) v e es = walk-cons (graph_before g 0) v e es walk in omega (arith, s.inside))
IsNet-before g inside distinct apart (suc n) few =
    let before : IsNet (graph_before g n) = IsNet-before g inside distinct apart n (omega arith) in
    let within : n < edge_count g = omega arith in
    let next : n + 1 ≡ suc n = omega arith in
    subst (λ k. IsNet (graph_before g k)) next
    (IsNet-more g n within (All-take (λ edge. (edge.0 < g.vertices) × (edge.1 < g.vertices)) (n + 1) g.edges inside) (pairs-take (n + 1) g.edges distinct) before
    (λ way. true≢false (sym (closes_some g n before way) ∙ apart n within)))
  where
    pairs-take : (n : ℕ) (edges : List (ℕ × ℕ)) → AllPairs (λ a b. a ≢ b) edges → AllPairs (λ a b. a ≢ b) (take n edges)
    pairs-take n edges distinct i j d less within same =
        let low : j < n = omega (arith, length-take n edges) in
        distinct i j d less (omega (arith, length-take n edges)) (sym (get_or-take n edges i d (omega arith)) ∙ same ∙ get_or-take n edges j d low)

IsNet-by_edges : (g : Graph) → All (λ edge. (edge.0 < g.vertices) × (edge.1 < g.vertices)) g.edges → AllPairs (λ a b. a ≢ b) g.edges
    → ((e : ℕ) → e < edge_count g → closes_cycle g e ≡ false) → IsNet g
IsNet-by_edges g inside distinct apart =
    subst (λ (edges : List (ℕ × ℕ)). IsNet (graph_of g.vertices edges)) (take_all (edge_count g) g.edges (omega arith))
    (IsNet-before g inside distinct apart (edge_count g) (omega arith))

-- the numbers below n, by place
length-below : (n : ℕ) → length (below n) ≡ n
length-below zero = refl
length-below (suc n) = omega (arith, length_push (below n) n, length-below n)

get_or-below : (n v d : ℕ) → v < n → get_or (below n) v d ≡ v
get_or-below zero v d within = absurd (omega arith)
get_or-below (suc n) v d within =
    ⊎_elim
    (λ less. let inside : v < length (below n) = omega (arith, length-below n) in get_or_append_left (below n) (n ∷ []) d v inside ∙ get_or-below n v d less)
    (λ more. let same : v ≡ n = omega arith in get_or_push (below n) n d v (omega (arith, length-below n)) ∙ sym same)
    (cases_lt v n)

-- where no line names an unbalanced vertex, the flow is balanced
balanced-from_none : (graph : RawGraph) (lines : List Line) → edge_count graph.net ≡ length (edge_lines lines)
    → All (λ edge. (edge.0 < graph.net.vertices) × (edge.1 < graph.net.vertices)) graph.net.edges
    → unconserved_lines Exact graph lines ≡ [] → IsBalanced graph.net (lower_bound (instance_of graph))
balanced-from_none graph lines each inside none v inner =
    let open_line = passed (filter (is_unbalanced graph) (below graph.net.vertices)) refl none in
    let even : is_unbalanced graph v ≡ false = open_line in
    eqb-true (flow_into graph.net (lower_bound (instance_of graph)) v) (flow_out_of graph.net (lower_bound (instance_of graph)) v) (not-false _ (sym (ap (λ b. b && not (flow_into graph.net (lower_bound (instance_of graph)) v == flow_out_of graph.net (lower_bound (instance_of graph)) v)) inner) ∙ even))
  where
    passed : (vs : List ℕ) → filter (is_unbalanced graph) (below graph.net.vertices) ≡ vs → lines_naming graph lines vs ≡ [] → is_unbalanced graph v ≡ false
    passed [] e empty =
        let within : v < graph.net.vertices = inner_inside graph.net inside v inner in
        subst (λ u. is_unbalanced graph u ≡ false) (get_or-below graph.net.vertices v 0 within)
        (filter-empty (is_unbalanced graph) (below graph.net.vertices) e v 0 (omega (arith, within, length-below graph.net.vertices)))
    passed (u ∷ us) e empty =
        let unbalanced : is_unbalanced graph u ≡ true =
        All-head (λ w. is_unbalanced graph w ≡ true) u us (subst (All (λ w. is_unbalanced graph w ≡ true)) e (filter_passes (is_unbalanced graph) (below graph.net.vertices))) in
        let out = edge_out_of graph.net u (inner-parts graph.net u (and_parts (is_inner graph.net u) _ unbalanced).0).1 in
        let quiet : ((tail graph.net out.0 == u) || (head graph.net out.0 == u)) ≡ false =
        lines_where-empty (λ e. (tail graph.net e == u) || (head graph.net e == u)) lines empty out.0 (omega (arith, out.1)) in
        absurd (true≢false (sym (or_left _ _ (eq-eqb (tail graph.net out.0) u out.2)) ∙ quiet))

fits : (mode : Mode) (graph : RawGraph) (lines : List Line) → edge_count graph.net ≡ length (edge_lines lines)
    → All (λ edge. (edge.0 < graph.net.vertices) × (edge.1 < graph.net.vertices)) graph.net.edges
    → (weights_of mode ≡ 1 → list_all (λ r. r.lo == r.hi) graph.ranges ≡ true)
    → unconserved_lines mode graph lines ≡ [] → FitsModel mode (instance_of graph)
fits Exact graph lines each inside single none = (single refl, balanced-from_none graph lines each inside none)
fits Interval graph lines each inside single none = tt
fits (Abs k) graph lines each inside single none = single refl

accepted-lines : (mode : Mode) (lines : List Line) → All HasFields lines → refusal_of mode lines (raw_graph_of mode lines) ≡ None → IsAccepted mode (raw_graph_of mode lines)
accepted-lines mode lines fields none =
    let graph = raw_graph_of mode lines in
    let flow = earliest (refused Unconserved (unconserved_lines mode graph lines)) in
    let unknown = earliest (refused UnknownEdge (unknown_lines graph lines)) in
    let line = or_else-none (earliest (line_refusals mode lines)) (or_else (earliest (refused Cycle (cycle_lines graph lines))) (or_else unknown flow)) none in
    let cycle = or_else-none (earliest (refused Cycle (cycle_lines graph lines))) (or_else unknown flow) line.1 in
    let last = or_else-none unknown flow cycle.1 in
    let known = refused-empty UnknownEdge (unknown_lines graph lines) (earliest-none (refused UnknownEdge (unknown_lines graph lines)) last.0) in
    let sound = AreSound-from_line mode lines line.0 in
    let each : edge_count graph.net ≡ length (edge_lines lines) = length-map (edge_lines lines) (edge_of (names_of lines)) in
    let inside = edges_inside mode lines sound in
    let distinct_edges = edges_distinct mode lines sound in
    let cycles : cycle_lines graph lines ≡ [] = refused-empty Cycle _ (earliest-none _ cycle.0) in
    let net : IsNet graph.net = IsNet-by_edges graph.net inside distinct_edges (λ e within. lines_where-empty (closes_cycle graph.net) lines cycles e (omega arith)) in
    record {
      instance = record {
        net = net;
        ranged = range_each mode lines sound;
        bounded = ranges_bounded mode lines sound;
        runs = constraints-runs lines known;
        distinct = constraints-distinct lines known inside;
        fits = fits mode graph lines each inside (ranges_single mode lines sound) (refused-empty Unconserved _ (earliest-none _ last.1));
      };
      labels = record {
        fields = names-fields lines fields;
        once = distinct-once (flat_map ends_of (edge_lines lines));
        ends = inside;
        simple = net.simple;
      };
      edges = refl;
      vertices = refl;
      few_edges = few_edges mode lines sound;
      few_runs = omega (arith, few-from_none most_constraints (constraint_lines lines) sound.few_constraints, length-map (constraint_lines lines) (λ l. run_of (names_of lines) (edges_of lines) (listed l)));
    }

pub graphs_are_accepted : GraphsAreAccepted
graphs_are_accepted mode block graph whole is =
    let lines = numbered_lines block.line block.lines in
    let ok = read-ok (refusal_of mode lines (raw_graph_of mode lines)) (raw_graph_of mode lines) graph is in
    subst (IsAccepted mode) ok.1 (accepted-lines mode lines (numbered-fields block.line block.lines whole) ok.0)
