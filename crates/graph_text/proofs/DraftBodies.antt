-- What a block is read as, from the graph that a draft holds of it.
use Rattle.std.proofs.Common.{◌≡◌, ℕ, zero, suc, List, [], ◌∷◌, map, take, length, get_or, slice_index, Ok, Err, Option, Some, None, refl, sym, ap, subst, ◌∙◌, arith}
use Rattle.std.proofs.lemmas.List.{take_all, length-map}
use Rattle.decomposition.specs.declared.Mode.{Mode}
use Rattle.decomposition.specs.declared.Range.{Range}
use Rattle.decomposition.specs.Flow.{IsBalanced, IsFirstUnbalanced}
use Rattle.decomposition.specs.Graph.{Graph, graph_of, IsNet}
use Rattle.dag_net.specs.Build.{FollowsNet, ClosesCycle}
use Rattle.graph_text.specs.declared.block.RawGraph.{RawGraph}
use Rattle.report_terms.specs.declared.refusal.Why.TheVariants.{Cycle, UnknownEdge, Unconserved}
use Rattle.graph_text.specs.Constraints.{Listing, listing_of, first_unknown}
use Rattle.graph_text.specs.DraftGraph.{numbers_of}
use Rattle.graph_text.specs.FirstEdges.{IsFirstAt, IsUnbalancedEdge}
use Rattle.graph_text.specs.Labels.{LabelLists}
use Rattle.graph_text.specs.LineFaults.{NoneRefused}
use Rattle.graph_text.specs.Reading.{Line, constraint_lines, edge_lines, names_of, edge_of, edges_of, range_of, run_of, raw_graph_of, read_lines}
use Rattle.graph_text.proofs.Finishing.{Rises, edge_lines-rise, weight_of}
use Rattle.graph_text.proofs.Places.{map-map}
use Rattle.graph_text.proofs.Verdicts.{read-cycle, read-unknown, read-unbalanced, read-graph}

-- a map is read at every place, also past its end
get_or-map_all : {X Y : Type 0} (f : X → Y) (xs : List X) (i : ℕ) (d : X) → get_or (map f xs) i (f d) ≡ f (get_or xs i d)
get_or-map_all f [] i d = refl
get_or-map_all f (x ∷ xs) zero d = refl
get_or-map_all f (x ∷ xs) (suc i) d = get_or-map_all f xs i d

module _ (mode : Mode) (lines : List Line) (rises : Rises lines) (none : NoneRefused mode lines)
    (labels : LabelLists) (names : labels.names ≡ names_of lines) (edges : labels.edges ≡ edges_of lines)
    (numbers : List ℕ) (numbered : numbers ≡ numbers_of (edge_lines lines))
    (ranges : List Range) (ranged : ranges ≡ map (range_of mode) (edge_lines lines))
    (constraints : List Listing) (listed_are : constraints ≡ map listing_of (constraint_lines lines)) where
  abbrev held : Graph
  held = graph_of (length labels.names) labels.edges

  abbrev graph : RawGraph
  graph = raw_graph_of mode lines

  abbrev flow : ℕ → ℕ
  flow = slice_index (map (λ (r : Range). r.lo) (take (length labels.edges) ranges))

  same_net : held ≡ graph.net
  same_net = λ i. graph_of (length (names i)) (edges i)

  -- the first edge that closes a cycle
  pub body-cycle : (e : ℕ) → FollowsNet held e → ClosesCycle held e → Err (record { line = slice_index numbers e; why = Cycle }) ≡ read_lines mode lines
  body-cycle e follows closes =
      ap (λ n. Err (record { line = slice_index n e; why = Cycle })) numbered
      ∙ sym (read-cycle mode lines none.some none.settled e
      (subst (λ g. FollowsNet g e) same_net follows) (subst (λ g. ClosesCycle g e) same_net closes) (edge_lines-rise lines rises))

  all_ranges : take (length labels.edges) ranges ≡ ranges
  all_ranges =
      take_all (length labels.edges) ranges
      (omega (arith, ap length edges, length-map (edge_lines lines) (edge_of (names_of lines)), ap length ranged, length-map (edge_lines lines) (range_of mode)))

  flow_is : flow ≡ weight_of graph lines
  flow_is =
      λ i e. (ap (λ rs. get_or (map (λ (r : Range). r.lo) rs) e 0) (all_ranges ∙ ranged)
      ∙ get_or-map_all (λ (r : Range). r.lo) (map (range_of mode) (edge_lines lines)) e (record { lo = 0; hi = 0 })) i

  same_labels : labels ≡ graph.labels
  same_labels = λ i. record { names = names i; edges = edges i }

  -- where each two neighbours are an edge, or two are none
  unknown_is : (n : Option ℕ) → first_unknown labels constraints ≡ n → first_unknown graph.labels (map listing_of (constraint_lines lines)) ≡ n
  unknown_is n is = (λ i. first_unknown (sym same_labels i) (sym listed_are i)) ∙ is

  pub body-unknown : (net : Graph) → net ≡ held → IsNet net → (n : ℕ) → first_unknown labels constraints ≡ Some n → Err (record { line = n; why = UnknownEdge }) ≡ read_lines mode lines
  body-unknown net same is_net n is =
      sym (read-unknown mode lines none.some none.settled (subst IsNet (same ∙ same_net) is_net) rises n (unknown_is (Some n) is))

  -- the first edge at the first vertex that is not balanced
  pub body-unbalanced : (net : Graph) → net ≡ held → IsNet net → first_unknown labels constraints ≡ None → (e : ℕ) → IsUnbalancedEdge mode net flow (Some e) → Err (record { line = slice_index numbers e; why = Unconserved }) ≡ read_lines mode lines
  body-unbalanced net same is_net linked e (exact, v, first, at) =
      let whole : net ≡ graph.net = same ∙ same_net in
      let at' : IsFirstAt graph.net v e = subst (λ g. IsFirstAt g v e) whole at in
      ap (λ n. Err (record { line = slice_index n e; why = Unconserved })) numbered
      ∙ sym (read-unbalanced mode lines none.some none.settled (subst IsNet whole is_net) rises (unknown_is None linked) exact v
      (subst (λ f. IsFirstUnbalanced graph.net f v) flow_is (subst (λ g. IsFirstUnbalanced g flow v) whole first))
      e at'.there at'.named at'.earlier)

  runs_are : (runs : List (List ℕ)) → runs ≡ map (λ c. run_of labels.names labels.edges c.names) constraints → runs ≡ graph.runs
  runs_are runs is =
      is ∙ (λ i. map (λ (c : Listing). run_of (names i) (edges i) c.names) (listed_are i))
      ∙ map-map (λ (c : Listing). run_of (names_of lines) (edges_of lines) c.names) listing_of (constraint_lines lines)

  -- the graph
  pub body-graph : (net : Graph) → net ≡ held → IsNet net → first_unknown labels constraints ≡ None
      → (runs : List (List ℕ)) → runs ≡ map (λ c. run_of labels.names labels.edges c.names) constraints
      → IsUnbalancedEdge mode net flow None → Ok (record { labels = labels; net = net; ranges = ranges; runs = runs }) ≡ read_lines mode lines
  body-graph net same is_net linked runs are balanced =
      let whole : net ≡ graph.net = same ∙ same_net in
      (λ i. Ok (record { labels = record { names = names i; edges = edges i }; net = whole i; ranges = ranged i; runs = runs_are runs are i }))
      ∙ sym (read-graph mode lines none.some none.settled (subst IsNet whole is_net) rises (unknown_is None linked)
      (λ exact. subst (λ f. IsBalanced graph.net f) flow_is (subst (λ g. IsBalanced g flow) whole (balanced exact))))
