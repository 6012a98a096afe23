-- A block of a comment, a count and edge lines is read as a graph.
use Rattle.std.proofs.Common.{◌≡◌, ℕ, ◌<◌, ◌≤◌, ◌^◌, Bool, true, false, not, List, [], ◌∷◌, ◌++◌, map, filter, length, drop, take, get_or, sym, ap, subst, ◌∙◌, arith}
use Rattle.std.specs.Prelude.{All, ◌==◌, nat_lt, flat_map, decimal, sum_by, cond, None, IsOkAnd}
use Rattle.std.specs.List.{enumerate_from, list_all, IsDistinct}
use Rattle.std.proofs.lemmas.Bool.{cond-false, ne_eqb, le-ltb}
use Rattle.std.proofs.lemmas.List.{drop_all, length-map}
use Rattle.std.proofs.lemmas.List.FromFn.{length-enumerate_from}
use Rattle.std.proofs.lemmas.List.Elements.{All-cons, All-weaker}
use Rattle.decomposition.specs.declared.Mode.TheVariants.{Exact}
use Rattle.decomposition.specs.Graph.{graph_of, edge_count, below}
use Rattle.report_terms.specs.declared.refusal.Why.TheVariants.{LongLine, BadCount, BadFields, BadWeight, BadRange, RepeatedEdge, TooManyEdges, TooManyConstraints, ShortConstraint, Cycle, UnknownEdge, Unconserved}
use Rattle.graph_text.specs.declared.block.RawGraph.{RawGraph}
use Rattle.graph_text.specs.Lines.{are_no_fields, are_hash_fields, are_run_fields}
use Rattle.graph_text.specs.Reading.{most_edges, most_constraints, Line, line_at, numbered_lines, filled_lines, content_lines, run_lines, count_lines, edge_lines, listed, ends_of, last_fields, is_weight, is_count, range_of, refused, long_lines, last_filled, bad_counts, repeats, is_short, first_listed, constraint_lines, line_refusals, names_of, edge_of, distinct, raw_graph_of, has_unknown, lines_naming, closes_cycle, cycle_lines, unknown_lines, unconserved_lines, is_unbalanced, earliest, or_else, err_or, refusal_of, read_lines, run_of, edges_of}
use Rattle.graph_text.proofs.Finishing.{lines_where-none}
use Rattle.demo_text.specs.Demo.{same_names}
use Rattle.demo_text.proofs.PlainLines.{IsWord, IsWord-decimal}
use Rattle.demo_text.proofs.Numerals.{is_count-decimal}
use Rattle.demo_text.proofs.EdgesAlong.{IsDemoEdge}
use Rattle.demo_text.proofs.DemoGraph.{names_in, net_of, range_with, unbalanced_in, closes-none, unbalanced-none}
use Rattle.demo_text.proofs.EdgeLines.{filter-all, filter-none, word-no_hash, word-no_run, line_with, IsEdgeLine, edge_lines-each, lines-ends, lines-edges, lines-ranges, lines-once, edge-filled, edge-no_hash, edge-no_run, edge-short, edge-fields, edge-weights, edge-range}

-- a comment line
pub record IsHeader (l : Line) : Type 0 where
  pub filled : are_no_fields l.fields ≡ false
  pub hash : are_hash_fields l.fields ≡ true
  pub no_run : are_run_fields l.fields ≡ false
  pub few : l.bytes ≤ 65536

-- a count line
pub record IsCount (l : Line) : Type 0 where
  pub count : ℕ
  pub fields : l.fields ≡ decimal count ∷ []
  pub small : count < 2 ^ 16
  pub few : l.bytes ≤ 65536

module _ (h c : Line) (es : List Line) (header : IsHeader h) (count : IsCount c) (each : All IsEdgeLine es) where
  abbrev lines : List Line
  lines = h ∷ c ∷ es

  word : IsWord (decimal count.count)
  word = let low = count.small in IsWord-decimal count.count (omega arith)

  count-filled : are_no_fields c.fields ≡ false
  count-filled = ap are_no_fields count.fields

  count-no_hash : are_hash_fields c.fields ≡ false
  count-no_hash = ap are_hash_fields count.fields ∙ word-no_hash (decimal count.count) word

  count-no_run : are_run_fields c.fields ≡ false
  count-no_run = ap are_run_fields count.fields ∙ word-no_run (decimal count.count) word

  pub filled : filled_lines lines ≡ lines
  filled =
      filter-all (λ l. not (are_no_fields l.fields)) lines
      (All-cons (λ l. not (are_no_fields l.fields) ≡ true) h (c ∷ es) (ap not header.filled)
      (All-cons (λ l. not (are_no_fields l.fields) ≡ true) c es (ap not count-filled)
      (All-weaker IsEdgeLine (λ l. not (are_no_fields l.fields) ≡ true) (λ l is. ap not (edge-filled l is)) es each)))

  pub content : content_lines lines ≡ c ∷ es
  content =
      ap (filter (λ (l : Line). not (are_hash_fields l.fields))) filled
      ∙ cond-false (not (are_hash_fields h.fields)) (h ∷ filter (λ (l : Line). not (are_hash_fields l.fields)) (c ∷ es)) (filter (λ (l : Line). not (are_hash_fields l.fields)) (c ∷ es)) (ap not header.hash)
      ∙ filter-all (λ (l : Line). not (are_hash_fields l.fields)) (c ∷ es)
      (All-cons (λ (l : Line). not (are_hash_fields l.fields) ≡ true) c es (ap not count-no_hash)
      (All-weaker IsEdgeLine (λ (l : Line). not (are_hash_fields l.fields) ≡ true) (λ l is. ap not (edge-no_hash l is)) es each))

  pub edges : edge_lines lines ≡ es
  edges = ap (drop 1) content

  pub runs : run_lines lines ≡ []
  runs =
      filter-none (λ (l : Line). are_run_fields l.fields) lines
      (All-cons (λ (l : Line). are_run_fields l.fields ≡ false) h (c ∷ es) header.no_run
      (All-cons (λ (l : Line). are_run_fields l.fields ≡ false) c es count-no_run
      (All-weaker IsEdgeLine (λ (l : Line). are_run_fields l.fields ≡ false) edge-no_run es each)))

  none_long : long_lines lines ≡ []
  none_long =
      ap (filter (λ (l : Line). nat_lt 65536 l.bytes)) filled
      ∙ filter-none (λ (l : Line). nat_lt 65536 l.bytes) lines
      (All-cons (λ (l : Line). nat_lt 65536 l.bytes ≡ false) h (c ∷ es) (le-ltb 65536 h.bytes header.few)
      (All-cons (λ (l : Line). nat_lt 65536 l.bytes ≡ false) c es (le-ltb 65536 c.bytes count.few)
      (All-weaker IsEdgeLine (λ (l : Line). nat_lt 65536 l.bytes ≡ false) edge-short es each)))

  no_bad_count : bad_counts lines ≡ []
  no_bad_count =
      let some : length (content_lines lines) ≡ 0 → ⊥ = λ e. omega (arith, ap length content) in
      cond-false (length (content_lines lines) == 0) (last_filled lines) (filter (λ (l : Line). not (is_count l.fields)) (count_lines lines)) (ne_eqb (length (content_lines lines)) 0 some)
      ∙ ap (λ ls. filter (λ (l : Line). not (is_count l.fields)) (take 1 ls)) content
      ∙ cond-false (not (is_count c.fields)) (c ∷ []) [] (ap (λ fields. not (is_count fields)) count.fields ∙ ap not (is_count-decimal count.count count.small))

  no_edge : (p : Line → Bool) → ((l : Line) → IsEdgeLine l → p l ≡ false) → filter p (edge_lines lines) ≡ []
  no_edge p test = ap (filter p) edges ∙ filter-none p es (All-weaker IsEdgeLine (λ l. p l ≡ false) test es each)

  no_constraint : constraint_lines lines ≡ []
  no_constraint = ap (λ ls. first_listed (filter (λ l. not (is_short l)) ls)) runs

  module _ (few : length es ≤ most_edges) (once : repeats es ≡ []) where
    -- no line is refused
    pub none-refused : line_refusals Exact lines ≡ []
    none-refused =
        (λ i. refused LongLine (none_long i) ++ refused BadCount (no_bad_count i)
        ++ refused BadFields (no_edge (λ l. not (length l.fields == 3)) edge-fields i)
        ++ refused BadWeight (no_edge (λ l. not (list_all is_weight (last_fields Exact l))) edge-weights i)
        ++ refused BadRange (no_edge (λ l. let r = range_of Exact l in nat_lt r.hi r.lo) edge-range i)
        ++ refused RepeatedEdge ((ap repeats edges ∙ once) i)
        ++ refused TooManyEdges (take 1 ((ap (drop most_edges) edges ∙ drop_all most_edges es few) i))
        ++ refused TooManyConstraints (take 1 (drop most_constraints (no_constraint i)))
        ++ refused ShortConstraint (filter is_short (runs i)))

-- the graph of the lines of edges
module _ (h c : Line) (header : IsHeader h) (count : IsCount c) (n : ℕ) (weight : List ℕ × List ℕ → ℕ) (small : (e : List ℕ × List ℕ) → weight e ≤ 1000000000000)
    (es : List (List ℕ × List ℕ)) (each : All IsDemoEdge es) where
  abbrev edge_part : List Line
  edge_part = numbered_lines n (map (line_with weight) es)

  abbrev all : List Line
  all = h ∷ c ∷ edge_part

  abbrev graph : RawGraph
  graph = raw_graph_of Exact all

  edges-are : edge_lines all ≡ edge_part
  edges-are = edges h c edge_part header count (edge_lines-each weight small n es each)

  runs-none : run_lines all ≡ []
  runs-none = runs h c edge_part header count (edge_lines-each weight small n es each)

  names-are : names_of all ≡ names_in es
  names-are = ap (λ ls. distinct (flat_map ends_of ls)) edges-are ∙ ap distinct (lines-ends weight small n es each)

  net-is : graph.net ≡ net_of es
  net-is =
      (λ i. graph_of (length (names-are i)) (map (edge_of (names-are i)) (edges-are i)))
      ∙ ap (graph_of (length (names_in es))) (lines-edges weight small (names_in es) n es each)

  ranges-are : graph.ranges ≡ map (range_with weight) es
  ranges-are = ap (map (range_of Exact)) edges-are ∙ lines-ranges weight small n es each

  same-count : length (edge_lines all) ≡ edge_count graph.net
  same-count = sym (length-map (edge_lines all) (edge_of (names_of all)))

  no_cycle : cycle_lines graph all ≡ []
  no_cycle =
      lines_where-none (closes_cycle graph.net) all
      (λ e within.
      let inside : e < edge_count (net_of es) = omega (arith, within, same-count, ap edge_count net-is) in
      ap (λ g. closes_cycle g e) net-is ∙ closes-none es each e inside)

  no_runs : graph.runs ≡ []
  no_runs = ap (map (λ l. run_of (names_of all) (edges_of all) (listed l))) (no_constraint h c edge_part header count (edge_lines-each weight small n es each))

  no_unknown : unknown_lines graph all ≡ []
  no_unknown = ap (filter (λ (l : Line). has_unknown graph.labels.names graph.labels.edges (listed l))) runs-none

  module _ (even : (test : List ℕ → Bool) → test (115 ∷ []) ≡ false → test (116 ∷ []) ≡ false
      → sum_by (λ e. cond (test e.1) (weight e) 0) es ≡ sum_by (λ e. cond (test e.0) (weight e) 0) es)
      (few : length es ≤ most_edges) (once : IsDistinct same_names es) where
    no_unbalanced : unconserved_lines Exact graph all ≡ []
    no_unbalanced =
        ap (lines_naming graph all)
        (filter-none (is_unbalanced graph) (below graph.net.vertices)
        (λ k d within. let v = get_or (below graph.net.vertices) k d in (λ i. unbalanced_in (net-is i) (ranges-are i) v) ∙ unbalanced-none es each weight v even))

    edge-count : length edge_part ≡ length es
    edge-count =
        length-map (enumerate_from n (map (line_with weight) es)) line_at ∙ length-enumerate_from n (map (line_with weight) es) ∙ length-map es (line_with weight)

    -- the lines are read as a graph
    pub is-read : IsOkAnd (read_lines Exact all) (λ graph. graph.runs ≡ [])
    is-read =
        let lines-none = none-refused h c edge_part header count (edge_lines-each weight small n es each) (omega (arith, edge-count, few)) (lines-once weight small n es each once) in
        let none : refusal_of Exact all graph ≡ None =
        (λ i. or_else (earliest (lines-none i)) (or_else (earliest (refused Cycle (no_cycle i))) (or_else (earliest (refused UnknownEdge (no_unknown i))) (earliest (refused Unconserved (no_unbalanced i)))))) in
        subst (λ r. IsOkAnd (err_or r graph) (λ g. g.runs ≡ [])) (sym none) no_runs
