-- The text of a split graph is one block, which the interval model reads as the split graph, unless a line is too long.
use Rattle.std.proofs.Common.{◌≡◌, ℕ, ◌+◌, ◌*◌, ◌<◌, ◌≤◌, ◌^◌, Bool, true, false, not, ◌&&◌, List, [], ◌∷◌, ◌++◌, map, filter, length, drop, take, refl, sym, ap, subst, ◌∙◌, ⊎_elim, arith, append-nil}
use Rattle.std.specs.Prelude.{All, ◌==◌, nat_lt, flat_map, codes, decimal, Option, Some, None, option_map, Ok, Err}
use Rattle.std.specs.List.{enumerate_from, list_all, join_with_byte}
use Rattle.std.proofs.lemmas.Bool.{and_from, cond-false, cases_Bool, ne_eqb, le-leb}
use Rattle.std.proofs.lemmas.List.{drop_all, length-map}
use Rattle.std.proofs.lemmas.List.FromFn.{length-enumerate_from}
use Rattle.std.proofs.lemmas.List.Elements.{All-cons, All-head, All-tail, All-weaker, All-map}
use Rattle.decomposition.specs.declared.Mode.TheVariants.{Interval}
use Rattle.decomposition.specs.Graph.{IsNet, graph_of}
use Rattle.report_terms.specs.declared.refusal.Why.TheVariants.{LongLine, BadCount, BadFields, BadWeight, BadRange, RepeatedEdge, TooManyEdges, TooManyConstraints, ShortConstraint, Cycle, UnknownEdge}
use Rattle.report_terms.specs.declared.refusal.Refusal.{Refusal}
use Rattle.graph_text.specs.declared.block.RawGraph.{RawGraph}
use Rattle.graph_text.specs.Lines.{lines_of, fields_of, are_no_fields, are_hash_fields, are_run_fields}
use Rattle.graph_text.specs.Labels.{is_field}
use Rattle.graph_text.specs.Reading.{most_edges, most_constraints, most_bytes, Line, line_at, numbered_lines, filled_lines, content_lines, run_lines, count_lines, edge_lines, listed, ends_of, last_fields, is_weight, is_count, range_of, refused, last_filled, bad_counts, repeats, is_short, first_listed, constraint_lines, line_refusals, names_of, edge_of, distinct, raw_graph_of, has_unknown, closes_cycle, cycle_lines, unknown_lines, earlier, earliest, or_else, err_or, refusal_of, read_lines, read, run_of, edges_of, instance_of}
use Rattle.graph_text.specs.Blocks.{blocks}
use Rattle.graph_text.proofs.Places.{map-map}
use Rattle.graph_text.proofs.Finishing.{lines_where-none}
use Rattle.graph_text.proofs.KindsOfLines.{no_run-content}
use Rattle.report_reading.specs.ReportText.{line}
use Rattle.report_reading.proofs.Written.{decimal-field}
use Rattle.node_routes.specs.Split.{split_graph, split_ranges}
use Rattle.node_routes.proofs.SplitNets.{split_graphs_are_nets}
use Rattle.node_weights.specs.NodeText.{NodeLists, first}
use Rattle.node_weights.specs.Kept.{IsNodeGraph}
use Rattle.node_weights.specs.SplitText.{vertex_graph, NamedEdge, edge_fields, named_edges, split_text}
use Rattle.node_weights.specs.SplitLaws.{split_names, split_lines, split_block, split_raw, is_long, long_refusal, split_reading, SplitTextsAreOneBlock, SplitBlocksAreRead, SplitBlocksAreInstances}
use Rattle.node_weights.proofs.SplitFields.{IsReadable, fields-joined, lines-line, ends-decimal}
use Rattle.node_weights.proofs.SplitNumbers.{decimal-no_hash, spelled-count}
use Rattle.node_weights.proofs.SplitGroups.{IsContentLine, blocks-one}
use Rattle.node_weights.proofs.SplitEdges.{filter-all, filter-none, IsGoodEdge, edge_text, edge-readable, IsEdgeLine, edge-filled, edge-no_hash, edge-no_run, edge-fields, edge-weights, edge-rising, lines_from, edge_lines-each, lines-ends, lines-edges, lines-ranges, lines-once}
use Rattle.node_weights.proofs.SplitGraph.{net-closes_none, edges-good, edges-count, names-are, edges-are, ranges-are, edges-once, names-count}

-- a comment line
record IsHeader (l : Line) : Type 0 where
  filled : are_no_fields l.fields ≡ false
  hash : are_hash_fields l.fields ≡ true
  no_run : are_run_fields l.fields ≡ false

-- a count line
record IsCount (l : Line) : Type 0 where
  filled : are_no_fields l.fields ≡ false
  no_hash : are_hash_fields l.fields ≡ false
  counts : is_count l.fields ≡ true

-- a comment, a count and edge lines
module _ (h c : Line) (es : List Line) (header : IsHeader h) (count : IsCount c) (each : All IsEdgeLine es) where
  abbrev lines : List Line
  lines = h ∷ c ∷ es

  filled : filled_lines lines ≡ lines
  filled =
      filter-all (λ l. not (are_no_fields l.fields)) lines
      (All-cons (λ l. not (are_no_fields l.fields) ≡ true) h (c ∷ es) (ap not header.filled)
      (All-cons (λ l. not (are_no_fields l.fields) ≡ true) c es (ap not count.filled)
      (All-weaker IsEdgeLine (λ l. not (are_no_fields l.fields) ≡ true) (λ l is. ap not (edge-filled l is)) es each)))

  content : content_lines lines ≡ c ∷ es
  content =
      ap (filter (λ (l : Line). not (are_hash_fields l.fields))) filled
      ∙ cond-false (not (are_hash_fields h.fields)) (h ∷ filter (λ (l : Line). not (are_hash_fields l.fields)) (c ∷ es)) (filter (λ (l : Line). not (are_hash_fields l.fields)) (c ∷ es)) (ap not header.hash)
      ∙ filter-all (λ (l : Line). not (are_hash_fields l.fields)) (c ∷ es)
      (All-cons (λ (l : Line). not (are_hash_fields l.fields) ≡ true) c es (ap not count.no_hash)
      (All-weaker IsEdgeLine (λ (l : Line). not (are_hash_fields l.fields) ≡ true) (λ l is. ap not (edge-no_hash l is)) es each))

  edges : edge_lines lines ≡ es
  edges = ap (drop 1) content

  runs : run_lines lines ≡ []
  runs =
      filter-none (λ (l : Line). are_run_fields l.fields) lines
      (All-cons (λ (l : Line). are_run_fields l.fields ≡ false) h (c ∷ es) header.no_run
      (All-cons (λ (l : Line). are_run_fields l.fields ≡ false) c es (no_run-content c.fields count.no_hash)
      (All-weaker IsEdgeLine (λ (l : Line). are_run_fields l.fields ≡ false) edge-no_run es each)))

  no_bad_count : bad_counts lines ≡ []
  no_bad_count =
      let some : length (content_lines lines) ≡ 0 → ⊥ = λ e. omega (arith, e, ap length content) in
      cond-false (length (content_lines lines) == 0) (last_filled lines) (filter (λ (l : Line). not (is_count l.fields)) (count_lines lines)) (ne_eqb (length (content_lines lines)) 0 some)
      ∙ ap (λ ls. filter (λ (l : Line). not (is_count l.fields)) (take 1 ls)) content
      ∙ cond-false (not (is_count c.fields)) (c ∷ []) [] (ap not count.counts)

  no_edge : (p : Line → Bool) → ((l : Line) → IsEdgeLine l → p l ≡ false) → filter p (edge_lines lines) ≡ []
  no_edge p test = ap (filter p) edges ∙ filter-none p es (All-weaker IsEdgeLine (λ l. p l ≡ false) test es each)

  no_constraint : constraint_lines lines ≡ []
  no_constraint = ap (λ ls. first_listed (filter (λ l. not (is_short l)) ls)) runs

  -- a line is refused for its length only
  only-long : length es ≤ most_edges → repeats es ≡ [] → line_refusals Interval lines ≡ refused LongLine (filter (λ l. nat_lt most_bytes l.bytes) lines)
  only-long few once =
      (λ i. refused LongLine (filter (λ (l : Line). nat_lt most_bytes l.bytes) (filled i)) ++ refused BadCount (no_bad_count i)
      ++ refused BadFields (no_edge (λ l. not (length l.fields == 4)) edge-fields i)
      ++ refused BadWeight (no_edge (λ l. not (list_all is_weight (last_fields Interval l))) edge-weights i)
      ++ refused BadRange (no_edge (λ l. let r = range_of Interval l in nat_lt r.hi r.lo) edge-rising i)
      ++ refused RepeatedEdge ((ap repeats edges ∙ once) i)
      ++ refused TooManyEdges (take 1 ((ap (drop most_edges) edges ∙ drop_all most_edges es few) i))
      ++ refused TooManyConstraints (take 1 (drop most_constraints (no_constraint i)))
      ++ refused ShortConstraint (filter is_short (runs i)))
      ∙ none-more (refused LongLine (filter (λ (l : Line). nat_lt most_bytes l.bytes) lines))
    where
      none-more : (rs : List Refusal) → rs ++ [] ++ [] ++ [] ++ [] ++ [] ++ [] ++ [] ++ [] ≡ rs
      none-more rs = append-nil _ ∙ append-nil _ ∙ append-nil _ ∙ append-nil _ ∙ append-nil _ ∙ append-nil _ ∙ append-nil _ ∙ append-nil _

-- the earliest of the lines that are too long
abbrev refusal_on : ℕ × List ℕ → Refusal
refusal_on numbered = record { line = numbered.0; why = LongLine }

abbrev first_long : ℕ → List (List ℕ) → Option Refusal
first_long n texts = option_map refusal_on (first (filter (λ (numbered : ℕ × List ℕ). is_long numbered.1) (enumerate_from n texts)))

earlier-long : (n m : ℕ) (texts : List (List ℕ)) → n ≤ m → earlier (record { line = n; why = LongLine }) (first_long m texts) ≡ Some (record { line = n; why = LongLine })
earlier-long n m [] low = refl
earlier-long n m (text ∷ texts) low =
    ⊎_elim
    (λ (long : is_long text ≡ true). rw (long, le-leb n m low) refl)
    (λ (short : is_long text ≡ false). rw short (earlier-long n (m + 1) texts (omega arith)))
    (cases_Bool (is_long text))

earliest-long : (n : ℕ) (texts : List (List ℕ)) → earliest (refused LongLine (filter (λ l. nat_lt most_bytes l.bytes) (numbered_lines n texts))) ≡ first_long n texts
earliest-long n [] = refl
earliest-long n (text ∷ texts) =
    ⊎_elim
    (λ (long : is_long text ≡ true). rw (long, earliest-long (n + 1) texts) (earlier-long n (n + 1) texts (omega arith)))
    (λ (short : is_long text ≡ false). rw short (earliest-long (n + 1) texts))
    (cases_Bool (is_long text))

or_else-nothing : (o : Option Refusal) → or_else o None ≡ o
or_else-nothing None = refl
or_else-nothing (Some r) = refl

-- the graph of a comment, a count and the lines of edges, and its refusal
module _ (g : NodeLists) (is : IsNodeGraph g) where
  abbrev es : List NamedEdge
  es = named_edges g

  abbrev head : Line
  head = line_at (1, codes "# nodes")

  abbrev digits : List ℕ
  digits = decimal (2 * length g.names)

  few-vertices : 2 * length g.names < 2 ^ 16
  few-vertices = let few = is.few in omega arith

  digits-field : list_all is_field (digits ∷ []) ≡ true
  digits-field = and_from (is_field digits) true (decimal-field (2 * length g.names) (let few = few-vertices in omega arith)) refl

  digits-readable : IsReadable (digits ∷ [])
  digits-readable = record { good = digits-field; ends = ends-decimal (2 * length g.names) (let few = few-vertices in omega arith) }

  abbrev middle : Line
  middle = line_at (1 + 1, digits)

  middle-fields : middle.fields ≡ digits ∷ []
  middle-fields = fields-joined digits [] digits-field

  digits-no_hash : are_hash_fields (digits ∷ []) ≡ false
  digits-no_hash = decimal-no_hash (2 * length g.names) (let few = few-vertices in omega arith)

  header : IsHeader head
  header = record { filled = refl; hash = refl; no_run = refl }

  count : IsCount middle
  count = record {
    filled = ap are_no_fields middle-fields;
    no_hash = ap are_hash_fields middle-fields ∙ digits-no_hash;
    counts = ap is_count middle-fields ∙ spelled-count (2 * length g.names) few-vertices;
  }

  abbrev edge_part : List Line
  edge_part = lines_from (1 + 1 + 1) es

  abbrev all : List Line
  all = head ∷ middle ∷ edge_part

  each : All IsEdgeLine edge_part
  each = edge_lines-each (1 + 1 + 1) es (edges-good g is)

  net : IsNet (split_graph (vertex_graph g))
  net = split_graphs_are_nets (vertex_graph g) (subst (λ n. IsNet (graph_of n g.edges)) (sym is.weighted) is.acyclic)

  lines-are : edge_lines all ≡ edge_part
  lines-are = edges head middle edge_part header count each

  names-read : names_of all ≡ split_names g.names
  names-read = ap (λ ls. distinct (flat_map ends_of ls)) lines-are ∙ ap distinct (lines-ends (1 + 1 + 1) es (edges-good g is)) ∙ names-are g is

  edges-read : edges_of all ≡ (split_graph (vertex_graph g)).edges
  edges-read =
      (λ i. map (edge_of (names-read i)) (lines-are i))
      ∙ lines-edges (split_names g.names) (1 + 1 + 1) es (edges-good g is)
      ∙ edges-are g is

  ranges-read : map (range_of Interval) (edge_lines all) ≡ split_ranges (vertex_graph g)
  ranges-read = ap (map (range_of Interval)) lines-are ∙ lines-ranges (1 + 1 + 1) es (edges-good g is) ∙ ranges-are g is

  count-read : length (names_of all) ≡ 2 * length g.weights
  count-read = ap length names-read ∙ names-count g is

  no_runs : map (λ l. run_of (names_of all) (edges_of all) (listed l)) (constraint_lines all) ≡ []
  no_runs = ap (map (λ l. run_of (names_of all) (edges_of all) (listed l))) (no_constraint head middle edge_part header count each)

  raw-is : raw_graph_of Interval all ≡ split_raw g
  raw-is = λ i. record {
    labels = record { names = names-read i; edges = edges-read i };
    net = graph_of (count-read i) (edges-read i);
    ranges = ranges-read i;
    runs = no_runs i;
  }

  no_cycle : cycle_lines (split_raw g) all ≡ []
  no_cycle =
      lines_where-none (closes_cycle (split_graph (vertex_graph g))) all
      (λ e within. net-closes_none (split_graph (vertex_graph g)) net e (omega (arith, within, ap length edges-read, length-map (edge_lines all) (edge_of (names_of all)))))

  no_unknown : unknown_lines (split_raw g) all ≡ []
  no_unknown = ap (filter (λ (l : Line). has_unknown (split_names g.names) (split_graph (vertex_graph g)).edges (listed l))) (runs head middle edge_part header count each)

  few : length edge_part ≤ most_edges
  few =
      let most = is.few in
      omega (arith, length-map (enumerate_from (1 + 1 + 1) (map edge_text es)) line_at, length-enumerate_from (1 + 1 + 1) (map edge_text es), length-map es edge_text, edges-count g is)

  abbrev texts : List (List ℕ)
  texts = codes "# nodes" ∷ digits ∷ map edge_text es

  refusal-is : refusal_of Interval all (split_raw g) ≡ first_long 1 texts
  refusal-is =
      (λ i. or_else (earliest (only-long head middle edge_part header count each few (lines-once (1 + 1 + 1) es (edges-good g is) (edges-once g is net)) i))
      (or_else (earliest (refused Cycle (no_cycle i))) (or_else (earliest (refused UnknownEdge (no_unknown i))) None)))
      ∙ or_else-nothing (earliest (refused LongLine (filter (λ (l : Line). nat_lt most_bytes l.bytes) all)))
      ∙ earliest-long 1 texts

  read-is : read_lines Interval all ≡ err_or (first_long 1 texts) (split_raw g)
  read-is = (λ i. err_or (refusal_of Interval all (raw-is i)) (raw-is i)) ∙ ap (λ r. err_or r (split_raw g)) refusal-is

  -- the lines of the text
  texts-are : split_lines g ≡ texts
  texts-are = ap (λ ts. codes "# nodes" ∷ digits ∷ ts) (map-map (join_with_byte 32) edge_fields es)

  edge-lines : (es : List NamedEdge) → All IsGoodEdge es → lines_of (flat_map line (map edge_fields es)) ≡ map edge_text es
  edge-lines [] good = refl
  edge-lines (e ∷ es) good =
      lines-line (edge_fields e) (flat_map line (map edge_fields es)) (edge-readable e (All-head IsGoodEdge e es good))
      ∙ ap (λ ls. edge_text e ∷ ls) (edge-lines es (All-tail IsGoodEdge e es good))

  lines-read : lines_of (split_text g) ≡ texts
  unfolding split_text
  lines-read =
      lines-line (codes "#" ∷ codes "nodes" ∷ []) (line (digits ∷ []) ++ flat_map line (map edge_fields es)) (record { good = refl; ends = record { some = omega arith; kept = refl } })
      ∙ ap (λ ls. codes "# nodes" ∷ ls)
      (lines-line (digits ∷ []) (flat_map line (map edge_fields es)) digits-readable
      ∙ ap (λ ls. digits ∷ ls) (edge-lines es (edges-good g is)))

  contents : All IsContentLine (digits ∷ map edge_text es)
  contents =
      All-cons IsContentLine digits (map edge_text es)
      (content-of digits (digits ∷ []) middle-fields refl digits-no_hash)
      (All-map IsContentLine edge_text es
      (All-weaker IsGoodEdge (λ e. IsContentLine (edge_text e))
      (λ e good. content-of (edge_text e) (edge_fields e) (fields-joined e.tail (e.head ∷ decimal e.least ∷ decimal e.most ∷ []) (edge-readable e good).good) refl good.no_hash)
      es (edges-good g is)))
    where
      content-of : (text : List ℕ) (fields : List (List ℕ)) → fields_of text ≡ fields → are_no_fields fields ≡ false → are_hash_fields fields ≡ false → IsContentLine text
      content-of text fields are some other = record {
        content = ap (λ fs. not (are_no_fields fs) && not (are_hash_fields fs)) are ∙ and_from (not (are_no_fields fields)) (not (are_hash_fields fields)) (ap not some) (ap not other);
        no_hash = ap are_hash_fields are ∙ other;
      }

  one-block : blocks (split_text g) ≡ split_block g ∷ []
  one-block =
      blocks-one (split_text g) (codes "# nodes") digits (map edge_text es) lines-read (record { filled = refl; hash = refl }) contents
      ∙ (λ i. (record { index = 1; line = 1; lines = sym texts-are i }) ∷ [])

  block-read : read Interval (split_block g) ≡ split_reading g
  block-read =
      ap (λ ts. read_lines Interval (numbered_lines 1 ts)) texts-are
      ∙ read-is
      ∙ ap (λ ts. err_or (first_long 1 ts) (split_raw g)) (sym texts-are)

pub split_texts_are_one_block : SplitTextsAreOneBlock
split_texts_are_one_block g is = one-block g is

pub split_blocks_are_read : SplitBlocksAreRead
split_blocks_are_read g is = block-read g is

pub split_blocks_are_instances : SplitBlocksAreInstances
split_blocks_are_instances g raw is h = ap instance_of (sym (read-ok (long_refusal g) (split_raw g) raw (sym (block-read g is) ∙ h)))
  where
    read-ok : (refusal : Option Refusal) (made graph : RawGraph) → err_or refusal made ≡ Ok graph → made ≡ graph
    read-ok None made graph h = let e : Ok made ≡ Ok graph = h in cc
    read-ok (Some r) made graph h = absurd (let e : Err r ≡ Ok graph = h in cc)
