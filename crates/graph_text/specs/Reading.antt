-- What a block is read as: a graph, or a refusal with the line that it names.
use Rattle.std.specs.Prelude.{ℕ, ◌+◌, ◌-◌, ◌*◌, ◌==◌, List, [], ◌∷◌, ◌++◌, length, take, drop, map, Bool, true, false, not, ◌&&◌, ◌||◌, nat_lt, nat_le, if◌then◌else◌, filter, fold, flat_map, Option, Some, None, unwrap_or, is_some, Result, Ok, Err}
use Rattle.std.specs.List.{list_any, list_all, enumerate_from, position_or_len, before_first, after_first}
use Rattle.std.specs.Str.{bytes_eq}
use Rattle.decomposition.specs.declared.Mode.{Mode}
use Rattle.decomposition.specs.declared.Mode.TheVariants.{Exact, Interval, Abs}
use Rattle.decomposition.specs.declared.Range.{Range}
use Rattle.decomposition.specs.Graph.{Graph, graph_of, graph_before, tail, head, is_inner, below, same_ends}
use Rattle.decomposition.specs.Flow.{flow_into, flow_out_of}
use Rattle.decomposition.specs.Instance.{Instance, range_at}
use Rattle.decomposition.specs.Reach.{reaches}
use Rattle.report_terms.specs.declared.refusal.Why.{Why}
use Rattle.report_terms.specs.declared.refusal.Why.TheVariants.{LongLine, BadCount, BadFields, BadWeight, BadRange, RepeatedEdge, TooManyEdges, TooManyConstraints, ShortConstraint, Cycle, UnknownEdge, Unconserved}
use Rattle.report_terms.specs.declared.refusal.Refusal.{Refusal}
use Rattle.graph_text.specs.declared.block.RawGraph.{RawGraph}
use Rattle.graph_text.specs.Lines.{fields_of, are_no_fields, are_hash_fields, are_run_fields}
use Rattle.graph_text.specs.Blocks.{TextBlock}

-- the most edges and the most constraints of a block, the most bytes of a line, and the greatest weight
abbrev pub most_edges : ℕ
most_edges = 4096

abbrev pub most_constraints : ℕ
most_constraints = 256

abbrev pub most_bytes : ℕ
most_bytes = 65536

abbrev pub most_weight : ℕ
most_weight = 1000000000000

-- A line of a block: its number, counted from 1 over the whole input, its length and its fields.
pub record Line : Type 0 where
  pub number : ℕ
  pub bytes : ℕ
  pub fields : List (List ℕ)

abbrev pub line_at : ℕ × List ℕ → Line
line_at numbered = record { number = numbered.0; bytes = length numbered.1; fields = fields_of numbered.1 }

-- the lines of a block that begins at a line of this number
abbrev pub numbered_lines : ℕ → List (List ℕ) → List Line
numbered_lines number lines = map line_at (enumerate_from number lines)

-- the lines that are not blank, the content lines, and the `#S` lines
abbrev pub filled_lines : List Line → List Line
filled_lines lines = filter (λ l. not (are_no_fields l.fields)) lines

abbrev pub content_lines : List Line → List Line
content_lines lines = filter (λ l. not (are_hash_fields l.fields)) (filled_lines lines)

abbrev pub run_lines : List Line → List Line
run_lines lines = filter (λ l. are_run_fields l.fields) lines

-- the first content line is the count line, and the others are edge lines
abbrev pub count_lines : List Line → List Line
count_lines lines = take 1 (content_lines lines)

abbrev pub edge_lines : List Line → List Line
edge_lines lines = drop 1 (content_lines lines)

-- the vertices that a `#S` line lists
abbrev pub listed : Line → List (List ℕ)
listed line = drop 1 line.fields

-- one or more digits, one or more zeros
abbrev pub are_digits : List ℕ → Bool
are_digits bytes = not (length bytes == 0) && list_all (λ b. nat_le 48 b && nat_le b 57) bytes

abbrev pub are_zeros : List ℕ → Bool
are_zeros bytes = not (length bytes == 0) && list_all (λ b. b == 48) bytes

-- the number that digits spell
abbrev pub number_of : List ℕ → ℕ
number_of digits = fold (λ n d. 10 * n + (d - 48)) 0 digits

-- digits, or digits, a point and zeros
abbrev pub is_weight_form : List ℕ → Bool
is_weight_form field = are_digits (before_first (λ b. b == 46) field)
    && (not (list_any (λ b. b == 46) field) || are_zeros (after_first (λ b. b == 46) field))

-- the value of a weight, where the field is one
abbrev pub weight_in : List ℕ → Option ℕ
weight_in field = let value = number_of (before_first (λ b. b == 46) field) in
    if is_weight_form field && nat_le value most_weight then Some value else None

abbrev pub is_weight : List ℕ → Bool
is_weight field = is_some (weight_in field)

abbrev pub value_of : List ℕ → ℕ
value_of field = unwrap_or (weight_in field) 0

-- how many weights an edge line ends with
abbrev pub weights_of : Mode → ℕ
weights_of Exact = 1
weights_of Interval = 2
weights_of (Abs k) = 1

-- the ends of an edge line, and its weights
abbrev pub ends_of : Line → List (List ℕ)
ends_of line = take 2 line.fields

abbrev pub last_fields : Mode → Line → List (List ℕ)
last_fields mode line = drop (length line.fields - weights_of mode) line.fields

-- whether two lists of fields are equal, field by field
abbrev pub same_fields : List (List ℕ) → List (List ℕ) → Bool
same_fields [] [] = true
same_fields [] (b ∷ bs) = false
same_fields (a ∷ as_) [] = false
same_fields (a ∷ as_) (b ∷ bs) = bytes_eq a b && same_fields as_ bs

-- the range that one weight or two give
abbrev pub range_in : List (List ℕ) → Range
range_in [] = record { lo = 0; hi = 0 }
range_in (w ∷ []) = record { lo = value_of w; hi = value_of w }
range_in (lo ∷ hi ∷ fields) = record { lo = value_of lo; hi = value_of hi }

abbrev pub range_of : Mode → Line → Range
range_of mode line = range_in (last_fields mode line)

-- each of these lines is refused so
abbrev pub refused : Why → List Line → List Refusal
refused why lines = map (λ l. record { line = l.number; why = why }) lines

abbrev pub long_lines : List Line → List Line
long_lines lines = filter (λ l. nat_lt most_bytes l.bytes) (filled_lines lines)

-- one field of 1 to 19 digits
abbrev pub is_count : List (List ℕ) → Bool
is_count [] = false
is_count (field ∷ []) = are_digits field && nat_le (length field) 19
is_count (field ∷ other ∷ fields) = false

-- the last line that is not blank
abbrev pub last_filled : List Line → List Line
last_filled lines = drop (length (filled_lines lines) - 1) (filled_lines lines)

-- the count line that is no number, or the last line that is not blank where there is no count line
abbrev pub bad_counts : List Line → List Line
bad_counts lines =
    if length (content_lines lines) == 0 then last_filled lines
    else filter (λ l. not (is_count l.fields)) (count_lines lines)

abbrev pub bad_fields : Mode → List Line → List Line
bad_fields mode lines = filter (λ l. not (length l.fields == 2 + weights_of mode)) (edge_lines lines)

abbrev pub bad_weights : Mode → List Line → List Line
bad_weights mode lines = filter (λ l. not (list_all is_weight (last_fields mode l))) (edge_lines lines)

abbrev pub bad_ranges : Mode → List Line → List Line
bad_ranges mode lines = filter (λ l. let r = range_of mode l in nat_lt r.hi r.lo) (edge_lines lines)

-- the lines whose ends are those of an earlier one
abbrev pub repeats : List Line → List Line
repeats [] = []
repeats (line ∷ lines) = filter (λ l. same_fields (ends_of line) (ends_of l)) lines ++ repeats lines

-- whether a `#S` line lists fewer than two vertices
abbrev pub is_short : Line → Bool
is_short line = nat_lt (length (listed line)) 2

abbrev pub short_lines : List Line → List Line
short_lines lines = filter is_short (run_lines lines)

-- of the lines that list the same vertices the first
abbrev pub first_listed : List Line → List Line
first_listed [] = []
first_listed (line ∷ lines) = line ∷ filter (λ l. not (same_fields (listed line) (listed l))) (first_listed lines)

-- the constraints: the `#S` lines with two vertices or more, each list at its first line
abbrev pub constraint_lines : List Line → List Line
constraint_lines lines = first_listed (filter (λ l. not (is_short l)) (run_lines lines))

-- what is refused line by line, each kind looked for over the whole block
abbrev pub line_refusals : Mode → List Line → List Refusal
line_refusals mode lines =
    refused LongLine (long_lines lines)
    ++ refused BadCount (bad_counts lines)
    ++ refused BadFields (bad_fields mode lines)
    ++ refused BadWeight (bad_weights mode lines)
    ++ refused BadRange (bad_ranges mode lines)
    ++ refused RepeatedEdge (repeats (edge_lines lines))
    ++ refused TooManyEdges (take 1 (drop most_edges (edge_lines lines)))
    ++ refused TooManyConstraints (take 1 (drop most_constraints (constraint_lines lines)))
    ++ refused ShortConstraint (short_lines lines)

-- the refusal of the first line, and of several on that line the one that stands first
abbrev pub earlier : Refusal → Option Refusal → Option Refusal
earlier r None = Some r
earlier r (Some s) = if nat_le r.line s.line then Some r else Some s

abbrev pub earliest : List Refusal → Option Refusal
earliest [] = None
earliest (r ∷ refusals) = earlier r (earliest refusals)

-- the names, each at its first mention
abbrev pub distinct : List (List ℕ) → List (List ℕ)
distinct [] = []
distinct (name ∷ names) = name ∷ filter (λ n. not (bytes_eq name n)) (distinct names)

abbrev pub names_of : List Line → List (List ℕ)
names_of lines = distinct (flat_map ends_of (edge_lines lines))

-- the number of a name
abbrev pub vertex_of : List (List ℕ) → List ℕ → ℕ
vertex_of names name = position_or_len (bytes_eq name) names

abbrev pub pair_in : List ℕ → ℕ × ℕ
pair_in [] = (0, 0)
pair_in (u ∷ []) = (u, 0)
pair_in (u ∷ v ∷ vs) = (u, v)

-- the edge of a line
abbrev pub edge_of : List (List ℕ) → Line → ℕ × ℕ
edge_of names line = pair_in (map (vertex_of names) (ends_of line))

abbrev pub edges_of : List Line → List (ℕ × ℕ)
edges_of lines = map (edge_of (names_of lines)) (edge_lines lines)

-- the pairs of neighbours of a list
abbrev pub neighbours : List ℕ → List (ℕ × ℕ)
neighbours [] = []
neighbours (u ∷ []) = []
neighbours (u ∷ v ∷ vs) = (u, v) ∷ neighbours (v ∷ vs)

-- the edges between neighbours of a list of vertices; the number of all edges stands where there is none
abbrev pub run_of : List (List ℕ) → List (ℕ × ℕ) → List (List ℕ) → List ℕ
run_of names edges vertices = map (λ p. position_or_len (same_ends p) edges) (neighbours (map (vertex_of names) vertices))

-- whether two neighbours of a list of vertices are no edge
abbrev pub has_unknown : List (List ℕ) → List (ℕ × ℕ) → List (List ℕ) → Bool
has_unknown names edges vertices = list_any (λ e. e == length edges) (run_of names edges vertices)

-- the graph of these lines
abbrev pub raw_graph_of : Mode → List Line → RawGraph
raw_graph_of mode lines = record {
  labels = record { names = names_of lines; edges = edges_of lines };
  net = graph_of (length (names_of lines)) (edges_of lines);
  ranges = map (range_of mode) (edge_lines lines);
  runs = map (λ l. run_of (names_of lines) (edges_of lines) (listed l)) (constraint_lines lines);
}

-- the lines of the edges that pass a test
abbrev pub lines_where : (ℕ → Bool) → List Line → List Line
lines_where test lines = map (λ p. p.1) (filter (λ p. test p.0) (enumerate_from 0 (edge_lines lines)))

-- whether an edge closes a cycle with the edges before it
abbrev pub closes_cycle : Graph → ℕ → Bool
closes_cycle g e = reaches (graph_before g e) (head g e) (tail g e)

abbrev pub cycle_lines : RawGraph → List Line → List Line
cycle_lines graph lines = lines_where (closes_cycle graph.net) lines

-- the `#S` lines with two neighbours that are no edge
abbrev pub unknown_lines : RawGraph → List Line → List Line
unknown_lines graph lines = filter (λ l. has_unknown graph.labels.names graph.labels.edges (listed l)) (run_lines lines)

-- whether edges enter a vertex and leave it, and the sums of their weights differ
abbrev pub is_unbalanced : RawGraph → ℕ → Bool
is_unbalanced graph v =
    let weight = λ (e : ℕ). (range_at graph.ranges e).lo in
    is_inner graph.net v && not (flow_into graph.net weight v == flow_out_of graph.net weight v)

-- the lines of the edges at the first of these vertices
abbrev pub lines_naming : RawGraph → List Line → List ℕ → List Line
lines_naming graph lines [] = []
lines_naming graph lines (v ∷ vs) = lines_where (λ e. (tail graph.net e == v) || (head graph.net e == v)) lines

abbrev pub unconserved_lines : Mode → RawGraph → List Line → List Line
unconserved_lines Exact graph lines = lines_naming graph lines (filter (is_unbalanced graph) (below graph.net.vertices))
unconserved_lines Interval graph lines = []
unconserved_lines (Abs k) graph lines = []

-- the first one that there is
abbrev pub or_else : Option Refusal → Option Refusal → Option Refusal
or_else None other = other
or_else (Some r) other = Some r

-- the refusal of a block of these lines
abbrev pub refusal_of : Mode → List Line → RawGraph → Option Refusal
refusal_of mode lines graph =
    or_else (earliest (line_refusals mode lines))
    (or_else (earliest (refused Cycle (cycle_lines graph lines)))
    (or_else (earliest (refused UnknownEdge (unknown_lines graph lines)))
    (earliest (refused Unconserved (unconserved_lines mode graph lines)))))

abbrev pub err_or : Option Refusal → RawGraph → Result RawGraph Refusal
err_or None graph = Ok graph
err_or (Some r) graph = Err r

abbrev pub read_lines : Mode → List Line → Result RawGraph Refusal
read_lines mode lines = let graph = raw_graph_of mode lines in err_or (refusal_of mode lines graph) graph

-- what a block is read as
abbrev pub read : Mode → TextBlock → Result RawGraph Refusal
read mode block = read_lines mode (numbered_lines block.line block.lines)

-- the instance that a graph stands for
abbrev pub instance_of : RawGraph → Instance
instance_of graph = record { graph = graph.net; ranges = graph.ranges; rules = graph.runs }
