-- What a text of nodes and edges is read as: a node graph, or a line that is refused.
use Rattle.std.specs.Prelude.{ℕ, ◌+◌, ◌≡◌, ◌==◌, List, [], ◌∷◌, ◌++◌, length, take, map, Bool, false, not, ◌&&◌, nat_lt, filter, filter_map, slice_index, slice_index_or, codes, Option, Some, None, option_map, Result, Ok, Err}
use Rattle.std.specs.List.{list_any, enumerate_from}
use Rattle.std.specs.Str.{bytes_eq}
use Rattle.decomposition.specs.Graph.{Graph, graph_of, edge_count, below}
use Rattle.graph_text.specs.Lines.{lines_of, fields_of, is_blank_line, is_content_line}
use Rattle.graph_text.specs.Reading.{most_bytes, is_weight, value_of, vertex_of, closes_cycle}
use Rattle.node_weights.specs.declared.node_fault.NodeWhy.{NodeWhy}
use Rattle.node_weights.specs.declared.node_fault.NodeWhy.TheVariants.{LongLine, BadLine, BadWeight, RepeatedNode, UnknownNode, RepeatedEdge, TooMany, Cycle}
use Rattle.node_weights.specs.declared.node_fault.NodeFault.{NodeFault}
use Rattle.node_weights.specs.declared.node_fault.NodeFault.TheVariants.{Refused, Memory}

-- a node graph: the names and the weights of its vertices, by number, and its edges, each a pair of a tail and a head
pub record NodeLists : Type 0 where
  pub names : List (List ℕ)
  pub weights : List ℕ
  pub edges : List (ℕ × ℕ)

-- the most lines that are not ignored
abbrev pub most_lines : ℕ
most_lines = 4096

-- whether the fields are this word and two more
abbrev pub is_word_and_two : List ℕ → List (List ℕ) → Bool
is_word_and_two word (a ∷ b ∷ c ∷ []) = bytes_eq a word
is_word_and_two word _ = false

-- a line `node v w`, and a line `edge u v`
abbrev pub is_node_line : List ℕ → Bool
is_node_line line = is_word_and_two (codes "node") (fields_of line)

abbrev pub is_edge_line : List ℕ → Bool
is_edge_line line = is_word_and_two (codes "edge") (fields_of line)

-- the second field of a line, and the third
abbrev pub second : List ℕ → List ℕ
second line = slice_index_or (fields_of line) 1 []

abbrev pub third : List ℕ → List ℕ
third line = slice_index_or (fields_of line) 2 []

-- the lines that are not ignored, the node lines, and the edge lines
abbrev pub content_lines : List (List ℕ) → List (List ℕ)
content_lines lines = filter is_content_line lines

abbrev pub node_lines : List (List ℕ) → List (List ℕ)
node_lines lines = filter is_node_line lines

abbrev pub edge_lines : List (List ℕ) → List (List ℕ)
edge_lines lines = filter is_edge_line lines

-- the names and the weights on the node lines
abbrev pub names_on : List (List ℕ) → List (List ℕ)
names_on lines = map second (node_lines lines)

abbrev pub weights_on : List (List ℕ) → List ℕ
weights_on lines = map (λ line. value_of (third line)) (node_lines lines)

-- the edge of a line, its ends numbered by these names
abbrev pub edge_on : List (List ℕ) → List ℕ → ℕ × ℕ
edge_on names line = (vertex_of names (second line), vertex_of names (third line))

abbrev pub edges_on : List (List ℕ) → List (ℕ × ℕ)
edges_on lines = map (edge_on (names_on lines)) (edge_lines lines)

-- the node graph of the lines
abbrev pub graph_on : List (List ℕ) → NodeLists
graph_on lines = record { names = names_on lines; weights = weights_on lines; edges = edges_on lines }

-- whether a node line has this name, and whether an edge line has these ends
abbrev pub has_node : List (List ℕ) → List ℕ → Bool
has_node lines name = list_any (bytes_eq name) (names_on lines)

abbrev pub has_edge : List (List ℕ) → List ℕ → List ℕ → Bool
has_edge lines tail head = list_any (λ line. bytes_eq tail (second line) && bytes_eq head (third line)) (edge_lines lines)

-- the causes for which a line is refused, in the order in which they count on it, and whether it has them after these lines
abbrev pub causes : List (List ℕ) → List ℕ → List (NodeWhy × Bool)
causes before line =
    (LongLine, not (is_blank_line line) && nat_lt most_bytes (length line))
    ∷ (BadLine, is_content_line line && (not (is_node_line line) && not (is_edge_line line)))
    ∷ (BadWeight, is_node_line line && not (is_weight (third line)))
    ∷ (RepeatedNode, is_node_line line && has_node before (second line))
    ∷ (UnknownNode, is_edge_line line && not (has_node before (second line) && has_node before (third line)))
    ∷ (RepeatedEdge, is_edge_line line && has_edge before (second line) (third line))
    ∷ (TooMany, is_content_line line && (length (content_lines before) == most_lines))
    ∷ []

-- the first of a list, if it has one
abbrev pub first : {X : Type 0} → List X → Option X
first [] = None
first (x ∷ xs) = Some x

-- of the causes that a line has after these lines the first
unfoldable pub cause_after : List (List ℕ) → List ℕ → Option NodeWhy
cause_after before line = option_map (λ cause. cause.0) (first (filter (λ cause. cause.1) (causes before line)))

-- a line that is refused, counted from 1, and why
abbrev pub Refusal : Type 0
Refusal = ℕ × NodeWhy

-- the refusal of line n, counted from 0, for itself or for the lines before it
abbrev pub refusal_at : List (List ℕ) → ℕ → Option Refusal
refusal_at lines n = option_map (λ why. (n + 1, why)) (cause_after (take n lines) (slice_index_or lines n []))

abbrev pub line_refusals : List (List ℕ) → List Refusal
line_refusals lines = filter_map (refusal_at lines) (below (length lines))

-- the numbers of the edge lines, counted from 1
abbrev pub edge_numbers : List (List ℕ) → List ℕ
edge_numbers lines = map (λ p. p.0) (filter (λ p. is_edge_line p.1) (enumerate_from 1 lines))

-- the edges as a graph
abbrev pub net_of : NodeLists → Graph
net_of graph = graph_of (length graph.names) graph.edges

-- the refusals of the edge lines that close a cycle with earlier ones
abbrev pub cycle_refusals : List (List ℕ) → List Refusal
cycle_refusals lines = let net = net_of (graph_on lines) in
    map (λ e. (slice_index (edge_numbers lines) e, Cycle)) (filter (closes_cycle net) (below (edge_count net)))

abbrev pub err_or : Option Refusal → NodeLists → Result NodeLists Refusal
err_or None graph = Ok graph
err_or (Some refusal) graph = Err refusal

-- what lines are read as: their graph, or the first refusal, those for a cycle after all others
abbrev pub read_lines : List (List ℕ) → Result NodeLists Refusal
read_lines lines = err_or (first (line_refusals lines ++ cycle_refusals lines)) (graph_on lines)

-- what a text is read as
abbrev pub read : List ℕ → Result NodeLists Refusal
read text = read_lines (lines_of text)

-- a fault is the refusal that the text is read as; want of memory says nothing
abbrev pub RefusesAs : Result NodeLists Refusal → NodeFault → Type 0
RefusesAs found (Refused line why) = found ≡ Err (line, why)
RefusesAs found Memory = Unit {0}
