-- What a reader of graphs makes of the text of a split graph.
use Rattle.std.specs.Prelude.{◌≡◌, ℕ, List, [], ◌∷◌, length, map, filter, flat_map, nat_lt, Bool, Option, option_map, Result, Ok}
use Rattle.std.specs.List.{enumerate_from, join_with_byte}
use Rattle.decomposition.specs.declared.Mode.TheVariants.{Interval}
use Rattle.report_terms.specs.declared.refusal.Why.TheVariants.{LongLine}
use Rattle.report_terms.specs.declared.refusal.Refusal.{Refusal}
use Rattle.graph_text.specs.declared.block.RawGraph.{RawGraph}
use Rattle.graph_text.specs.Blocks.{TextBlock, blocks}
use Rattle.graph_text.specs.Reading.{most_bytes, read, err_or, instance_of}
use Rattle.node_routes.specs.Split.{split_graph, split_ranges, split_instance}
use Rattle.node_weights.specs.NodeText.{NodeLists, first}
use Rattle.node_weights.specs.Kept.{IsNodeGraph}
use Rattle.node_weights.specs.SplitText.{vertex_graph, entry_of, exit_of, split_fields, split_text}

-- the lines of the text, without what ends them
abbrev pub split_lines : NodeLists → List (List ℕ)
split_lines g = map (join_with_byte 32) (split_fields g)

-- the block of these lines
abbrev pub split_block : NodeLists → TextBlock
split_block g = record { index = 1; line = 1; lines = split_lines g }

-- the names of the entry and of the exit of each vertex, in order
abbrev pub split_names : List (List ℕ) → List (List ℕ)
split_names names = flat_map (λ name. entry_of name ∷ exit_of name ∷ []) names

-- the split graph with its names and its ranges
abbrev pub split_raw : NodeLists → RawGraph
split_raw g = let graph = split_graph (vertex_graph g) in record {
  labels = record { names = split_names g.names; edges = graph.edges };
  net = graph;
  ranges = split_ranges (vertex_graph g);
  runs = [];
}

-- whether a line has too many bytes
abbrev pub is_long : List ℕ → Bool
is_long line = nat_lt most_bytes (length line)

-- the refusal of the first line that has too many bytes; lines are counted from 1
abbrev pub long_refusal : NodeLists → Option Refusal
long_refusal g = option_map (λ line. record { line = line.0; why = LongLine }) (first (filter (λ line. is_long line.1) (enumerate_from 1 (split_lines g))))

-- what the block is to be read as: the split graph, unless a line is too long
abbrev pub split_reading : NodeLists → Result RawGraph Refusal
split_reading g = err_or (long_refusal g) (split_raw g)

-- the text is one block
abbrev pub SplitTextsAreOneBlock : Type 0
SplitTextsAreOneBlock = (g : NodeLists) → IsNodeGraph g → blocks (split_text g) ≡ split_block g ∷ []

-- in the interval model that block is read as the split graph, unless a line is too long
abbrev pub SplitBlocksAreRead : Type 0
SplitBlocksAreRead = (g : NodeLists) → IsNodeGraph g → read Interval (split_block g) ≡ split_reading g

-- a graph that it is read as stands for the split instance
abbrev pub SplitBlocksAreInstances : Type 0
SplitBlocksAreInstances =
    (g : NodeLists) (raw : RawGraph) → IsNodeGraph g → read Interval (split_block g) ≡ Ok raw → instance_of raw ≡ split_instance (vertex_graph g)
