-- The generated text: 40 graphs from a seed.
use Rattle.std.specs.Prelude.{ℕ, zero, suc, ◌+◌, ◌*◌, ◌/◌, ◌%◌, ◌^◌, List, [], ◌∷◌, ◌++◌, length, map, flat_map, Bool, not, ◌&&◌, if◌then◌else◌, filter, sum_by, codes, decimal}
use Rattle.std.specs.List.{list_any}
use Rattle.std.specs.Str.{bytes_eq}
use Rattle.graph_text.specs.Reading.{distinct}
use Rattle.demo_text.specs.declared.path.DemoPath.{DemoPath}
use Rattle.demo_text.specs.declared.vertex.Vertex.{Vertex}
use Rattle.demo_text.specs.declared.vertex.Vertex.TheVariants.{Source, First, Second, Sink}
use Rattle.demo_text.specs.declared.edge.Edge.{Edge}

-- the state after one draw, and the number below n that a state gives
abbrev pub next_state : ℕ → ℕ
next_state x = (x * 1103515245 + 12345) % 2 ^ 31

abbrev pub drawn : ℕ → ℕ → ℕ
drawn n x = (x / 65536) % n

-- the path that is drawn after this state, by three draws, and the state after them
abbrev pub path_after : ℕ → DemoPath
path_after x = let y = next_state x in let z = next_state y in
    record { first = drawn 3 y; second = drawn 3 z; weight = 1 + drawn 20 (next_state z) }

abbrev pub after_path : ℕ → ℕ
after_path x = next_state (next_state (next_state x))

-- so many paths after this state, and the state after so many
abbrev pub paths_after : ℕ → ℕ → List DemoPath
paths_after zero x = []
paths_after (suc n) x = path_after x ∷ paths_after n (after_path x)

abbrev pub after_paths : ℕ → ℕ → ℕ
after_paths zero x = x
after_paths (suc n) x = after_paths n (after_path x)

-- the name of a vertex
abbrev pub name_of : Vertex → List ℕ
name_of Source = codes "s"
name_of (First i) = codes "a" ++ decimal i
name_of (Second j) = codes "b" ++ decimal j
name_of Sink = codes "t"

-- the names of the ends of an edge
abbrev pub ends_of : Edge → List ℕ × List ℕ
ends_of edge = (name_of edge.tail, name_of edge.head)

-- the edges along a path, each by the names of its ends
abbrev pub edges_along : DemoPath → List (List ℕ × List ℕ)
edges_along p = let u = name_of (First p.first) in let v = name_of (Second p.second) in
    (name_of Source, u) ∷ (u, v) ∷ (v, name_of Sink) ∷ []

abbrev pub same_names : List ℕ × List ℕ → List ℕ × List ℕ → Bool
same_names e f = bytes_eq e.0 f.0 && bytes_eq e.1 f.1

-- the edges, each at its first use
abbrev pub first_uses : List (List ℕ × List ℕ) → List (List ℕ × List ℕ)
first_uses [] = []
first_uses (e ∷ edges) = e ∷ filter (λ f. not (same_names e f)) (first_uses edges)

abbrev pub edges_used : List DemoPath → List (List ℕ × List ℕ)
edges_used paths = first_uses (flat_map edges_along paths)

-- the sum of the weights of the paths that use an edge
abbrev pub weight_on : List DemoPath → List ℕ × List ℕ → ℕ
weight_on paths e = sum_by (λ p. if list_any (same_names e) (edges_along p) then p.weight else 0) paths

-- the vertices at the ends of the edges that are used
abbrev pub both_ends : List ℕ × List ℕ → List (List ℕ)
both_ends e = e.0 ∷ e.1 ∷ []

abbrev pub vertices_used : List DemoPath → List (List ℕ)
vertices_used paths = distinct (flat_map both_ends (edges_used paths))

-- the line of an edge: its ends and its weight
abbrev pub edge_line : List DemoPath → List ℕ × List ℕ → List ℕ
edge_line paths e = e.0 ++ codes " " ++ e.1 ++ codes " " ++ decimal (weight_on paths e)

-- the lines of the block of this number, whose graph these paths make up
abbrev pub block_lines : ℕ → List DemoPath → List (List ℕ)
block_lines index paths =
    (codes "# demo " ++ decimal index) ∷ decimal (length (vertices_used paths)) ∷ map (edge_line paths) (edges_used paths)

-- the lines of so many blocks, from this number and this state on
abbrev pub lines_from : ℕ → ℕ → ℕ → List (List ℕ)
lines_from zero index x = []
lines_from (suc n) index x = let y = next_state x in let count = 2 + drawn 4 y in
    block_lines index (paths_after count y) ++ lines_from n (index + 1) (after_paths count y)

-- lines as a text: each ends with a line feed
abbrev pub text_of : List (List ℕ) → List ℕ
text_of lines = flat_map (λ line. line ++ codes "\n") lines

-- the generated text
unfoldable pub demo_text : ℕ → List ℕ
demo_text seed = text_of (lines_from 40 1 seed)
