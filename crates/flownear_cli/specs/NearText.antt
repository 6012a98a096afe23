-- The lines that tell a balanced flow, its change, and levels of the vertices.
use Rattle.std.specs.Prelude.{ℕ, List, [], ◌∷◌, ◌++◌, length, flat_map, slice_index, if◌then◌else◌, codes, decimal, ℤ, pos}
use Rattle.std.specs.Fmt.{signed_decimal}
use Rattle.std.specs.Ordering.{int_eq}
use Rattle.decomposition.specs.Graph.{below}
use Rattle.error_flow.specs.Certificate.{level_at}
use Rattle.graph_text.specs.Labels.{LabelLists, name_at, tail_at, head_at}
use Rattle.report_reading.specs.ReportText.{line}

abbrev pub change_line : ℕ → List ℕ
change_line total = line (codes "change" ∷ decimal total ∷ [])

-- the flow of an edge
abbrev pub flow_line : LabelLists → ℕ → ℕ → List ℕ
flow_line labels e units = line (codes "flow" ∷ name_at labels (tail_at labels e) ∷ name_at labels (head_at labels e) ∷ decimal units ∷ [])

-- a line for each edge
abbrev pub flow_lines : LabelLists → List ℕ → List ℕ
flow_lines labels flow = flat_map (λ e. flow_line labels e (slice_index flow e)) (below (length labels.edges))

-- the level of a vertex, unless it is 0
abbrev pub level_line : LabelLists → ℕ → ℤ → List ℕ
level_line labels v level = if int_eq level (pos 0) then [] else line (codes "level" ∷ name_at labels v ∷ signed_decimal level ∷ [])

-- a line for each vertex whose level is other than 0
abbrev pub level_lines : LabelLists → List ℤ → List ℕ
level_lines labels levels = flat_map (λ v. level_line labels v (level_at levels v)) (below (length labels.names))

-- the change, the flow and the levels
abbrev pub found_text : LabelLists → List ℕ → List ℤ → ℕ → List ℕ
found_text labels flow levels total = change_line total ++ flow_lines labels flow ++ level_lines labels levels
