-- The lines of a refusal and of routes.
use Rattle.std.specs.Prelude.{ℕ, List, [], ◌∷◌, ◌++◌, map, flat_map, length, codes, decimal}
use Rattle.report_reading.specs.ReportText.{line}
use Rattle.node_routes.specs.Split.{route_in}
use Rattle.node_weights.specs.NodeText.{NodeLists}
use Rattle.node_weights.specs.SplitText.{name_of}
use Rattle.node_weights.specs.declared.node_fault.NodeWhy.{NodeWhy}
use Rattle.node_weights.specs.declared.node_fault.NodeWhy.TheVariants.{LongLine, BadLine, BadWeight, RepeatedNode, UnknownNode, RepeatedEdge, TooMany, Cycle}

abbrev pub why_word : NodeWhy → List ℕ
why_word LongLine = codes "LongLine"
why_word BadLine = codes "BadLine"
why_word BadWeight = codes "BadWeight"
why_word RepeatedNode = codes "RepeatedNode"
why_word UnknownNode = codes "UnknownNode"
why_word RepeatedEdge = codes "RepeatedEdge"
why_word TooMany = codes "TooMany"
why_word Cycle = codes "Cycle"

-- the line of a refusal
abbrev pub refused_line : ℕ → NodeWhy → List ℕ
refused_line number why = line (codes "refused" ∷ decimal number ∷ why_word why ∷ [])

-- a weighted path of the split graph as a route: its weight, and the names of the vertices that it passes
abbrev pub route_line : NodeLists → List ℕ × ℕ → List ℕ
route_line g entry = line (codes "route" ∷ decimal entry.1 ∷ map (name_of g) (route_in (length g.names) entry.0))

-- the lines of the routes of paths, and the last line
abbrev pub routes_text : NodeLists → List (List ℕ × ℕ) → List ℕ
routes_text g paths = flat_map (route_line g) paths ++ line (codes "done" ∷ [])
