use Rattle.std.proofs.Common.{◌≡◌, map, take}
use Rattle.std.specs.Prelude.{flat_map}
use Rattle.graph_text.specs.Reading.{distinct}
use Rattle.demo_text.specs.Demo.{name_of, ends_of, both_ends}
use Rattle.demo_text.proofs.edges.count_vertices.Given as goal

abbrev pub invariant-loop-edge : goal.invariant-loop-edge
invariant-loop-edge l = map name_of l.known.items ≡ distinct (flat_map both_ends (map ends_of (take l.edge-index l.edges)))
