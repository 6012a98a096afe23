use Rattle.std.proofs.Common.{◌≡◌, ◌++◌}
use Rattle.node_weights.proofs.SplitTexts.{vertex_lines}
use Rattle.node_weights.proofs.split.add_vertices.Given as goal

abbrev pub invariant-loop-v : goal.invariant-loop-v
invariant-loop-v l = l.text.items ≡ l.fn.text.items ++ vertex_lines l.graph l.v
