use Rattle.std.proofs.Common.{◌≡◌, ◌++◌, take}
use Rattle.node_weights.proofs.SplitTexts.{link_lines}
use Rattle.node_weights.proofs.split.add_links.Given as goal

abbrev pub invariant-loop-edge : goal.invariant-loop-edge
invariant-loop-edge l = l.text.items ≡ l.fn.text.items ++ link_lines l.graph (take l.edge-index l.graph.edges)
