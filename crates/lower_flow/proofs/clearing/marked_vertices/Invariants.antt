use Rattle.lower_flow.specs.Clearing.{AreMarked}
use Rattle.lower_flow.proofs.clearing.marked_vertices.Given as goal

abbrev pub invariant-loop-v : goal.invariant-loop-v
invariant-loop-v l = AreMarked l.marked l.v l.vertices
