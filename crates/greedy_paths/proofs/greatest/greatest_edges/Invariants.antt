use Rattle.std.proofs.Common.{slice_index}
use Rattle.decomposition.specs.Graph.{tail, head}
use Rattle.greedy_paths.specs.Greatest.{AreGreatestAt}
use Rattle.greedy_paths.proofs.greatest.greatest_edges.Given as goal

abbrev pub invariant-loop-e : goal.invariant-loop-e
invariant-loop-e l = record {
  into : AreGreatestAt (head l.net) (slice_index l.guide) l.net.vertices l.e l.into.items;
  out_of : AreGreatestAt (tail l.net) (slice_index l.guide) l.net.vertices l.e l.out_of.items;
}
