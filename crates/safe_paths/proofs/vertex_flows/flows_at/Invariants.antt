use Rattle.std.proofs.Common.{slice_index}
use Rattle.decomposition.specs.Graph.{tail, head}
use Rattle.dag_net.proofs.AddingUp.{AddsUp}
use Rattle.safe_paths.specs.VertexFlows.{AreGreatest}
use Rattle.safe_paths.proofs.vertex_flows.flows_at.Given as goal

abbrev pub invariant-loop-e : goal.invariant-loop-e
invariant-loop-e l =
    AddsUp 1000000000000 (tail l.net) (slice_index l.flow) l.net.vertices l.e l.out.items
    × AreGreatest (head l.net) (slice_index l.flow) l.net.vertices l.e l.greatest_in.items
    × AreGreatest (tail l.net) (slice_index l.flow) l.net.vertices l.e l.greatest_out.items
