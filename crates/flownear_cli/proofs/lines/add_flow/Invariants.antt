use Rattle.std.proofs.Common.{◌≡◌, ◌≤◌, ◌++◌, length, slice_index}
use Rattle.std.specs.Prelude.{flat_map}
use Rattle.decomposition.specs.Graph.{below}
use Rattle.flownear_cli.specs.NearText.{flow_line}
use Rattle.flownear_cli.proofs.lines.add_flow.Given as goal

abbrev pub invariant-loop-e : goal.invariant-loop-e
invariant-loop-e l =
    (l.e ≤ length l.labels.edges) × (l.text.items ≡ l.fn.text.items ++ flat_map (λ e. flow_line l.labels e (slice_index l.flow e)) (below l.e))
