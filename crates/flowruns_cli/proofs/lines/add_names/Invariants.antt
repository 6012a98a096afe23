use Rattle.std.proofs.Common.{◌≡◌, ◌++◌, take, slice_index}
use Rattle.std.specs.Prelude.{flat_map}
use Rattle.graph_text.specs.Labels.{tail_at}
use Rattle.flowruns_cli.proofs.RunLines.{spaced_name, spaced_head}
use Rattle.flowruns_cli.proofs.lines.add_names.Given as goal

abbrev pub invariant-loop-e : goal.invariant-loop-e
invariant-loop-e l =
    l.text.items ≡ (l.fn.text.items ++ spaced_name l.labels (tail_at l.labels (slice_index l.run 0))) ++ flat_map (spaced_head l.labels) (take l.e-index l.run)
