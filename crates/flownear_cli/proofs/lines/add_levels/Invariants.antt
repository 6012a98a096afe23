use Rattle.std.proofs.Common.{◌≡◌, ◌≤◌, ◌++◌, length}
use Rattle.std.specs.Prelude.{flat_map}
use Rattle.decomposition.specs.Graph.{below}
use Rattle.error_flow.specs.Certificate.{level_at}
use Rattle.flownear_cli.specs.NearText.{level_line}
use Rattle.flownear_cli.proofs.lines.add_levels.Given as goal

abbrev pub invariant-loop-v : goal.invariant-loop-v
invariant-loop-v l =
    (l.v ≤ length l.labels.names) × (l.text.items ≡ l.fn.text.items ++ flat_map (λ v. level_line l.labels v (level_at l.levels v)) (below l.v))
