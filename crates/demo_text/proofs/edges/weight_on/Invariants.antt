use Rattle.std.proofs.Common.{◌≡◌, ◌≤◌, ◌*◌, ◌^◌, take}
use Rattle.demo_text.specs.Demo.{ends_of, weight_on}
use Rattle.demo_text.proofs.edges.weight_on.Given as goal

abbrev pub invariant-loop-path : goal.invariant-loop-path
invariant-loop-path l = (l.weight ≡ weight_on (take l.path-index l.paths) (ends_of l.edge)) × (l.weight ≤ 2 ^ 32 * l.path-index)
