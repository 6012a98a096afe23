use Rattle.std.proofs.Common.{◌≡◌, ◌++◌, take}
use Rattle.std.specs.Prelude.{flat_map, codes, decimal}
use Rattle.text_lines.specs.TextLines.{spaced}
use Rattle.flownodes_cli.proofs.RouteLines.{spaced_name}
use Rattle.flownodes_cli.proofs.lines.add_route.Given as goal

abbrev pub invariant-loop-v : goal.invariant-loop-v
invariant-loop-v l = l.text.items ≡ ((l.fn.text.items ++ codes "route") ++ spaced (decimal l.fn.weight)) ++ flat_map (spaced_name l.graph) (take l.v-index l.v-items)
