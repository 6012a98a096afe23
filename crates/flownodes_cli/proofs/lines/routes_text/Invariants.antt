use Rattle.std.proofs.Common.{◌≡◌, take}
use Rattle.std.specs.Prelude.{flat_map}
use Rattle.flownodes_cli.specs.RouteText.{route_line}
use Rattle.flownodes_cli.proofs.lines.routes_text.Given as goal

abbrev pub invariant-loop-k : goal.invariant-loop-k
invariant-loop-k l = l.text.items ≡ flat_map (route_line l.graph) (take l.k l.paths)
