use Rattle.std.proofs.Common.{◌≡◌, [], map, take}
use Rattle.std.specs.Prelude.{flat_map}
use Rattle.demo_text.specs.Demo.{ends_of, edges_along}
use Rattle.demo_text.specs.Uses.{with_uses}
use Rattle.demo_text.proofs.edges.edges_used.Given as goal

abbrev pub invariant-loop-path : goal.invariant-loop-path
invariant-loop-path l = map ends_of l.used.items ≡ with_uses [] (flat_map edges_along (take l.path-index l.paths))
