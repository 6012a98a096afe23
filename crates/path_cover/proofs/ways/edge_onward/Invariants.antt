use Rattle.std.proofs.Common.{◌≡◌, ◌-◌, ◌<◌, MatchOption}
use Rattle.std.specs.Option.{option_map_or}
use Rattle.decomposition.specs.Graph.{edge_count, tail}
use Rattle.path_cover.proofs.ways.edge_onward.Given as goal

abbrev pub invariant-loop-out : goal.invariant-loop-out
invariant-loop-out l = MatchOption l.out (Unit {0}) (λ e. (e < edge_count l.net) × (tail l.net e ≡ l.v))

abbrev pub decreases-loop-out : goal.decreases-loop-out
decreases-loop-out l = option_map_or (λ e. edge_count l.net - e) l.out 0
