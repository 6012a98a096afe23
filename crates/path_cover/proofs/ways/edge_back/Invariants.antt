use Rattle.std.proofs.Common.{◌-◌}
use Rattle.std.specs.Option.{option_map_or}
use Rattle.decomposition.specs.Graph.{edge_count}
use Rattle.path_cover.proofs.Sending.{IsOneInto}
use Rattle.path_cover.proofs.ways.edge_back.Given as goal

abbrev pub invariant-loop-into : goal.invariant-loop-into
invariant-loop-into l = IsOneInto l.net l.v l.into

abbrev pub decreases-loop-into : goal.decreases-loop-into
decreases-loop-into l = option_map_or (λ e. edge_count l.net - e) l.into 0
