use Rattle.std.proofs.Common.{◌-◌, slice_index}
use Rattle.std.specs.Option.{option_map_or}
use Rattle.decomposition.specs.Graph.{edge_count}
use Rattle.greedy_paths.proofs.Widening.{Widens}
use Rattle.greedy_paths.proofs.widths.width_from.Given as goal

abbrev pub invariant-loop-out : goal.invariant-loop-out
invariant-loop-out l = Widens l.net (slice_index l.rest) l.v l.out l.width

abbrev pub decreases-loop-out : goal.decreases-loop-out
decreases-loop-out l = option_map_or (λ e. edge_count l.net - e) l.out 0
