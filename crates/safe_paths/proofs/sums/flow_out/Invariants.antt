use Rattle.std.proofs.Common.{◌-◌, slice_index}
use Rattle.std.specs.Option.{option_map_or}
use Rattle.decomposition.specs.Graph.{edge_count}
use Rattle.safe_paths.proofs.OutSums.{IsSumUpTo}
use Rattle.safe_paths.proofs.sums.flow_out.Given as goal

abbrev pub invariant-loop-out : goal.invariant-loop-out
invariant-loop-out l = IsSumUpTo l.net (slice_index l.flow) l.v l.out l.sum

abbrev pub decreases-loop-out : goal.decreases-loop-out
decreases-loop-out l = option_map_or (λ e. edge_count l.net - e) l.out 0
