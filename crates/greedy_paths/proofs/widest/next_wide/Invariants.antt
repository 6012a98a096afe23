use Rattle.std.proofs.Common.{◌-◌, slice_index}
use Rattle.std.specs.Option.{option_map_or}
use Rattle.decomposition.specs.Graph.{edge_count}
use Rattle.greedy_paths.proofs.Finding.{NoneWideUpTo}
use Rattle.greedy_paths.proofs.widest.next_wide.Given as goal

abbrev pub invariant-loop-out : goal.invariant-loop-out
invariant-loop-out l = NoneWideUpTo l.net (slice_index l.rest) l.width l.v l.out

abbrev pub decreases-loop-out : goal.decreases-loop-out
decreases-loop-out l = option_map_or (λ e. edge_count l.net - e) l.out 0
