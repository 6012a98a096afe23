use Rattle.std.proofs.Common.{◌≡◌, ◌-◌, slice_index}
use Rattle.std.specs.Option.{option_map_or}
use Rattle.decomposition.specs.Graph.{edge_count, tail}
use Rattle.dag_net.proofs.EdgesInTurn.{AreDone}
use Rattle.path_cover.proofs.splitting.next_left.Given as goal

abbrev pub invariant-loop-out : goal.invariant-loop-out
invariant-loop-out l = AreDone (edge_count l.net) (tail l.net) l.v (λ e. slice_index l.rest e ≡ 0) l.out

abbrev pub decreases-loop-out : goal.decreases-loop-out
decreases-loop-out l = option_map_or (λ e. edge_count l.net - e) l.out 0
