use Rattle.std.proofs.Common.{◌≡◌, vec_len}
use Rattle.decomposition.specs.Graph.{edge_count}
use Rattle.flow_solver.proofs.carried.without_spare.Given as goal

abbrev pub invariant-loop : goal.invariant-loop
invariant-loop l = vec_len l.near ≡ edge_count l.net
