use Rattle.node_routes.proofs.Explaining.{optimal_is_fewest, infeasible_is_unexplained, lower_bounds_count_routes}
use Rattle.node_routes.proofs.laws.marks_speak_of_routes.Goals as goal

pub returns-clause-optimal : goal.returns-clause-optimal
returns-clause-optimal c = optimal_is_fewest

pub returns-clause-infeasible : goal.returns-clause-infeasible
returns-clause-infeasible c = infeasible_is_unexplained

pub returns-clause-bounds : goal.returns-clause-bounds
returns-clause-bounds c = lower_bounds_count_routes
