use Rattle.node_routes.proofs.Corresponding.{paths_are_routes, routes_are_paths}
use Rattle.node_routes.proofs.laws.paths_are_routes.Goals as goal

pub returns-clause-paths : goal.returns-clause-paths
returns-clause-paths c = paths_are_routes

pub returns-clause-routes : goal.returns-clause-routes
returns-clause-routes c = routes_are_paths
