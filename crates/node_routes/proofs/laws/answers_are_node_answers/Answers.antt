use Rattle.node_routes.proofs.Explaining.{answers_are_node_answers, node_answers_are_answers}
use Rattle.node_routes.proofs.laws.answers_are_node_answers.Goals as goal

pub returns-clause-paths : goal.returns-clause-paths
returns-clause-paths c = answers_are_node_answers

pub returns-clause-routes : goal.returns-clause-routes
returns-clause-routes c = node_answers_are_answers
