use Rattle.node_routes.proofs.SplitNets.{split_graphs_are_nets, split_instances_are_valid}
use Rattle.node_routes.proofs.laws.split_graphs_are_valid.Goals as goal

pub returns-clause-net : goal.returns-clause-net
returns-clause-net c = split_graphs_are_nets

pub returns-clause-instance : goal.returns-clause-instance
returns-clause-instance c = split_instances_are_valid
