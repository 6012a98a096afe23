use Rattle.graph_text.proofs.Accepting.{graphs_are_accepted}
use Rattle.graph_text.proofs.accepted.graphs_are_accepted.Goals as goal

pub returns : goal.returns
returns c = graphs_are_accepted
