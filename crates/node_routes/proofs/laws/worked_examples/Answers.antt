use Rattle.node_routes.proofs.Examples.{worked_examples}
use Rattle.node_routes.proofs.laws.worked_examples.Goals as goal

pub returns : goal.returns
returns c = worked_examples
