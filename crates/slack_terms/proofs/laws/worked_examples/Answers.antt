use Rattle.slack_terms.proofs.Examples.{worked_examples}
use Rattle.slack_terms.proofs.laws.worked_examples.Goals as goal

pub returns : goal.returns
returns c = worked_examples
