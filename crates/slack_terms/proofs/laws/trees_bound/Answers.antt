use Rattle.slack_terms.proofs.Root.{trees_bound}
use Rattle.slack_terms.proofs.laws.trees_bound.Goals as goal

pub returns : goal.returns
returns c = trees_bound
