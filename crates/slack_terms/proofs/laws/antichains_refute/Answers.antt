use Rattle.slack_terms.proofs.Antichains.{antichains_refute}
use Rattle.slack_terms.proofs.laws.antichains_refute.Goals as goal

pub returns : goal.returns
returns c = antichains_refute
