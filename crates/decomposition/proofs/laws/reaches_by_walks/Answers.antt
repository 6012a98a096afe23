use Rattle.decomposition.proofs.Reaching.{reaches_by_walks}
use Rattle.decomposition.proofs.laws.reaches_by_walks.Goals as goal

pub returns : goal.returns
returns c = reaches_by_walks
