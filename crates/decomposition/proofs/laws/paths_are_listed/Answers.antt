use Rattle.decomposition.proofs.Walks.{paths_are_listed}
use Rattle.decomposition.proofs.laws.paths_are_listed.Goals as goal

pub returns : goal.returns
returns c = paths_are_listed
