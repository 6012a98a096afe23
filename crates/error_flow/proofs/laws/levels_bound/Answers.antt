use Rattle.error_flow.proofs.Bounding.{levels_bound}
use Rattle.error_flow.proofs.laws.levels_bound.Goals as goal

pub returns : goal.returns
returns c = levels_bound
