use Rattle.decomposition.proofs.Merging.{weight_on-IsMerged}
use Rattle.decomposition.proofs.laws.merging_keeps_sums.Goals as goal

pub returns : goal.returns
returns c = weight_on-IsMerged
