use Rattle.decomposition.proofs.FirstAnswers.{merged_is_least}
use Rattle.decomposition.proofs.laws.merged_is_least.Goals as goal

pub returns : goal.returns
returns c = merged_is_least
