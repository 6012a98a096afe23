use Rattle.subpath_rules.proofs.RunsByReach.{runs_share_by_reach}
use Rattle.subpath_rules.proofs.laws.runs_share_by_reach.Goals as goal

pub returns : goal.returns
returns c = runs_share_by_reach
