use Rattle.subpath_rules.proofs.RunsByReach.{may_contain_by_reach}
use Rattle.subpath_rules.proofs.laws.may_contain_by_reach.Goals as goal

pub returns : goal.returns
returns c = may_contain_by_reach
