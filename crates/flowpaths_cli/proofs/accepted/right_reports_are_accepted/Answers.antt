use Rattle.flowpaths_cli.proofs.Acceptance.{right_reports_are_accepted}
use Rattle.flowpaths_cli.proofs.accepted.right_reports_are_accepted.Goals as goal

pub returns : goal.returns
returns c = right_reports_are_accepted
