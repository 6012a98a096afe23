use Rattle.flowpaths_cli.proofs.Acceptance.{solved_reports_are_accepted}
use Rattle.flowpaths_cli.proofs.accepted.solved_reports_are_accepted.Goals as goal

pub returns : goal.returns
returns c = solved_reports_are_accepted
