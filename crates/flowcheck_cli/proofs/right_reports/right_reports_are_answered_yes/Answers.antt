use Rattle.flowcheck_cli.proofs.Answering.{right_reports_are_answered_yes}
use Rattle.flowcheck_cli.proofs.right_reports.right_reports_are_answered_yes.Goals as goal

pub returns : goal.returns
returns c = right_reports_are_answered_yes
