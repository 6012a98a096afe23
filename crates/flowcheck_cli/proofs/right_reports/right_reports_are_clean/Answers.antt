use Rattle.flowcheck_cli.proofs.Answering.{right_reports_are_clean}
use Rattle.flowcheck_cli.proofs.right_reports.right_reports_are_clean.Goals as goal

pub returns : goal.returns
returns c = right_reports_are_clean
