use Rattle.flowpaths_cli.proofs.Reports.{reported-done, reported-all}
use Rattle.flowpaths_cli.proofs.reporting.ReportingWorker.end.Goals as goal

pub returns-clause-done : goal.returns-clause-done
returns-clause-done g c =
    (reported-done c.requires.begun.0 c.args.self.now c.requires.begun.1 c.requires.begun.2 c.requires.begun.3, reported-all c.args.self.now _)
