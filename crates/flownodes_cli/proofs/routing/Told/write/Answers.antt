use Rattle.flownodes_cli.proofs.Routed.{on_err, on_err_in, beginning-first, beginning-second}
use Rattle.flownodes_cli.proofs.routing.Told.write.Goals as goal

pub returns-in_err-write_report-clause-err : goal.returns-in_err-write_report-clause-err
returns-in_err-write_report-clause-err g c = on_err _ (beginning-first _ _ _ _ c.in_err-write_report.ensures.err)

pub returns-clause-err : goal.returns-clause-err
returns-clause-err g c = on_err_in c.write_whole.result (beginning-second _ _ _ _ _ c.in_ok-write_report.ensures.ok) c.write_whole.ensures.err
