use Rattle.std.proofs.Common.{◌∷◌, []}
use Rattle.std.specs.Prelude.{flat_map}
use Rattle.report_reading.specs.Names.{names_along}
use Rattle.path_report.specs.Sending.{spaced}
use Rattle.path_report.proofs.Lines.{run_line-parts}
use Rattle.path_report.proofs.Putting.{PutsText-before, PutsText-equal, PutsText-raised, PutsText-then}
use Rattle.path_report.proofs.paths.put_run.Goals as goal

pub returns-in_err-put : goal.returns-in_err-put
returns-in_err-put g c =
    PutsText-raised c.from_residual.ensures.0
    (PutsText-equal (run_line-parts c.args.labels.now c.args.run.now)
    (PutsText-before (10 ∷ []) (PutsText-before (flat_map spaced (names_along c.args.labels.now c.args.run.now)) c.in_err-put.ensures)))

pub returns-in_err-put_names : goal.returns-in_err-put_names
returns-in_err-put_names g c =
    PutsText-raised c.from_residual-in_err-put_names.ensures.0
    (PutsText-equal (run_line-parts c.args.labels.now c.args.run.now)
    (PutsText-before _ (PutsText-then c.in_ok-put.ensures c.in_err-put_names.ensures)))

pub returns : goal.returns
returns g c =
    PutsText-equal (run_line-parts c.args.labels.now c.args.run.now)
    (PutsText-then (PutsText-then c.in_ok-put.ensures c.in_ok-put_names.ensures) c.put-2.ensures)
