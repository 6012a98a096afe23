use Rattle.std.proofs.Common.{◌∷◌, []}
use Rattle.std.specs.Prelude.{flat_map, decimal}
use Rattle.report_reading.specs.Names.{names_along}
use Rattle.path_report.specs.Sending.{spaced}
use Rattle.path_report.proofs.Lines.{path_line-parts}
use Rattle.path_report.proofs.Putting.{PutsText-before, PutsText-equal, PutsText-raised, PutsText-then}
use Rattle.path_report.proofs.paths.put_path.Goals as goal

pub returns-in_err-put : goal.returns-in_err-put
returns-in_err-put g c =
    PutsText-raised c.from_residual.ensures.0
    (PutsText-equal (path_line-parts c.args.labels.now c.args.path.now c.args.weight)
    (PutsText-before (10 ∷ [])
    (PutsText-before (flat_map spaced (names_along c.args.labels.now c.args.path.now))
    (PutsText-before (spaced (decimal c.args.weight)) c.in_err-put.ensures))))

pub returns-in_err-number : goal.returns-in_err-number
returns-in_err-number g c =
    PutsText-raised c.from_residual-in_err-number.ensures.0
    (PutsText-equal (path_line-parts c.args.labels.now c.args.path.now c.args.weight)
    (PutsText-before _ (PutsText-before _ (PutsText-then c.in_ok-put.ensures c.in_err-number.ensures))))

pub returns-in_err-put_names : goal.returns-in_err-put_names
returns-in_err-put_names g c =
    PutsText-raised c.from_residual-in_err-put_names.ensures.0
    (PutsText-equal (path_line-parts c.args.labels.now c.args.path.now c.args.weight)
    (PutsText-before _ (PutsText-then (PutsText-then c.in_ok-put.ensures c.in_ok-number.ensures) c.in_err-put_names.ensures)))

pub returns : goal.returns
returns g c =
    PutsText-equal (path_line-parts c.args.labels.now c.args.path.now c.args.weight)
    (PutsText-then (PutsText-then (PutsText-then c.in_ok-put.ensures c.in_ok-number.ensures) c.in_ok-put_names.ensures) c.put-2.ensures)
