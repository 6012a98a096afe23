use Rattle.std.proofs.Common.{ap}
use Rattle.graph_text.specs.Labels.{name_at}
use Rattle.report_reading.specs.Names.{graph_at}
use Rattle.path_report.specs.Sending.{spaced}
use Rattle.path_report.proofs.Lines.{names_along-run}
use Rattle.decomposition.proofs.Runs.{run-place, run-length}
use Rattle.path_report.proofs.Putting.{PutsText-before, PutsText-equal, PutsText-raised, PutsText-then}
use Rattle.path_report.proofs.paths.put_names.Goals as goal

pub tail-requires : goal.tail-requires
tail-requires g c = run-place (graph_at c.args.labels.now) c.args.run.now 0 c.requires (run-length (graph_at c.args.labels.now) c.args.run.now c.requires)

pub returns-in_err-put_name : goal.returns-in_err-put_name
returns-in_err-put_name g c =
    let some = run-length (graph_at c.args.labels.now) c.args.run.now c.requires in
    PutsText-raised c.from_residual.ensures.0
    (PutsText-equal (names_along-run c.args.labels.now c.args.run.now some)
    (PutsText-before _ (PutsText-equal (ap (λ v. spaced (name_at c.args.labels.now v)) c.tail.ensures.tail) c.in_err-put_name.ensures)))

pub returns : goal.returns
returns g c =
    let some = run-length (graph_at c.args.labels.now) c.args.run.now c.requires in
    PutsText-equal (names_along-run c.args.labels.now c.args.run.now some)
    (PutsText-then (PutsText-equal (ap (λ v. spaced (name_at c.args.labels.now v)) c.tail.ensures.tail) c.in_ok-put_name.ensures) c.put_heads.ensures)
