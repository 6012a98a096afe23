use Rattle.std.proofs.Common.{arith, ap}
use Rattle.graph_text.specs.Labels.{name_at, head_at}
use Rattle.report_reading.specs.Names.{graph_at}
use Rattle.path_report.specs.Sending.{spaced}
use Rattle.decomposition.proofs.Runs.{run-place}
use Rattle.path_report.proofs.Putting.{PutsText-equal, PutsText-next, PutsText-raised, PutsText-stopped}
use Rattle.path_report.proofs.paths.put_heads.Goals as goal

pub head-requires : goal.head-requires
head-requires g c = run-place (graph_at c.args.labels.now) c.args.run.now c.loop-e.e-index c.requires (omega arith)

pub returns-in_err-put_name : goal.returns-in_err-put_name
returns-in_err-put_name g c =
    PutsText-raised c.from_residual.ensures.0
    (PutsText-stopped (λ e. spaced (name_at c.args.labels.now (head_at c.args.labels.now e))) c.args.run.now c.loop-e.e-index 0 (omega arith)
    c.loop-e.invariant
    (PutsText-equal (ap (λ v. spaced (name_at c.args.labels.now v)) c.head.ensures.head) c.in_err-put_name.ensures))

pub loop-e-preserved : goal.loop-e-preserved
loop-e-preserved g c =
    PutsText-next (λ e. spaced (name_at c.args.labels.now (head_at c.args.labels.now e))) c.args.run.now c.loop-e.e-index 0 (omega arith)
    c.loop-e.invariant
    (PutsText-equal (ap (λ v. spaced (name_at c.args.labels.now v)) c.head.ensures.head) c.in_ok-put_name.ensures)
