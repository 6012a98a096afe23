use Rattle.std.proofs.Common.{◌∙◌, arith, ap, sym, subst, [], IsTrue}
use Rattle.decomposition.specs.Graph.{is_run}
use Rattle.decomposition.proofs.Root.{all-place}
use Rattle.report_reading.specs.Names.{graph_at}
use Rattle.report_reading.specs.ReportText.{run_line}
use Rattle.path_report.proofs.Putting.{PutsText-equal, PutsText-next, PutsText-raised, PutsText-stopped}
use Rattle.path_report.proofs.paths.put_each_run.Goals as goal

pub put_run-requires : goal.put_run-requires
put_run-requires g c =
    subst (λ run. IsTrue (is_run (graph_at c.args.labels.now) run)) (sym (c.as_slice.ensures ∙ c.get.ensures))
    (all-place (is_run (graph_at c.args.labels.now)) c.args.runs.now [] c.loop-k.k c.requires (omega arith))

pub returns-in_err-put_run : goal.returns-in_err-put_run
returns-in_err-put_run g c =
    PutsText-raised c.from_residual.ensures.0
    (PutsText-stopped (run_line c.args.labels.now) c.args.runs.now c.loop-k.k [] (omega arith) c.loop-k.invariant
    (PutsText-equal (ap (run_line c.args.labels.now) (c.as_slice.ensures ∙ c.get.ensures)) c.in_err-put_run.ensures))

pub loop-k-preserved : goal.loop-k-preserved
loop-k-preserved g c =
    PutsText-next (run_line c.args.labels.now) c.args.runs.now c.loop-k.k [] (omega arith) c.loop-k.invariant
    (PutsText-equal (ap (run_line c.args.labels.now) (c.as_slice.ensures ∙ c.get.ensures)) c.in_ok-put_run.ensures)
