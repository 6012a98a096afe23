use Rattle.std.proofs.Common.{arith, length, nat_lt, ltb-true}
use Rattle.decomposition.proofs.Root.{all-place}
use Rattle.report_reading.specs.ReportText.{edge_line}
use Rattle.path_report.proofs.Putting.{PutsText-next, PutsText-raised, PutsText-stopped}
use Rattle.path_report.proofs.certs.put_edges.Goals as goal

pub put_edge-requires : goal.put_edge-requires
put_edge-requires g c =
    ltb-true _ _ (all-place (λ e. nat_lt e (length c.args.labels.now.edges)) c.args.edges.now 0 c.loop-e.e-index c.requires (omega arith))

pub returns-in_err-put_edge : goal.returns-in_err-put_edge
returns-in_err-put_edge g c =
    PutsText-raised c.from_residual.ensures.0
    (PutsText-stopped (edge_line c.args.labels.now) c.args.edges.now c.loop-e.e-index 0 (omega arith) c.loop-e.invariant c.in_err-put_edge.ensures)

pub loop-e-preserved : goal.loop-e-preserved
loop-e-preserved g c =
    PutsText-next (edge_line c.args.labels.now) c.args.edges.now c.loop-e.e-index 0 (omega arith) c.loop-e.invariant c.in_ok-put_edge.ensures
