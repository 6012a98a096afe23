use Rattle.std.proofs.Common.{◌∷◌, [], ap, arith, length, nat_lt, ltb-true}
use Rattle.std.specs.Prelude.{codes}
use Rattle.decomposition.proofs.Root.{all-place}
use Rattle.report_reading.specs.ReportText.{line, vertex_line}
use Rattle.path_report.proofs.Putting.{PutsText-equal, PutsText-next, PutsText-raised, PutsText-stopped}
use Rattle.path_report.proofs.certs.put_vertices.Goals as goal

pub name-requires : goal.name-requires
name-requires g c =
    ltb-true _ _ (all-place (λ v. nat_lt v (length c.args.labels.now.names)) c.args.vertices.now 0 c.loop-v.v-index c.requires (omega arith))

pub returns-in_err-line : goal.returns-in_err-line
returns-in_err-line g c =
    PutsText-raised c.from_residual.ensures.0
    (PutsText-stopped (vertex_line c.args.labels.now) c.args.vertices.now c.loop-v.v-index 0 (omega arith) c.loop-v.invariant
    (PutsText-equal (ap (λ n. line (codes "vertex" ∷ n ∷ [])) c.name.ensures.name) c.in_err-line.ensures))

pub loop-v-preserved : goal.loop-v-preserved
loop-v-preserved g c =
    PutsText-next (vertex_line c.args.labels.now) c.args.vertices.now c.loop-v.v-index 0 (omega arith) c.loop-v.invariant
    (PutsText-equal (ap (λ n. line (codes "vertex" ∷ n ∷ [])) c.name.ensures.name) c.in_ok-line.ensures)
