use Rattle.std.proofs.Common.{◌∷◌, [], ◌∙◌, ap, ◌&&◌, length, nat_lt}
use Rattle.std.specs.Prelude.{codes}
use Rattle.std.specs.List.{list_all}
use Rattle.std.proofs.lemmas.Bool.{and_parts}
use Rattle.decomposition.specs.Answer.{is_ordered}
use Rattle.report_reading.specs.ReportText.{line, fits}
use Rattle.path_report.proofs.Putting.{PutsText-before, PutsText-equal, PutsText-raised, PutsText-then}
use Rattle.path_report.proofs.certs.put_wide.Goals as goal

pub put_edges-requires : goal.put_edges-requires
put_edges-requires g c =
    let edges = c.args.edges.now in
    (and_parts (list_all (λ e. nat_lt e (length c.args.labels.now.edges)) edges) (is_ordered nat_lt edges && fits (length edges)) c.requires).0

pub returns-in_err-line : goal.returns-in_err-line
returns-in_err-line g c =
    PutsText-raised c.from_residual.ensures.0
    (PutsText-before _ (PutsText-equal (ap (λ n. line (codes "cert" ∷ codes "wide" ∷ n ∷ [])) (c.as_slice.ensures.digits ∙ c.of-count.ensures)) c.in_err-line.ensures))

pub returns : goal.returns
returns g c =
    PutsText-then (PutsText-equal (ap (λ n. line (codes "cert" ∷ codes "wide" ∷ n ∷ [])) (c.as_slice.ensures.digits ∙ c.of-count.ensures)) c.in_ok-line.ensures)
    c.put_edges.ensures
