use Rattle.std.proofs.Common.{◌∙◌, ◌&&◌, length, nat_lt}
use Rattle.std.specs.List.{list_all}
use Rattle.std.proofs.lemmas.Bool.{and_parts}
use Rattle.decomposition.specs.Answer.{is_ordered}
use Rattle.report_reading.specs.ReportText.{fits}
use Rattle.path_report.proofs.Lines.{cut_line-fields}
use Rattle.path_report.proofs.Putting.{PutsText-before, PutsText-equal, PutsText-raised, PutsText-then}
use Rattle.path_report.proofs.certs.put_cut.Goals as goal

pub put_vertices-requires : goal.put_vertices-requires
put_vertices-requires g c =
    let vertices = c.args.vertices.now in
    (and_parts (list_all (λ v. nat_lt v (length c.args.labels.now.names)) vertices) (is_ordered nat_lt vertices && fits (length vertices)) c.requires).0

pub returns-in_err-line : goal.returns-in_err-line
returns-in_err-line g c =
    let fields = cut_line-fields c.args.side (length c.args.vertices.now) c.word_of_side.ensures (c.as_slice.ensures.digits ∙ c.of-count.ensures) in
    PutsText-raised c.from_residual.ensures.0 (PutsText-before _ (PutsText-equal fields c.in_err-line.ensures))

pub returns : goal.returns
returns g c =
    let fields = cut_line-fields c.args.side (length c.args.vertices.now) c.word_of_side.ensures (c.as_slice.ensures.digits ∙ c.of-count.ensures) in
    PutsText-then (PutsText-equal fields c.in_ok-line.ensures) c.put_vertices.ensures
