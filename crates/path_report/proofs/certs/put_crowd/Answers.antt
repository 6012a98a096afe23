use Rattle.std.proofs.Common.{◌∙◌, ap, length}
use Rattle.graph_text.specs.Labels.{name_at}
use Rattle.path_report.proofs.Lines.{crowd_line-fields}
use Rattle.path_report.proofs.Putting.{PutsText-before, PutsText-equal, PutsText-raised, PutsText-then}
use Rattle.path_report.proofs.certs.put_crowd.Goals as goal

pub returns-in_err-line : goal.returns-in_err-line
returns-in_err-line g c =
    let name = name_at c.args.labels.now in
    let tail = c.name-tail.ensures.name ∙ ap name c.tail.ensures.tail in
    let head = c.name-head.ensures.name ∙ ap name c.head.ensures.head in
    let fields = crowd_line-fields c.args.labels.now c.args.e (length c.args.rules.now) tail head (c.as_slice.ensures.digits ∙ c.of-count.ensures) in
    PutsText-raised c.from_residual.ensures.0 (PutsText-before _ (PutsText-equal fields c.in_err-line.ensures))

pub returns : goal.returns
returns g c =
    let name = name_at c.args.labels.now in
    let tail = c.name-tail.ensures.name ∙ ap name c.tail.ensures.tail in
    let head = c.name-head.ensures.name ∙ ap name c.head.ensures.head in
    let fields = crowd_line-fields c.args.labels.now c.args.e (length c.args.rules.now) tail head (c.as_slice.ensures.digits ∙ c.of-count.ensures) in
    PutsText-then (PutsText-equal fields c.in_ok-line.ensures) c.put_rules.ensures
