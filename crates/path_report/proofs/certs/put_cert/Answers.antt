use Rattle.std.proofs.Common.{◌∙◌, ap, sym}
use Rattle.report_terms.specs.declared.report.Cert.TheVariants.{Cut}
use Rattle.report_reading.specs.ReportText.{cert_text}
use Rattle.path_report.proofs.Putting.{PutsText-equal}
use Rattle.path_report.proofs.certs.put_cert.Goals as goal

pub returns-in-Tree : goal.returns-in-Tree
returns-in-Tree g c = PutsText-equal (ap (cert_text c.args.labels.now) (sym c.in-Tree.is)) c.put_trail.ensures

pub returns-in-Cut : goal.returns-in-Cut
returns-in-Cut g c =
    PutsText-equal
    (ap (λ vertices. cert_text c.args.labels.now (Cut c.in-Cut.side vertices)) c.as_slice-in-Cut.ensures ∙ ap (cert_text c.args.labels.now) (sym c.in-Cut.is))
    c.put_cut.ensures
