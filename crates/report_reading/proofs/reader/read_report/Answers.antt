use Rattle.std.proofs.Common.{sym, subst}
use Rattle.report_reading.specs.BadLines.{IsTextOf}
use Rattle.report_reading.proofs.Soundness.{text-read}
use Rattle.report_reading.proofs.reader.read_report.Goals as goal

pub returns-clause-found : goal.returns-clause-found
returns-clause-found c =
    subst (λ report. IsTextOf c.args.labels.now report c.args.text.now) (sym c.report.ensures)
    (text-read c.args.labels.now c.args.text.now c.in_ok-draft.draft c.in_ok-draft.ensures.ok)
