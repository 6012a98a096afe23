use Rattle.std.proofs.Common.{subst}
use Rattle.std.specs.Prelude.{Result}
use Rattle.graph_text.specs.Reading.{instance_of}
use Rattle.graph_text.specs.declared.block.RawGraph.{RawGraph}
use Rattle.report_terms.specs.declared.refusal.Refusal.{Refusal}
use Rattle.graph_text.proofs.Accepting.{graphs_are_accepted}
use Rattle.report_reading.specs.BadLines.{IsTextOf}
use Rattle.cert_check.proofs.TrueReports.{body_is_true}
use Rattle.program_runs.specs.HandedBlocks.{labels_of}
use Rattle.flowcheck_cli.specs.Outcomes.{IsRightBody}
use Rattle.flowcheck_cli.proofs.laws.yes_is_true.Goals as goal

pub returns : goal.returns
returns c mode block graph at text is_block reads (report, is_text, right) =
    let R : Type 0 = Result RawGraph Refusal in
    let accepted = graphs_are_accepted mode block graph is_block.no_feeds reads in (
      report,
      subst (λ (r : R). IsTextOf (labels_of r) report text) reads is_text,
      body_is_true mode (instance_of graph) accepted.instance report.body (subst (λ (r : R). IsRightBody mode r report.body) reads right.body),
    )
