-- Right reports are accepted by a check of their certificates.
use Rattle.std.specs.Prelude.{◌≡◌, ℕ, List, Ok}
use Rattle.cert_check.specs.Verdict.{IsAccepted}
use Rattle.graph_text.specs.Blocks.{TextBlock}
use Rattle.graph_text.specs.Reading.{read, instance_of}
use Rattle.graph_text.specs.declared.block.RawGraph.{RawGraph}
use Rattle.decomposition.specs.Instance.{Instance}
use Rattle.report_terms.specs.declared.report.Report.{Report}
use Rattle.report_terms.specs.declared.report.Solved.{Solved}
use Rattle.report_terms.specs.declared.report.Body.TheVariants.{Solved as SolvedBody}
use Rattle.flowpaths_cli.specs.Right.{AreBuilt, IsReportOf, SolvedRight}
use Rattle.flowpaths_cli.specs.Solving.{AreForSolving}
use Rattle.flowpaths_cli.specs.declared.settings.Settings.{Settings}

-- a right report on a block whose graph is read is accepted for the instance of the graph
abbrev pub RightReportsAreAccepted : Type 0
RightReportsAreAccepted =
    (s : Settings) (block : TextBlock) (graph : RawGraph) (report : Report) (text : List ℕ) →
    AreBuilt s → read s.mode block ≡ Ok graph → IsReportOf s block report text → IsAccepted s.mode (instance_of graph) report

-- what is right for an instance, put in a report with the model of the settings, is accepted for the instance
abbrev pub SolvedReportsAreAccepted : Type 0
SolvedReportsAreAccepted =
    (s : Settings) (i : Instance) (solved : Solved) (report : Report) →
    AreForSolving s → SolvedRight s i solved → report.mode ≡ s.mode → report.body ≡ SolvedBody solved → IsAccepted s.mode i report
