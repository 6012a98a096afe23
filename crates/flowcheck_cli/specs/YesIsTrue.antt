-- A yes for a block that is accepted speaks for itself.
use Rattle.std.specs.Prelude.{◌≡◌, ℕ, List, Ok}
use Rattle.decomposition.specs.declared.Mode.{Mode}
use Rattle.graph_text.specs.Blocks.{TextBlock, IsTextBlock}
use Rattle.graph_text.specs.Reading.{read, instance_of}
use Rattle.graph_text.specs.declared.block.RawGraph.{RawGraph}
use Rattle.report_reading.specs.BadLines.{IsTextOf}
use Rattle.report_terms.specs.declared.report.Report.{Report}
use Rattle.cert_check.specs.True.{IsTrueReport}
use Rattle.flowcheck_cli.specs.Outcomes.{IsOutcome}
use Rattle.flowcheck_cli.specs.declared.outcome.Outcome.TheVariants.{Yes}

-- where the answer is yes for a block that is read as a graph, the text is that of a report that is true for the graph
abbrev pub YesIsTrue : Type 0
YesIsTrue =
    (mode : Mode) (block : TextBlock) (graph : RawGraph) (at : ℕ) (text : List ℕ) → IsTextBlock block → read mode block ≡ Ok graph
    → IsOutcome mode block at text Yes → (report : Report) × IsTextOf graph.labels report text × IsTrueReport mode (instance_of graph) report.body
