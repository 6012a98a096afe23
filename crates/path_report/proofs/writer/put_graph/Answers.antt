use Rattle.std.proofs.Common.{◌∙◌, sym}
use Rattle.report_reading.proofs.GraphLine.{graph_line-named}
use Rattle.path_report.proofs.Putting.{PutsText-equal}
use Rattle.path_report.proofs.writer.put_graph.Goals as goal

pub returns-else-is_empty : goal.returns-else-is_empty
returns-else-is_empty g c =
    PutsText-equal
    (graph_line-named c.args.report.now.index c.as_slice-else-is_empty.result.now c.as_slice-name.result.now c.args.report.now.name
    (c.as_slice-else-is_empty.ensures.digits ∙ c.of-number.ensures) c.as_slice-name.ensures (sym c.if-is_empty.ensures))
    c.line-else-is_empty.ensures
