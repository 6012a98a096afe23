-- What makes a report regular, said of a net in place of labels.
use Rattle.std.specs.Prelude.{◌≡◌, ◌^◌, ◌<◌, ◌≤◌, length, IsTrue}
use Rattle.decomposition.specs.Graph.{Graph}
use Rattle.graph_text.specs.Labels.{LabelLists}
use Rattle.report_terms.specs.declared.report.Solved.{Solved}
use Rattle.report_terms.specs.declared.report.Report.{Report}
use Rattle.report_terms.specs.NetFacts.{is_mode, IsFoundIn, IsBodyOn}
use Rattle.report_reading.specs.ReportText.{is_name, is_regular_solved, is_regular}

-- a report on the net
pub record IsReportOn (net : Graph) (r : Report) : Type 0 where
  pub first : 1 ≤ r.index
  pub small : r.index < 2 ^ 64
  pub name : IsTrue (is_name r.name)
  pub mode : IsTrue (is_mode r.mode)
  pub body : IsBodyOn net r.body

-- what was found in a net is regular for all labels with its edges and as many names as it has vertices
abbrev pub FoundIsRegular : Type 0
FoundIsRegular =
    (net : Graph) (labels : LabelLists) (s : Solved) → net.edges ≡ labels.edges → net.vertices ≡ length labels.names
    → IsFoundIn net s → IsTrue (is_regular_solved labels s)

-- a report on a net is regular for all labels with its edges and as many names as it has vertices
abbrev pub ReportsAreRegular : Type 0
ReportsAreRegular =
    (net : Graph) (labels : LabelLists) (r : Report) → net.edges ≡ labels.edges → net.vertices ≡ length labels.names
    → IsReportOn net r → IsTrue (is_regular labels r)
