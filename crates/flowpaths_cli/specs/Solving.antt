-- What solving a graph needs of the settings, and the reports that are made of what it finds.
use Rattle.std.specs.Prelude.{◌≡◌, ◌≤◌, ◌<◌, ◌^◌, length, IsTrue}
use Rattle.cert_check.specs.Verdict.{IsAccepted}
use Rattle.decomposition.specs.Graph.{Graph}
use Rattle.decomposition.specs.Instance.{Instance}
use Rattle.flow_solver.specs.Asked.{MayBeAsked}
use Rattle.graph_text.specs.Labels.{LabelLists}
use Rattle.report_terms.specs.declared.report.Report.{Report}
use Rattle.report_terms.specs.declared.report.Solved.{Solved}
use Rattle.report_terms.specs.declared.report.Body.TheVariants.{Solved as SolvedBody}
use Rattle.report_reading.specs.ReportText.{is_name, is_regular, is_regular_solved}
use Rattle.flowpaths_cli.specs.Asked.{asked_by}
use Rattle.flowpaths_cli.specs.declared.settings.Settings.{Settings}

-- settings under which a graph is solved: what they ask may be asked
abbrev pub AreForSolving : Settings → Type 0
AreForSolving s = MayBeAsked (asked_by s)

-- labels that have the edges of a graph, in order, and a name for each of its vertices
pub record AreLabelsFor (g : Graph) (labels : LabelLists) : Type 0 where
  pub edges : labels.edges ≡ g.edges
  pub names : length labels.names ≡ g.vertices

-- what was found for a graph is regular for all such labels
abbrev pub IsRegularFor : Graph → Solved → Type 0
IsRegularFor g s = (labels : LabelLists) → AreLabelsFor g labels → IsTrue (is_regular_solved labels s)

-- a report is made of what was found: it has the model of the settings, an index of at least 1, and a name that a report may have
pub record IsMadeOf (set : Settings) (s : Solved) (r : Report) : Type 0 where
  pub first : 1 ≤ r.index
  pub small : r.index < 2 ^ 64
  pub name : IsTrue (is_name r.name)
  pub mode : r.mode ≡ set.mode
  pub body : r.body ≡ SolvedBody s

-- each report that is made of what was found is accepted for the instance, and regular for all labels of its graph
abbrev pub IsReportable : Settings → Instance → Solved → Type 0
IsReportable set i s =
    (r : Report) → IsMadeOf set s r → IsAccepted set.mode i r × ((labels : LabelLists) → AreLabelsFor i.graph labels → IsTrue (is_regular labels r))
