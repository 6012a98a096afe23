-- A report that is made of what was found is accepted, and regular for all labels of the graph.
use Rattle.std.proofs.Common.{Result, Ok, Err, sym, subst}
use Rattle.std.specs.Prelude.{IfOk, IsTrue}
use Rattle.std.proofs.lemmas.Result.{IfOk-weaker}
use Rattle.decomposition.specs.declared.Mode.{Mode}
use Rattle.decomposition.specs.Graph.{Graph}
use Rattle.decomposition.specs.Instance.{Instance}
use Rattle.graph_text.specs.Labels.{LabelLists}
use Rattle.report_terms.specs.NetFacts.{IsBodyOn, IsFoundIn}
use Rattle.report_terms.specs.NetFacts.{is_mode}
use Rattle.report_reading.specs.ReportText.{is_regular}
use Rattle.report_terms.specs.declared.report.Body.{Body}
use Rattle.report_terms.specs.declared.report.Report.{Report}
use Rattle.report_terms.specs.declared.report.Solved.{Solved}
use Rattle.report_reading.proofs.Lawful.{found_is_regular, reports_are_regular}
use Rattle.flowpaths_cli.specs.Right.{SolvedRight}
use Rattle.flowpaths_cli.specs.Solving.{AreForSolving, AreLabelsFor, IsMadeOf, IsRegularFor, IsReportable}
use Rattle.flowpaths_cli.specs.declared.settings.Settings.{Settings}
use Rattle.flowpaths_cli.proofs.Acceptance.{solved_reports_are_accepted}

made_regular : (set : Settings) (net : Graph) (labels : LabelLists) (s : Solved) (r : Report) → AreForSolving set → IsMadeOf set s r → AreLabelsFor net labels →
    IsFoundIn net s → IsTrue (is_regular labels r)
made_regular set net labels s r ready made are found =
    reports_are_regular net labels r (sym are.edges) (sym are.names) (record {
      first = made.first;
      small = made.small;
      name = made.name;
      mode = subst (λ (m : Mode). IsTrue (is_mode m)) (sym made.mode) ready.mode;
      body = subst (λ (b : Body). IsBodyOn net b) (sym made.body) found;
    })

reportable : (set : Settings) (i : Instance) (s : Solved) → AreForSolving set → IsFoundIn i.graph s → SolvedRight set i s → IsReportable set i s
reportable set i s ready found right = λ r made. (
  solved_reports_are_accepted set i s r ready right made.mode made.body,
  λ labels are. made_regular set i.graph labels s r ready made are found,
)

-- the same of the answer of a solver
pub answer_regular : {E : Type 0} (net : Graph) (answer : Result Solved E) → IfOk answer (IsFoundIn net) → IfOk answer (IsRegularFor net)
answer_regular net answer found =
    IfOk-weaker answer _ _ (λ s is labels are. found_is_regular net labels s (sym are.edges) (sym are.names) is) found

pub answer_reportable : {E : Type 0} (set : Settings) (i : Instance) (answer : Result Solved E) → AreForSolving set → IfOk answer (IsFoundIn i.graph) →
    IfOk answer (SolvedRight set i) → IfOk answer (IsReportable set i)
answer_reportable set i (Ok s) ready found right = reportable set i s ready found right
answer_reportable set i (Err e) ready found right = tt
