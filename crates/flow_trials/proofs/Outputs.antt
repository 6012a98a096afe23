-- The reports of an output are right for their blocks.
use Rattle.std.proofs.Common.{◌≡◌, ℕ, List, [], ◌∷◌, refl, ap}
use Rattle.std.specs.Prelude.{Result, Ok, Err}
use Rattle.flowcheck_cli.specs.Outcomes.{IsRightBody, IsRightReport}
use Rattle.flowcheck_cli.specs.RightReports.{AreRightReports}
use Rattle.flowcheck_cli.proofs.Answering.{right_reports_are_answered_yes}
use Rattle.flowpaths_cli.specs.Right.{AreBuilt, BodyRight, IsReportOf}
use Rattle.flowpaths_cli.specs.Run.{AreReports}
use Rattle.flowpaths_cli.specs.declared.settings.Settings.{Settings}
use Rattle.flowpaths_cli.proofs.Acceptance.{right_reports_are_accepted}
use Rattle.graph_text.specs.Blocks.{TextBlock, blocks}
use Rattle.graph_text.specs.Reader.{handed}
use Rattle.graph_text.specs.Reading.{read}
use Rattle.graph_text.specs.declared.block.RawGraph.{RawGraph}
use Rattle.report_terms.specs.declared.refusal.Refusal.{Refusal}
use Rattle.report_terms.specs.declared.report.Body.{Body}
use Rattle.report_terms.specs.declared.report.Body.TheVariants.{Refused, Solved as SolvedBody}
use Rattle.report_terms.specs.declared.report.Report.{Report}
use Rattle.flow_trials.specs.Answered.{OutputsAreAnsweredYes}

refusal-right : (s : Settings) (refusal : Refusal) (body : Body) → BodyRight s (Err refusal) body → body ≡ Refused refusal
refusal-right s refusal (Refused r) right = ap Refused right
refusal-right s refusal (SolvedBody solved) right = absurd right

body-right : (s : Settings) (block : TextBlock) (report : Report) (text : List ℕ) (r : Result RawGraph Refusal) → AreBuilt s → IsReportOf s block report text → read s.mode block ≡ r
    → BodyRight s r report.body → IsRightBody s.mode r report.body
body-right s block report text (Err refusal) built is e right = refusal-right s refusal report.body right
body-right s block report text (Ok graph) built is e right = (right_reports_are_accepted s block graph report text built e is).body

report-right : (s : Settings) (block : TextBlock) (report : Report) (text : List ℕ) → AreBuilt s → IsReportOf s block report text → IsRightReport s.mode (handed s.mode block) report
report-right s block report text built is = record {
  names = record { index_is = is.index_is; name_is = is.name_is };
  mode_is = is.mode_is;
  body = body-right s block report text (read s.mode block) built is refl is.body_is;
}

reports-right : (s : Settings) (shown : List TextBlock) (reports : List Report) (text : List ℕ) → AreBuilt s → AreReports s shown reports text → AreRightReports s.mode shown reports text
reports-right s [] [] text built are = are
reports-right s [] (report ∷ reports) text built are = are
reports-right s (block ∷ shown) [] text built are = are
reports-right s (block ∷ shown) (report ∷ reports) text built (first, rest, joined, one, more) =
    (first, rest, joined, one.spelled, report-right s block report first built one, reports-right s shown reports rest built more)

pub outputs_are_answered_yes : OutputsAreAnsweredYes
outputs_are_answered_yes s graphs text outcomes printed built (reports, are) =
    right_reports_are_answered_yes s.mode graphs text reports outcomes printed (reports-right s (blocks graphs) reports text built are)
