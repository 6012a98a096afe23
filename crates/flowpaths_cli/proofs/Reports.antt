-- Outputs that grow by one report after another.
use Rattle.std.proofs.Common.{◌≡◌, ℕ, List, [], ◌∷◌, ◌++◌, take, drop, Option, IsTrue, refl, sym, ◌∙◌, ap, subst, append_assoc, append-nil}
use Rattle.std.specs.List.{list_any}
use Rattle.std.proofs.lemmas.List.{take-append-drop}
use Rattle.flow_io.specs.Outside.{AddsPrefix}
use Rattle.flow_io.specs.declared.status.Status.{Status}
use Rattle.flow_io.specs.declared.status.Status.TheVariants.{Clean}
use Rattle.flow_io.proofs.Adding.{Adds-nothing}
use Rattle.graph_text.specs.Blocks.{TextBlock}
use Rattle.graph_text.specs.Labels.{LabelLists}
use Rattle.graph_text.specs.Reader.{handed}
use Rattle.graph_text.specs.declared.block.Block.{Block}
use Rattle.report_reading.specs.ReportText.{is_regular, text_of}
use Rattle.report_terms.specs.declared.report.Body.{Body}
use Rattle.report_terms.specs.declared.report.Report.{Report}
use Rattle.program_runs.specs.HandedBlocks.{IsHandedFor}
use Rattle.program_runs.proofs.Statuses.{done-by}
use Rattle.block_runs.specs.Answering.{IsRightAndMayBeCut, IsCutOff, Finishes}
use Rattle.flowpaths_cli.specs.declared.reporting.Reporting.{Reporting}
use Rattle.flowpaths_cli.specs.declared.settings.Settings.{Settings}
use Rattle.flowpaths_cli.specs.Right.{AreBuilt, BodyRight, labels_of, IsTextOf, IsReportOf, status_of, is_refused, is_open}
use Rattle.flowpaths_cli.specs.Run.{IsDone, AreReports, IsOutput, IsOutputWith}
use Rattle.flowpaths_cli.specs.Reporting.{HasReported}

-- the report that is made of a block and of what is said of it
abbrev pub report_on : Settings → Block → Body → Report
report_on s block body = record { index = block.index; name = block.name; mode = s.mode; body = body }

-- it is a report of the block that was handed out
pub report_is : (s : Settings) (text : TextBlock) (block : Block) (body : Body) (labels : LabelLists) →
    handed s.mode text ≡ block → BodyRight s block.body body → labels ≡ labels_of block.body →
    IsTrue (is_regular labels (report_on s block body)) → IsReportOf s text (report_on s block body) (text_of labels (report_on s block body))
report_is s text block body labels is_handed right are regular =
    let P : Block → Type 0 = λ b. BodyRight s b.body body → labels ≡ labels_of b.body →
    IsTrue (is_regular labels (report_on s b body)) → IsReportOf s text (report_on s b body) (text_of labels (report_on s b body)) in
    let here : P (handed s.mode text) = λ right' are' regular'.
    let r = report_on s (handed s.mode text) body in
    let spelled : IsTextOf labels r (text_of labels r) = record { regular = regular'; text_is = refl } in
    record {
      index_is = refl;
      name_is = refl;
      mode_is = refl;
      body_is = right';
      spelled = subst (λ l. IsTextOf l r (text_of labels r)) are' spelled;
    } in
    subst P is_handed here right are regular

pub reports-more : (s : Settings) (blocks : List TextBlock) (reports : List Report) (text : List ℕ) (block : TextBlock) (report : Report) (more : List ℕ) →
    AreReports s blocks reports text → IsReportOf s block report more → AreReports s (blocks ++ block ∷ []) (reports ++ report ∷ []) (text ++ more)
reports-more s [] [] text block report more h one =
    (more, [], ap (λ t. t ++ more) h ∙ sym (append-nil more), one, refl)
reports-more s [] (other ∷ reports) text block report more h one = absurd h
reports-more s (first ∷ blocks) [] text block report more h one = absurd h
reports-more s (first ∷ blocks) (other ∷ reports) text block report more h one =
    (h.0, h.1 ++ more, ap (λ t. t ++ more) h.2 ∙ append_assoc h.0 h.1 more, h.3, reports-more s blocks reports h.1 block report more h.4 one)

-- no report yet
pub reported-nothing : (first : Reporting) → AreBuilt first.settings.now → first.status ≡ Clean → HasReported first first [] []
reported-nothing first built clean = record { built = built; settings_are = refl; output = ([], refl, clean) }

-- one report more, under the settings of the first state
reports-then : (first now : Reporting) (shown : List TextBlock) (text : List ℕ) (block : TextBlock) (report : Report) (piece : List ℕ) → (h : HasReported first now shown text) →
    IsReportOf now.settings.now block report piece → AreReports first.settings.now (shown ++ block ∷ []) (h.output.0 ++ report ∷ []) (text ++ piece)
reports-then first now shown text block report piece h one =
    reports-more first.settings.now shown h.output.0 text block report piece h.output.1 (subst (λ s. IsReportOf s block report piece) h.settings_are one)

pub reported-more : (first now : Reporting) (after : Status) (shown : List TextBlock) (text : List ℕ) (block : TextBlock) (report : Report) (piece : List ℕ) → HasReported first now shown text →
    IsReportOf now.settings.now block report piece → ((reports : List Report) → now.status ≡ status_of reports → after ≡ status_of (reports ++ report ∷ [])) →
    HasReported first (record { settings = now.settings; status = after }) (shown ++ block ∷ []) (text ++ piece)
reported-more first now after shown text block report piece h one then_status = record {
  built = h.built;
  settings_are = h.settings_are;
  output = (h.output.0 ++ report ∷ [], reports-then first now shown text block report piece h one, then_status h.output.0 h.output.2);
}

-- a report that is cut off
pub reported-cut : (now : Reporting) (block : Block) (report : Report) (piece : List ℕ) (before after : Option (List ℕ)) →
    ((asked : TextBlock) → IsHandedFor now.settings.now.mode asked block → IsReportOf now.settings.now asked report piece) → AddsPrefix before after piece →
    IsCutOff {W = Reporting} now.settings.now.mode block (λ first shown text. HasReported first now shown text)
    (IsRightAndMayBeCut {W = Reporting} (λ _. Unit {0}) (λ w. IsOutput w.settings.now)) before after
reported-cut now block report piece before after is adds = (
  take adds.0 piece,
  drop adds.0 piece,
  adds.2,
  λ asked handed first shown text h. (
    tt,
    (
      h.output.0 ++ report ∷ [],
      subst (λ p. AreReports first.settings.now (shown ++ asked ∷ []) (h.output.0 ++ report ∷ []) (text ++ p)) (sym (take-append-drop adds.0 piece))
          (reports-then first now shown text asked report piece h (is asked handed)),
    ),
  ),
)

-- the reports are all, and their status is that of a run that came to its end
pub reported-done : (first now : Reporting) (shown : List TextBlock) (text : List ℕ) → HasReported first now shown text → IsDone now.status
reported-done first now shown text h =
    subst IsDone (sym h.output.2) (done-by (list_any (λ r. is_refused r.body) h.output.0) (list_any (λ r. is_open r.body) h.output.0))

pub reported-all : (now : Reporting) (told : Option (List ℕ)) →
    Finishes {W = Reporting} (λ first shown text. HasReported first now shown text) (λ first. IsOutputWith first.settings.now now.status) told told
reported-all now told = ([], Adds-nothing told, λ first shown text h. subst (IsOutputWith first.settings.now now.status shown) (sym (append-nil text)) h.output)
