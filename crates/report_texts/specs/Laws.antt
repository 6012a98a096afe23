-- What holds of texts of reports that stand one behind the other.
use Rattle.std.specs.Prelude.{◌≡◌, List, ◌∷◌, ◌++◌, ℕ, All, IsTrue, flat_map, map}
use Rattle.graph_text.specs.Labels.{LabelLists, AreLabels}
use Rattle.report_terms.specs.declared.report.Report.{Report}
use Rattle.report_reading.specs.ReportText.{is_regular, text_of}
use Rattle.report_texts.specs.ReportTexts.{report_texts, model_in}

-- a report, and the labels that its text is written by
pub record Labelled : Type 0 where
  pub labels : LabelLists
  pub report : Report

-- its text
abbrev pub text_in : Labelled → List ℕ
text_in entry = text_of entry.labels entry.report

-- the labels are those of a graph, and give the report a text
pub record IsWritten (entry : Labelled) : Type 0 where
  pub labels : AreLabels entry.labels
  pub regular : IsTrue (is_regular entry.labels entry.report)

-- the text of a report, whatever stands behind it, is the first text, and the others are those of what stands behind it
abbrev pub FirstTextsAreCutOff : Type 0
FirstTextsAreCutOff = (entry : Labelled) (rest : List ℕ) → IsWritten entry → report_texts (text_in entry ++ rest) ≡ text_in entry ∷ report_texts rest

-- texts of reports, one behind the other, are cut back into these texts
abbrev pub TextsAreCutBack : Type 0
TextsAreCutBack = (entries : List Labelled) → All IsWritten entries → report_texts (flat_map text_in entries) ≡ map text_in entries

-- the model that a text of reports names is that of its first report
abbrev pub ModelsAreTold : Type 0
ModelsAreTold = (entry : Labelled) (rest : List ℕ) → IsWritten entry → model_in (text_in entry ++ rest) ≡ entry.report.mode
