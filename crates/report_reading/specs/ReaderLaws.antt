-- What holds of the texts of reports.
use Rattle.std.specs.Prelude.{◌≡◌, ◌↔◌, ℕ, List, None}
use Rattle.graph_text.specs.Labels.{LabelLists, AreLabels}
use Rattle.report_terms.specs.declared.report.Report.{Report}
use Rattle.report_reading.specs.BadLines.{first_bad_line, IsTextOf}

-- a text is that of one regular report at most
abbrev pub TextsAreOfOneReport : Type 0
TextsAreOfOneReport =
    (labels : LabelLists) (one other : Report) (text : List ℕ) → AreLabels labels → IsTextOf labels one text → IsTextOf labels other text → one ≡ other

-- no line of a text is bad exactly where it is the text of a regular report
abbrev pub BadLinesAreOfNoReport : Type 0
BadLinesAreOfNoReport =
    (labels : LabelLists) (text : List ℕ) → AreLabels labels → (first_bad_line labels text ≡ None) ↔ ((report : Report) × IsTextOf labels report text)
