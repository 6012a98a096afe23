-- Reports that are right for the blocks of a graph text, and what is answered for them.
use Rattle.std.specs.Prelude.{◌≡◌, ◌↔◌, ℕ, List, [], ◌∷◌, ◌++◌, flat_map, length, map}
use Rattle.decomposition.specs.declared.Mode.{Mode}
use Rattle.flow_io.specs.declared.status.Status.TheVariants.{Clean}
use Rattle.graph_text.specs.Blocks.{TextBlock, blocks}
use Rattle.graph_text.specs.Reader.{handed}
use Rattle.graph_text.specs.Reading.{read}
use Rattle.report_reading.specs.BadLines.{IsTextOf}
use Rattle.report_terms.specs.declared.report.Report.{Report}
use Rattle.flowcheck_cli.specs.CheckLines.{IsPrinted, outcome_line, status_of_all}
use Rattle.program_runs.specs.HandedBlocks.{labels_of}
use Rattle.flowcheck_cli.specs.Outcomes.{IsRightReport}
use Rattle.flowcheck_cli.specs.ReportTexts.{report_texts}
use Rattle.flowcheck_cli.specs.declared.outcome.Outcome.{Outcome}
use Rattle.flowcheck_cli.specs.declared.outcome.Outcome.TheVariants.{Yes}

-- the text is the texts of these reports, one for each block, in order, each right for its block and written by the labels of the block
abbrev pub AreRightReports : Mode → List TextBlock → List Report → List ℕ → Type 0
AreRightReports mode [] [] text = text ≡ []
AreRightReports mode [] (report ∷ reports) text = ⊥
AreRightReports mode (block ∷ others) [] text = ⊥
AreRightReports mode (block ∷ others) (report ∷ reports) text = (first : List ℕ) × (rest : List ℕ) × (text ≡ first ++ rest)
    × IsTextOf (labels_of (read mode block)) report first × IsRightReport mode (handed mode block) report × AreRightReports mode others reports rest

-- a yes for each block
abbrev pub all_yes : List TextBlock → List Outcome
all_yes shown = map (λ block. Yes) shown

-- the line of a yes for each block
abbrev pub yes_lines : List TextBlock → List ℕ
yes_lines shown = flat_map (λ block. outcome_line block.index Yes) shown

-- for reports that are right for the blocks of a graph text, a yes for each block is the one answer, and the lines of it are all that is printed
abbrev pub RightReportsAreAnsweredYes : Type 0
RightReportsAreAnsweredYes =
    (mode : Mode) (graphs text : List ℕ) (reports : List Report) (outcomes : List Outcome) (printed : List ℕ) → AreRightReports mode (blocks graphs) reports text
    → IsPrinted graphs text outcomes printed ↔ ((outcomes ≡ all_yes (blocks graphs)) × (printed ≡ yes_lines (blocks graphs)))

-- and the status of a yes for each block is clean
abbrev pub RightReportsAreClean : Type 0
RightReportsAreClean =
    (mode : Mode) (graphs text : List ℕ) (reports : List Report) → AreRightReports mode (blocks graphs) reports text
    → status_of_all (length (blocks graphs)) (length (report_texts text)) (all_yes (blocks graphs)) ≡ Clean
