-- How far a check has come, and what it took of the graph text and wrote.
use Rattle.std.specs.Prelude.{◌≡◌, ◌⊎◌, ℕ, ◌+◌, ◌^◌, ◌≤◌, ◌<◌, List, [], ◌∷◌, length, Option}
use Rattle.std.proofs.Common.{sym, ◌∙◌}
use Rattle.flow_io.specs.Outside.{Selected, Starts, Unselected}
use Rattle.flow_io.specs.declared.status.Status.{Status}
use Rattle.flow_io.specs.declared.status.Status.TheVariants.{Fault}
use Rattle.graph_text.specs.Blocks.{TextBlock}
use Rattle.block_runs.specs.Underway.{EndsRight}
use Rattle.flowcheck_cli.specs.CheckLines.{AreOutcomes, outcome_lines, status_of}
use Rattle.flowcheck_cli.specs.ReportTexts.{report_texts, model_in, line_count}
use Rattle.flowcheck_cli.specs.Run.{AreLines, AreAllLines}
use Rattle.flowcheck_cli.specs.declared.checking.Checking.{Checking}
use Rattle.flowcheck_cli.specs.declared.outcome.Outcome.{Outcome}

-- the texts behind those of some first blocks
abbrev pub texts_behind : List TextBlock → List (List ℕ) → List (List ℕ)
texts_behind [] texts = texts
texts_behind (block ∷ others) [] = []
texts_behind (block ∷ others) (text ∷ texts) = texts_behind others texts

-- the line at which they begin, where the first text begins at line `at`
abbrev pub line_behind : ℕ → List TextBlock → List (List ℕ) → ℕ
line_behind at [] texts = at
line_behind at (block ∷ others) [] = at
line_behind at (block ∷ others) (text ∷ texts) = line_behind (at + line_count text) others texts

-- these blocks are checked with these outcomes, and the texts behind theirs are left
pub record HasChecked (reports : List ℕ) (checking : Checking) (shown : List TextBlock) (outcomes : List Outcome) : Type 0 where
  pub mode_is : checking.mode ≡ model_in reports
  pub outcomes_are : AreOutcomes (model_in reports) 1 shown (report_texts reports) outcomes
  pub status_is : checking.status ≡ status_of outcomes
  pub blocks_are : checking.blocks ≡ length shown
  pub texts_left : texts_behind shown (report_texts reports) ≡ report_texts checking.rest.bytes
  pub line_is : line_behind 1 shown (report_texts reports) ≡ checking.rest.line

-- the check is of short reports, and reads for the model that they name
pub record IsOfReports (checking : Checking) : Type 0 where
  pub mode_is : checking.mode ≡ model_in checking.reports.now
  pub short : length checking.reports.now < 2 ^ 30

-- the numbers of the lines that are left are small
abbrev pub IsShort : Checking → Type 0
IsShort checking = checking.rest.line + length checking.rest.bytes ≤ 2 ^ 30

-- from the first state to the second these blocks were checked, and the text is the lines of those that have a text
pub record Checks (first now : Checking) (shown : List TextBlock) (text : List ℕ) : Type 0 where
  pub begun : IsOfReports first
  pub reports_are : now.reports.now ≡ first.reports.now
  pub left_short : IsShort now
  pub outcomes : List Outcome
  pub checked : HasChecked first.reports.now now shown outcomes
  pub text_is : text ≡ outcome_lines shown outcomes

-- so the text is right, and the model stays
pub lines_are_right : (first now : Checking) (shown : List TextBlock) (text : List ℕ) → Checks first now shown text → AreLines first.reports.now shown text
lines_are_right first now shown text h = (h.outcomes, record { outcomes_are = h.checked.outcomes_are; lines_are = h.text_is })

pub model_stays : (first now : Checking) (shown : List TextBlock) (text : List ℕ) → Checks first now shown text → now.mode ≡ first.mode
model_stays first now shown text h = h.checked.mode_is ∙ sym h.begun.mode_is

-- the graph text could not be selected, or a run took it from its beginning
abbrev pub BeginsRight : List ℕ → List ℕ → Status → Option (List ℕ) → Option (Option Selected) → Option (List ℕ) → Option (List ℕ) → Type 0 → Type 0
BeginsRight graph reports status held last before now out_rose =
    ((status ≡ Fault) × Unselected last × (now ≡ before))
    ⊎ ((first : Option (Option Selected)) × Starts graph held first × EndsRight (AreLines reports) (AreAllLines reports) status first last before now out_rose)
