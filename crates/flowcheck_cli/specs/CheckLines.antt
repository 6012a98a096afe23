-- The lines that are printed for a graph text and a text of reports, and the status of a run.
use Rattle.std.specs.Prelude.{◌≡◌, ℕ, ◌+◌, ◌==◌, List, [], ◌∷◌, ◌++◌, length, Bool, true, false, not, if◌then◌else◌, codes, decimal}
use Rattle.std.specs.List.{list_any}
use Rattle.decomposition.specs.declared.Mode.{Mode}
use Rattle.flow_io.specs.declared.status.Status.{Status}
use Rattle.flow_io.specs.declared.status.Status.TheVariants.{Clean, Partial, Refused}
use Rattle.graph_text.specs.Blocks.{TextBlock, blocks}
use Rattle.report_reading.specs.ReportText.{line}
use Rattle.report_reading.specs.declared.read_fault.ReadWhy.{ReadWhy}
use Rattle.report_reading.specs.declared.read_fault.ReadWhy.TheVariants.{BadForm, BadNumber, BadName, BadOrder, NoEnd}
use Rattle.flowcheck_cli.specs.Outcomes.{IsOutcome}
use Rattle.flowcheck_cli.specs.ReportTexts.{report_texts, model_in, line_count}
use Rattle.flowcheck_cli.specs.declared.outcome.Outcome.{Outcome}
use Rattle.flowcheck_cli.specs.declared.outcome.Outcome.TheVariants.{Yes, No, Unread}

-- the word of a cause
abbrev pub cause_word : ReadWhy → List ℕ
cause_word BadForm = codes "BadForm"
cause_word BadNumber = codes "BadNumber"
cause_word BadName = codes "BadName"
cause_word BadOrder = codes "BadOrder"
cause_word NoEnd = codes "NoEnd"

-- the fields that tell an outcome
abbrev pub outcome_fields : Outcome → List (List ℕ)
outcome_fields Yes = codes "yes" ∷ []
outcome_fields (No at) = codes "no" ∷ decimal at ∷ []
outcome_fields (Unread at why) = codes "unread" ∷ decimal at ∷ cause_word why ∷ []

-- the line of the block with this number
abbrev pub outcome_line : ℕ → Outcome → List ℕ
outcome_line index outcome = line (codes "graph" ∷ decimal index ∷ outcome_fields outcome)

-- the line of both numbers, where they differ
abbrev pub counts_line : ℕ → ℕ → List ℕ
counts_line blocks reports = line (codes "blocks" ∷ decimal blocks ∷ codes "reports" ∷ decimal reports ∷ [])

abbrev pub counts_line_if_other : ℕ → ℕ → List ℕ
counts_line_if_other blocks reports = if blocks == reports then [] else counts_line blocks reports

-- The outcomes for blocks and texts of the same places, the first text beginning at line `at`. What has no partner has no outcome.
abbrev pub AreOutcomes : Mode → ℕ → List TextBlock → List (List ℕ) → List Outcome → Type 0
AreOutcomes mode at [] texts outcomes = outcomes ≡ []
AreOutcomes mode at (block ∷ others) [] outcomes = outcomes ≡ []
AreOutcomes mode at (block ∷ others) (text ∷ texts) outcomes =
    (outcome : Outcome) × (rest : List Outcome) × (outcomes ≡ outcome ∷ rest) × IsOutcome mode block at text outcome
    × AreOutcomes mode (at + line_count text) others texts rest

-- the lines of these outcomes, each with the number of its block
abbrev pub outcome_lines : List TextBlock → List Outcome → List ℕ
outcome_lines [] outcomes = []
outcome_lines (block ∷ others) [] = []
outcome_lines (block ∷ others) (outcome ∷ outcomes) = outcome_line block.index outcome ++ outcome_lines others outcomes

-- the lines of some blocks that have a text, and their outcomes
pub record ArePrinted (reports : List ℕ) (shown : List TextBlock) (outcomes : List Outcome) (printed : List ℕ) : Type 0 where
  pub outcomes_are : AreOutcomes (model_in reports) 1 shown (report_texts reports) outcomes
  pub lines_are : printed ≡ outcome_lines shown outcomes

-- All that is printed for all blocks of a graph text and a text of reports, and the outcomes: the lines of all blocks that have a text, and
-- where the numbers of blocks and texts differ a line of both.
pub record AreAllPrinted (shown : List TextBlock) (reports : List ℕ) (outcomes : List Outcome) (printed : List ℕ) : Type 0 where
  pub outcomes_are : AreOutcomes (model_in reports) 1 shown (report_texts reports) outcomes
  pub lines_are : printed ≡ outcome_lines shown outcomes ++ counts_line_if_other (length shown) (length (report_texts reports))

-- the same for a graph text
abbrev pub IsPrinted : List ℕ → List ℕ → List Outcome → List ℕ → Type 0
IsPrinted graphs reports outcomes printed = AreAllPrinted (blocks graphs) reports outcomes printed

abbrev pub is_yes : Outcome → Bool
is_yes Yes = true
is_yes (No at) = false
is_yes (Unread at why) = false

abbrev pub is_unread : Outcome → Bool
is_unread Yes = false
is_unread (No at) = false
is_unread (Unread at why) = true

-- the status of these outcomes: refused where a text is that of no report, else partial where an outcome is no yes
abbrev pub status_of : List Outcome → Status
status_of outcomes =
    if list_any is_unread outcomes then Refused
    else (if list_any (λ outcome. not (is_yes outcome)) outcomes then Partial else Clean)

-- the status of a whole run: refused also where the numbers of blocks and texts differ
abbrev pub status_of_all : ℕ → ℕ → List Outcome → Status
status_of_all blocks reports outcomes = if blocks == reports then status_of outcomes else Refused
