-- What the text of a report is answered for a block.
use Rattle.std.specs.Prelude.{◌≡◌, ◌≢◌, ◌⊎◌, ℕ, ◌+◌, ◌-◌, List, Some, Result, Ok, Err}
use Rattle.decomposition.specs.declared.Mode.{Mode}
use Rattle.graph_text.specs.Blocks.{TextBlock}
use Rattle.graph_text.specs.Reader.{handed}
use Rattle.graph_text.specs.Reading.{instance_of}
use Rattle.graph_text.specs.declared.block.Block.{Block}
use Rattle.graph_text.specs.declared.block.RawGraph.{RawGraph}
use Rattle.report_terms.specs.declared.refusal.Refusal.{Refusal}
use Rattle.report_reading.specs.BadLines.{first_bad_line, IsTextOf}
use Rattle.report_terms.specs.declared.report.Report.{Report}
use Rattle.report_terms.specs.declared.report.Body.{Body}
use Rattle.report_terms.specs.declared.report.Body.TheVariants.{Refused}
use Rattle.cert_check.specs.Verdict.{IsAcceptedBody, BodyFailsAt as ClaimFailsAt}
use Rattle.cert_check.specs.declared.report.Verdict.{Verdict}
use Rattle.cert_check.specs.declared.report.Verdict.TheVariants.{Yes as Accepted, No as Fails}
use Rattle.program_runs.specs.HandedBlocks.{labels_of}
use Rattle.flowcheck_cli.specs.declared.outcome.Outcome.{Outcome}
use Rattle.flowcheck_cli.specs.declared.outcome.Outcome.TheVariants.{Yes, No, Unread}

-- the number in the whole file of line n of a text that begins at line `at`; all count from 1
abbrev pub line_of_file : ℕ → ℕ → ℕ
line_of_file at n = at + (n - 1)

-- the report names the block: its number and its name
pub record NamesBlock (block : Block) (report : Report) : Type 0 where
  pub index_is : report.index ≡ block.index
  pub name_is : report.name ≡ block.name

-- the report names another block
abbrev pub NamesOther : Block → Report → Type 0
NamesOther block report = (report.index ≢ block.index) ⊎ (report.name ≢ block.name)

-- a body is right: it is the same refusal as that of the block, or what it says of the graph of the block is accepted
abbrev pub IsRightBody : Mode → Result RawGraph Refusal → Body → Type 0
IsRightBody mode (Err refusal) body = body ≡ Refused refusal
IsRightBody mode (Ok graph) body = IsAcceptedBody mode (instance_of graph) body

-- a body is wrong, first at this line: line 3 where the block is refused, or where only the report refuses it
abbrev pub BodyFailsAt : Mode → Result RawGraph Refusal → Body → ℕ → Type 0
BodyFailsAt mode (Err refusal) body n = (body ≢ Refused refusal) × (n ≡ 3)
BodyFailsAt mode (Ok graph) body n = ClaimFailsAt mode (instance_of graph) body n

-- what a verdict says of a body
abbrev pub IsBodyVerdict : Mode → Result RawGraph Refusal → Body → Verdict → Type 0
IsBodyVerdict mode read body Accepted = IsRightBody mode read body
IsBodyVerdict mode read body (Fails n) = BodyFailsAt mode read body n

-- a report is right for a block: it names the block and the model, and its body is right
pub record IsRightReport (mode : Mode) (block : Block) (report : Report) : Type 0 where
  pub names : NamesBlock block report
  pub mode_is : report.mode ≡ mode
  pub body : IsRightBody mode block.body report.body

-- a report is wrong, first at line 2: it names the block and another model
pub record FailsAtModel (mode : Mode) (block : Block) (report : Report) (n : ℕ) : Type 0 where
  pub names : NamesBlock block report
  pub other : report.mode ≢ mode
  pub second : n ≡ 2

-- a report is wrong, first at a line of its body: it names the block and the model
pub record FailsInBody (mode : Mode) (block : Block) (report : Report) (n : ℕ) : Type 0 where
  pub names : NamesBlock block report
  pub mode_is : report.mode ≡ mode
  pub body : BodyFailsAt mode block.body report.body n

-- a report is wrong, and this is the first line that is wrong: line 1 where it names another block
abbrev pub ReportFailsAt : Mode → Block → Report → ℕ → Type 0
ReportFailsAt mode block report n =
    (NamesOther block report × (n ≡ 1)) ⊎ (FailsAtModel mode block report n ⊎ FailsInBody mode block report n)

-- what a verdict says of a report on a block
abbrev pub IsReportVerdict : Mode → Block → Report → Verdict → Type 0
IsReportVerdict mode block report Accepted = IsRightReport mode block report
IsReportVerdict mode block report (Fails n) = ReportFailsAt mode block report n

-- some line of a report that stands at this line of the file is the first that is wrong
abbrev pub FailsAtLine : Mode → Block → ℕ → Report → ℕ → Type 0
FailsAtLine mode block at report line = (n : ℕ) × ReportFailsAt mode block report n × (line ≡ line_of_file at n)

-- What is answered for a block that was read and a text that begins at line `at`: the text is that of a report that is right, or
-- that of a report with this first line that is wrong, or that of no report, with this first bad line.
abbrev pub IsBlockOutcome : Mode → Block → ℕ → List ℕ → Outcome → Type 0
IsBlockOutcome mode block at text Yes =
    (report : Report) × IsTextOf (labels_of block.body) report text × IsRightReport mode block report
IsBlockOutcome mode block at text (No line) =
    (report : Report) × IsTextOf (labels_of block.body) report text × FailsAtLine mode block at report line
IsBlockOutcome mode block at text (Unread line why) =
    (n : ℕ) × (first_bad_line (labels_of block.body) text ≡ Some (n, why)) × (line ≡ line_of_file at n)

-- the same for a block of a text, as it is read for the model
abbrev pub IsOutcome : Mode → TextBlock → ℕ → List ℕ → Outcome → Type 0
IsOutcome mode block at text outcome = IsBlockOutcome mode (handed mode block) at text outcome

-- a verdict on a report that begins at line `at`, with the line counted in the whole file
abbrev pub outcome_of : ℕ → Verdict → Outcome
outcome_of at Accepted = Yes
outcome_of at (Fails n) = No (line_of_file at n)
