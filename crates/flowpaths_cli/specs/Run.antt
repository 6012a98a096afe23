-- What a run of the top call took and wrote.
pub use Rattle.program_runs.specs.Inputs.{Seen, WhereSeen, left_of, bytes_without, taken, TakesFirst, IsDone}
pub use Rattle.program_runs.specs.Writing.{WhereWritten, Notes}
pub use Rattle.program_runs.specs.HandedBlocks.{blocks_at}
pub use Rattle.block_runs.specs.Run.{HasEnded}
use Rattle.block_runs.specs.Run.{Reads as ReadsBlocks}
use Rattle.block_runs.specs.Texts.{IsFirst, Begins}
use Rattle.std.specs.Prelude.{◌≡◌, ℕ, List, [], ◌∷◌, ◌++◌, codes}
use Rattle.flow_io.specs.declared.status.Status.{Status}
use Rattle.flow_io.specs.declared.status.Status.TheVariants.{Clean, Partial, Refused, Words, Fault, Memory, Long}
use Rattle.graph_text.specs.Blocks.{TextBlock, blocks, complete}
use Rattle.report_terms.specs.declared.report.Report.{Report}
use Rattle.flowpaths_cli.specs.Right.{IsReportOf, status_of}
use Rattle.flowpaths_cli.specs.declared.settings.Settings.{Settings}

-- the blocks that may be reported
abbrev pub shown : List ℕ → Seen → List TextBlock
shown file seen = blocks_at (taken file seen) (left_of file seen.last)

-- the text is the texts of these reports, one for each block, in order, each right and true for its block
abbrev pub AreReports : Settings → List TextBlock → List Report → List ℕ → Type 0
AreReports s [] [] text = text ≡ []
AreReports s [] (report ∷ reports) text = ⊥
AreReports s (block ∷ others) [] text = ⊥
AreReports s (block ∷ others) (report ∷ reports) text = (first : List ℕ) × (rest : List ℕ) × (text ≡ first ++ rest)
    × IsReportOf s block report first × AreReports s others reports rest

-- the text is an output for these blocks: the texts of one right report for each of them
abbrev pub IsOutput : Settings → List TextBlock → List ℕ → Type 0
IsOutput s blocks text = (reports : List Report) × AreReports s blocks reports text

-- the text is an output for these blocks, and the status is that of its reports
abbrev pub IsOutputWith : Settings → Status → List TextBlock → List ℕ → Type 0
IsOutputWith s status blocks text = (reports : List Report) × AreReports s blocks reports text × (status ≡ status_of reports)

-- the text is an output for some first ones of these blocks
abbrev pub IsFirstOutput : Settings → List TextBlock → List ℕ → Type 0
IsFirstOutput s blocks text = IsFirst (IsOutput s) blocks text

-- the text is a beginning of an output for some first ones of these blocks
abbrev pub BeginsOutput : Settings → List TextBlock → List ℕ → Type 0
BeginsOutput s blocks text = Begins (IsOutput s) blocks text

-- what a run with this status took of its input
abbrev pub Reads : Settings → Status → Seen → Type 0
Reads s status seen = ReadsBlocks (IsOutputWith s) s.file status seen

-- what a run with this status wrote
pub record Writes (s : Settings) (status : Status) (out_rose : Type 0) (seen : Seen) (text : List ℕ) : Type 0 where
  pub done : IsDone status → IsOutputWith s status (blocks (taken s.file seen)) text
  pub long : status ≡ Long → IsOutput s (complete (taken s.file seen)) text
  pub fault : status ≡ Fault → BeginsOutput s (shown s.file seen) text
  pub written : status ≡ Fault → (out_rose → ⊥) → IsOutput s (complete (taken s.file seen)) text
  pub memory : status ≡ Memory → IsFirstOutput s (shown s.file seen) text

-- the line of each answer for `notes`
abbrev pub note_of : Status → List ℕ
note_of Clean = []
note_of Partial = []
note_of Refused = []
note_of Words = codes "usage: flowpaths [--model exact|interval|abs] [--paths K] [--nodes N] [--safe] [--demo SEED] [FILE]\n"
note_of Fault = codes "flowpaths: read or write fault\n"
note_of Memory = codes "flowpaths: out of memory\n"
note_of Long = codes "flowpaths: input too long\n"
