-- When a text is right for a block, and the status of a run of the program.
use Rattle.std.specs.Prelude.{◌≡◌, ℕ, List, [], ◌∷◌, ◌++◌, map, Bool, true, false, if◌then◌else◌, Result, Ok, Err, codes, slice_index}
use Rattle.std.specs.List.{list_any, IsDistinct}
use Rattle.decomposition.specs.declared.Mode.{Mode}
use Rattle.decomposition.specs.declared.Mode.TheVariants.{Exact}
use Rattle.decomposition.specs.Answer.{IsInReportOrder, same_path}
use Rattle.decomposition.specs.Flow.{Decomposes}
use Rattle.flow_io.specs.declared.status.Status.{Status}
use Rattle.flow_io.specs.declared.status.Status.TheVariants.{Clean, Refused}
use Rattle.graph_text.specs.Blocks.{TextBlock}
use Rattle.graph_text.specs.Reader.{handed}
use Rattle.graph_text.specs.Reading.{read}
use Rattle.graph_text.specs.declared.block.Block.{Block}
use Rattle.graph_text.specs.declared.block.RawGraph.{RawGraph}
use Rattle.report_reading.specs.ReportText.{line, graph_line}
use Rattle.report_terms.specs.declared.refusal.Refusal.{Refusal}
use Rattle.run_weight.specs.Loads.{load, IsLeastLoad}
use Rattle.text_lines.specs.TextLines.{refused_line}
use Rattle.flowruns_cli.specs.RunText.{run_text}

-- the model that blocks are read for: weights that are balanced
abbrev pub runs_mode : Mode
runs_mode = Exact

-- the weights of a graph: the bounds of each range are one number
abbrev pub weights_of : RawGraph → List ℕ
weights_of graph = map (λ r. r.lo) graph.ranges

-- The text tells a number and shows a list of weighted paths: the number is the least load of the run over all decompositions of the weights, and
-- the list is a decomposition that puts this load on the run, in report order and without a path twice.
pub record TellsRun (graph : RawGraph) (run text : List ℕ) : Type 0 where
  pub least : ℕ
  pub shown : List (List ℕ × ℕ)
  pub is_least : IsLeastLoad graph.net (slice_index (weights_of graph)) run least
  pub decomposes : Decomposes graph.net (slice_index (weights_of graph)) shown
  pub attains : load shown run ≡ least
  pub order : IsInReportOrder shown
  pub once : IsDistinct same_path shown
  pub is_text : text ≡ run_text graph.labels run least shown

-- the text tells so of each of these runs, in order
abbrev pub TellsRuns : RawGraph → List (List ℕ) → List ℕ → Type 0
TellsRuns graph [] text = text ≡ []
TellsRuns graph (run ∷ runs) text = (first : List ℕ) × (rest : List ℕ) × (text ≡ first ++ rest) × TellsRun graph run first × TellsRuns graph runs rest

-- the text is right for what a block is read as: the refusal, or the least load of each run that is asked for
abbrev pub IsBodyText : Result RawGraph Refusal → List ℕ → Type 0
IsBodyText (Ok graph) text = TellsRuns graph graph.runs text
IsBodyText (Err refusal) text = text ≡ refused_line refusal

-- the text is right for a block that was read: its number and name, what it is told of it, and the last line
abbrev pub IsTextFor : Block → List ℕ → Type 0
IsTextFor block text = (body : List ℕ) × IsBodyText block.body body
    × (text ≡ graph_line block.index block.name ++ body ++ line (codes "end" ∷ []))

-- the same for a block of a text
abbrev pub IsRightText : TextBlock → List ℕ → Type 0
IsRightText block text = IsTextFor (handed runs_mode block) text

-- the text is one right text for each of these blocks, in order
abbrev pub AreRightTexts : List TextBlock → List ℕ → Type 0
AreRightTexts [] text = text ≡ []
AreRightTexts (block ∷ others) text = (first : List ℕ) × (rest : List ℕ) × (text ≡ first ++ rest) × IsRightText block first × AreRightTexts others rest

-- whether what a block is read as is a refusal
abbrev pub is_refusal : Result RawGraph Refusal → Bool
is_refusal (Ok graph) = false
is_refusal (Err refusal) = true

-- whether a block is refused
abbrev pub is_refused : TextBlock → Bool
is_refused block = is_refusal (read runs_mode block)

-- the status of a run over these blocks
abbrev pub status_of : List TextBlock → Status
status_of shown = if list_any is_refused shown then Refused else Clean

-- the text is right for these blocks, which are all, and the status is that of a run over them
abbrev pub AreAllRightTexts : Status → List TextBlock → List ℕ → Type 0
AreAllRightTexts status shown text = AreRightTexts shown text × (status ≡ status_of shown)
