-- When a text is right for a block, and the status of a run.
use Rattle.std.specs.Prelude.{◌≡◌, ℕ, List, [], ◌∷◌, ◌++◌, map, Bool, true, false, if◌then◌else◌, Result, Ok, Err, codes, decimal, slice_index, ℤ}
use Rattle.std.specs.List.{list_any}
use Rattle.decomposition.specs.declared.Mode.{Mode}
use Rattle.decomposition.specs.declared.Mode.TheVariants.{Abs}
use Rattle.error_flow.specs.Certificate.{ProvesNearest}
use Rattle.error_flow.specs.Nearest.{IsNearest}
use Rattle.flow_io.specs.declared.status.Status.{Status}
use Rattle.flow_io.specs.declared.status.Status.TheVariants.{Clean, Refused}
use Rattle.graph_text.specs.Blocks.{TextBlock}
use Rattle.graph_text.specs.Reader.{handed}
use Rattle.graph_text.specs.Reading.{read}
use Rattle.graph_text.specs.declared.block.Block.{Block}
use Rattle.graph_text.specs.declared.block.RawGraph.{RawGraph}
use Rattle.report_reading.specs.ReportText.{line, graph_line, why_word}
use Rattle.report_terms.specs.declared.refusal.Refusal.{Refusal}
use Rattle.flownear_cli.specs.NearText.{found_text}

-- the model that blocks are read for: weights that need not be balanced
abbrev pub near_mode : Mode
near_mode = Abs 0

-- the weights of a graph: the bounds of each range are one number
abbrev pub weights_of : RawGraph → List ℕ
weights_of graph = map (λ r. r.lo) graph.ranges

-- the text tells a balanced flow and its change, no balanced flow is nearer to the weights of the graph, and the levels prove it
abbrev pub TellsNearest : RawGraph → List ℕ → Type 0
TellsNearest graph text = (flow : List ℕ) × (levels : List ℤ) × (total : ℕ) × IsNearest graph.net (slice_index (weights_of graph)) (slice_index flow) total
    × ProvesNearest graph.net (weights_of graph) flow levels total × (text ≡ found_text graph.labels flow levels total)

-- the line of a refusal
abbrev pub refused_line : Refusal → List ℕ
refused_line r = line (codes "refused" ∷ decimal r.line ∷ why_word r.why ∷ [])

-- the text is right for what a block is read as: the refusal, or a nearest flow with its proof
abbrev pub IsBodyText : Result RawGraph Refusal → List ℕ → Type 0
IsBodyText (Ok graph) text = TellsNearest graph text
IsBodyText (Err refusal) text = text ≡ refused_line refusal

-- the text is right for a block that was read: its number and name, what it is told of it, and the last line
abbrev pub IsTextFor : Block → List ℕ → Type 0
IsTextFor block text = (body : List ℕ) × IsBodyText block.body body
    × (text ≡ graph_line block.index block.name ++ body ++ line (codes "end" ∷ []))

-- the same for a block of a text
abbrev pub IsRightText : TextBlock → List ℕ → Type 0
IsRightText block text = IsTextFor (handed near_mode block) text

-- the text is one right text for each of these blocks, in order
abbrev pub AreRightTexts : List TextBlock → List ℕ → Type 0
AreRightTexts [] text = text ≡ []
AreRightTexts (block ∷ others) text = (first : List ℕ) × (rest : List ℕ) × (text ≡ first ++ rest) × IsRightText block first × AreRightTexts others rest

-- whether what a block is read as is a refusal
abbrev pub is_refusal : Result RawGraph Refusal → Bool
is_refusal (Ok graph) = false
is_refusal (Err refusal) = true

-- whether a block is refused
abbrev pub is_refused : TextBlock → Bool
is_refused block = is_refusal (read near_mode block)

-- the status of a run over these blocks
abbrev pub status_of : List TextBlock → Status
status_of shown = if list_any is_refused shown then Refused else Clean

-- the text is right for these blocks, which are all, and the status is that of a run over them
abbrev pub AreAllRightTexts : Status → List TextBlock → List ℕ → Type 0
AreAllRightTexts status shown text = AreRightTexts shown text × (status ≡ status_of shown)
