-- How far the block of a split graph is solved.
use Rattle.std.specs.Prelude.{◌≡◌, ℕ, List, [], ◌∷◌, Some, IfSome, IsTrue}
use Rattle.std.proofs.Common.{ap, sym, ◌∙◌}
use Rattle.flow_io.specs.declared.status.Status.{Status}
use Rattle.flowpaths_cli.specs.Right.{IsReportOf}
use Rattle.flowpaths_cli.specs.declared.settings.Settings.{Settings}
use Rattle.graph_text.specs.Blocks.{TextBlock}
use Rattle.node_weights.specs.NodeText.{NodeLists}
use Rattle.report_reading.specs.ReportText.{is_regular, text_of}
use Rattle.flownodes_cli.specs.RightTexts.{split_settings, IsRoutedText}
use Rattle.flownodes_cli.specs.declared.routing.Routing.{Routing}
use Rattle.flownodes_cli.specs.declared.routing.Told.{Told}

-- what is kept of this block is its right report
pub record IsTold (now : Routing) (block : TextBlock) : Type 0 where
  pub kept : Told
  pub is_kept : now.told ≡ Some kept
  pub right : IsReportOf split_settings block kept.report (text_of kept.labels kept.report)

-- from the first state to the second these blocks were read: where they are one block, its report is kept, and nothing was written
pub record HasTold (first now : Routing) (shown : List TextBlock) (text : List ℕ) : Type 0 where
  pub settings_first : first.settings.now ≡ split_settings
  pub settings_now : now.settings.now ≡ split_settings
  pub graph_is : now.graph.now ≡ first.graph.now
  pub writable : IfSome now.told (λ kept. IsTrue (is_regular kept.labels kept.report))
  pub told : (block : TextBlock) → shown ≡ block ∷ [] → IsTold now block
  pub nothing : text ≡ []

-- where the blocks are one block, the text tells its report and the routes, and the status is that of the report
abbrev pub IsToldWith : NodeLists → Status → List TextBlock → List ℕ → Type 0
IsToldWith g status shown text = (block : TextBlock) → shown ≡ block ∷ [] → IsRoutedText g block status text

pub model_stays : (first now : Routing) (shown : List TextBlock) (text : List ℕ) → HasTold first now shown text → now.settings.now.mode ≡ first.settings.now.mode
model_stays first now shown text h = ap (λ (s : Settings). s.mode) (h.settings_now ∙ sym h.settings_first)
