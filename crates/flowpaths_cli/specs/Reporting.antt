-- How far the reports have come.
use Rattle.std.specs.Prelude.{◌≡◌, ℕ, List}
use Rattle.std.proofs.Common.{ap}
use Rattle.graph_text.specs.Blocks.{TextBlock}
use Rattle.flowpaths_cli.specs.declared.reporting.Reporting.{Reporting}
use Rattle.flowpaths_cli.specs.declared.settings.Settings.{Settings}
use Rattle.flowpaths_cli.specs.Right.{AreBuilt}
use Rattle.flowpaths_cli.specs.Run.{IsOutputWith}

-- from the first state to the second one right report for each of these blocks was written, and the second one has the status of these reports
pub record HasReported (first now : Reporting) (shown : List TextBlock) (text : List ℕ) : Type 0 where
  pub built : AreBuilt first.settings.now
  pub settings_are : now.settings.now ≡ first.settings.now
  pub output : IsOutputWith first.settings.now now.status shown text

pub model_stays : (first now : Reporting) (shown : List TextBlock) (text : List ℕ) → HasReported first now shown text → now.settings.now.mode ≡ first.settings.now.mode
model_stays first now shown text h = ap (λ (s : Settings). s.mode) h.settings_are
