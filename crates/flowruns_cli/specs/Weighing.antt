-- How far the answers have come.
use Rattle.std.specs.Prelude.{ℕ, List}
use Rattle.graph_text.specs.Blocks.{TextBlock}
use Rattle.flowruns_cli.specs.RightTexts.{AreAllRightTexts}
use Rattle.flowruns_cli.specs.declared.weighing.Weighing.{Weighing}

-- these blocks were answered by right texts, and the state has the status of a run over them
abbrev pub HasAnswered : Weighing → List TextBlock → List ℕ → Type 0
HasAnswered now shown text = AreAllRightTexts now.status shown text
