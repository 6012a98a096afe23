-- How far the answers have come.
use Rattle.std.specs.Prelude.{ℕ, List}
use Rattle.graph_text.specs.Blocks.{TextBlock}
use Rattle.flownear_cli.specs.RightTexts.{AreAllRightTexts}
use Rattle.flownear_cli.specs.declared.nearing.Nearing.{Nearing}

-- these blocks were answered by right texts, and the state has the status of a run over them
abbrev pub HasAnswered : Nearing → List TextBlock → List ℕ → Type 0
HasAnswered now shown text = AreAllRightTexts now.status shown text
