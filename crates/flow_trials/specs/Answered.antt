-- What one program writes, and what the other answers.
use Rattle.std.specs.Prelude.{◌≡◌, ◌↔◌, ℕ, List}
use Rattle.flowcheck_cli.specs.CheckLines.{IsPrinted}
use Rattle.flowcheck_cli.specs.RightReports.{all_yes, yes_lines}
use Rattle.flowcheck_cli.specs.declared.outcome.Outcome.{Outcome}
use Rattle.flowpaths_cli.specs.Right.{AreBuilt}
use Rattle.flowpaths_cli.specs.Run.{IsOutput}
use Rattle.flowpaths_cli.specs.declared.settings.Settings.{Settings}
use Rattle.graph_text.specs.Blocks.{blocks}

-- for an output of `flowpaths` for the blocks of a graph text, a yes for each block is the one answer of `flowcheck`, and the lines of it are
-- all that it prints
abbrev pub OutputsAreAnsweredYes : Type 0
OutputsAreAnsweredYes =
    (s : Settings) (graphs text : List ℕ) (outcomes : List Outcome) (printed : List ℕ) → AreBuilt s → IsOutput s (blocks graphs) text
    → IsPrinted graphs text outcomes printed ↔ ((outcomes ≡ all_yes (blocks graphs)) × (printed ≡ yes_lines (blocks graphs)))
