-- The lines that tell the least load of a run, and a decomposition that puts no more on it.
use Rattle.std.specs.Prelude.{ℕ, List, ◌∷◌, ◌++◌, flat_map, codes, decimal}
use Rattle.graph_text.specs.Labels.{LabelLists}
use Rattle.report_reading.specs.Names.{names_along}
use Rattle.report_reading.specs.ReportText.{line, path_line}

-- a word, a number, and the names along a run
abbrev pub weighted_line : LabelLists → List ℕ → ℕ → List ℕ → List ℕ
weighted_line labels word number run = line (word ∷ decimal number ∷ names_along labels run)

-- the least load of a run, and the names along the run
abbrev pub least_line : LabelLists → ℕ → List ℕ → List ℕ
least_line labels least run = weighted_line labels (codes "least") least run

-- a line for each path of a decomposition, as in a report
abbrev pub path_lines : LabelLists → List (List ℕ × ℕ) → List ℕ
path_lines labels shown = flat_map (path_line labels) shown

-- the least load of a run, and a decomposition
abbrev pub run_text : LabelLists → List ℕ → ℕ → List (List ℕ × ℕ) → List ℕ
run_text labels run least shown = least_line labels least run ++ path_lines labels shown
