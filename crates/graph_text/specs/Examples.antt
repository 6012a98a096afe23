-- What the blocks of a text are read as, and long texts for examples.
use Rattle.std.specs.Prelude.{ℕ, List, [], ◌++◌, map, Result, flat_map, replicate, codes, decimal}
use Rattle.std.specs.List.{enumerate_from}
use Rattle.decomposition.specs.declared.Mode.{Mode}
use Rattle.report_terms.specs.declared.refusal.Refusal.{Refusal}
use Rattle.graph_text.specs.declared.block.RawGraph.{RawGraph}
use Rattle.graph_text.specs.Blocks.{blocks}
use Rattle.graph_text.specs.Reading.{read}

-- what each block of a text is read as
abbrev pub reads : Mode → List ℕ → List (Result RawGraph Refusal)
reads mode text = map (read mode) (blocks text)

-- so many `#S` lines, each of one of these edges
abbrev pub run_lines : ℕ → List ℕ
run_lines n = flat_map (λ p. codes "#S s v" ++ decimal p.0 ++ codes "\n") (enumerate_from {X = List ℕ} 1 (replicate n []))
