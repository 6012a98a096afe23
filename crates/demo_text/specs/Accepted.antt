-- What the blocks of the generated text are read as.
use Rattle.std.specs.Prelude.{◌≡◌, ℕ, [], length, All, IsOkAnd}
use Rattle.decomposition.specs.declared.Mode.TheVariants.{Exact}
use Rattle.graph_text.specs.Blocks.{TextBlock, blocks}
use Rattle.graph_text.specs.Reading.{read}
use Rattle.demo_text.specs.Demo.{demo_text}

-- the block is read as a graph of the exact model, without runs that must be covered
abbrev pub IsPlain : TextBlock → Type 0
IsPlain block = IsOkAnd (read Exact block) (λ graph. graph.runs ≡ [])

-- the text of each seed has 40 blocks, and each is read as such a graph
abbrev pub BlocksAreAccepted : Type 0
BlocksAreAccepted = (seed : ℕ) → (length (blocks (demo_text seed)) ≡ 40) × All IsPlain (blocks (demo_text seed))
