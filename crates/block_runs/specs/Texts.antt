-- The texts that are right for blocks, and beginnings of them. `right` holds of a text that is right for blocks behind which more may come, and
-- `whole` of one that is right for all blocks of an input, with the status of the run.
use Rattle.std.specs.Prelude.{◌≡◌, ◌⊎◌, ℕ, List, [], ◌++◌, take, Option, Some}
use Rattle.flow_io.specs.Outside.{Adds}
use Rattle.flow_io.specs.declared.status.Status.{Status}
use Rattle.graph_text.specs.Blocks.{TextBlock, blocks}
use Rattle.program_runs.specs.HandedBlocks.{blocks_at}

-- a text of which P holds was written
abbrev pub Wrote : (List ℕ → Type 0) → Option (List ℕ) → Option (List ℕ) → Type 0
Wrote P before now = (text : List ℕ) × P text × Adds before now text

-- the text is right for some first ones of these blocks
abbrev pub IsFirst : (List TextBlock → List ℕ → Type 0) → List TextBlock → List ℕ → Type 0
IsFirst right shown text = (n : ℕ) × right (take n shown) text

-- the text is a beginning of one that is right for some first ones of these blocks
abbrev pub Begins : (List TextBlock → List ℕ → Type 0) → List TextBlock → List ℕ → Type 0
Begins right shown text = (rest : List ℕ) × IsFirst right shown (text ++ rest)

-- the text is a beginning of one that is right for all of these blocks
abbrev pub BeginsWhole : (Status → List TextBlock → List ℕ → Type 0) → List TextBlock → List ℕ → Type 0
BeginsWhole whole shown text = (rest : List ℕ) × (status : Status) × whole status shown (text ++ rest)

-- the text is a beginning of what may be written when these are all blocks
abbrev pub BeginsEnd : (List TextBlock → List ℕ → Type 0) → (Status → List TextBlock → List ℕ → Type 0) → List TextBlock → List ℕ → Type 0
BeginsEnd right whole shown text = Begins right shown text ⊎ BeginsWhole whole shown text

-- the text is a beginning of what may be written after these bytes, with so many left
abbrev pub BeginsAt : (List TextBlock → List ℕ → Type 0) → (Status → List TextBlock → List ℕ → Type 0) → List ℕ → Option (List ℕ) → List ℕ → Type 0
BeginsAt right whole bytes left text = Begins right (blocks_at bytes left) text ⊎ ((left ≡ Some []) × BeginsWhole whole (blocks bytes) text)
