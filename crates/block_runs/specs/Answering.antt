-- What the calls of a worker write. `old first shown text` says that from the state `first`, which had answered nothing, to the state before the
-- call these blocks were answered by this text; `new` says so of the state after it.
use Rattle.std.specs.Prelude.{◌<◌, ◌^◌, ℕ, List, [], ◌∷◌, ◌++◌, length, Option}
use Rattle.decomposition.specs.declared.Mode.{Mode}
use Rattle.flow_io.specs.Outside.{Adds}
use Rattle.flow_io.specs.declared.status.Status.{Status}
use Rattle.graph_text.specs.Blocks.{TextBlock}
use Rattle.graph_text.specs.declared.block.Block.{Block}
use Rattle.program_runs.specs.HandedBlocks.{IsHandedFor, AreHandedFor}

-- some blocks were answered by some text
abbrev pub HasCome : {W : Type 0} → (W → List TextBlock → List ℕ → Type 0) → Type 0
HasCome {W} old = (first : W) × (shown : List TextBlock) × (text : List ℕ) × old first shown text

-- fewer than 2^32 blocks were answered by some text
abbrev pub HasAnsweredFew : {W : Type 0} → (W → List TextBlock → List ℕ → Type 0) → Type 0
HasAnsweredFew {W} old = (first : W) × (shown : List TextBlock) × (text : List ℕ) × (length shown < 2 ^ 32) × old first shown text

-- the text is right for these blocks, and a fault may cut an answer off
abbrev pub IsRightAndMayBeCut : {W : Type 0} → (W → Type 0) → (W → List TextBlock → List ℕ → Type 0) → W → List TextBlock → List ℕ → Type 0
IsRightAndMayBeCut {W} may_be_cut right first shown text = may_be_cut first × right first shown text

-- a piece was written that answers one more block
abbrev pub Answers : {W : Type 0} → Mode → Block → (W → List TextBlock → List ℕ → Type 0) → (W → List TextBlock → List ℕ → Type 0) → Option (List ℕ) → Option (List ℕ) → Type 0
Answers {W} mode block old new before now = (piece : List ℕ) × Adds before now piece
    × ((asked : TextBlock) → IsHandedFor mode asked block → (first : W) (shown : List TextBlock) (text : List ℕ) →
    old first shown text → new first (shown ++ asked ∷ []) (text ++ piece))

-- a beginning was written of a piece with which the text is right for one more block
abbrev pub IsCutOff : {W : Type 0} → Mode → Block → (W → List TextBlock → List ℕ → Type 0) → (W → List TextBlock → List ℕ → Type 0) → Option (List ℕ) → Option (List ℕ) → Type 0
IsCutOff {W} mode block old right before now = (piece : List ℕ) × (rest : List ℕ) × Adds before now piece
    × ((asked : TextBlock) → IsHandedFor mode asked block → (first : W) (shown : List TextBlock) (text : List ℕ) →
    old first shown text → right first (shown ++ asked ∷ []) (text ++ (piece ++ rest)))

-- a piece was written with which the text is right for all blocks
abbrev pub Finishes : {W : Type 0} → (W → List TextBlock → List ℕ → Type 0) → (W → List TextBlock → List ℕ → Type 0) → Option (List ℕ) → Option (List ℕ) → Type 0
Finishes {W} old whole before now = (piece : List ℕ) × Adds before now piece
    × ((first : W) (shown : List TextBlock) (text : List ℕ) → old first shown text → whole first shown (text ++ piece))

-- a beginning of such a piece was written
abbrev pub IsCutAtEnd : {W : Type 0} → (W → List TextBlock → List ℕ → Type 0) → (W → Status → List TextBlock → List ℕ → Type 0) → Option (List ℕ) → Option (List ℕ) → Type 0
IsCutAtEnd {W} old whole before now = (piece : List ℕ) × (rest : List ℕ) × (status : Status) × Adds before now piece
    × ((first : W) (shown : List TextBlock) (text : List ℕ) → old first shown text → whole first status shown (text ++ (piece ++ rest)))

-- a piece was written that answers the block that waits, if one does
abbrev pub AnswersWaiting : {W : Type 0} → Mode → Option Block → (W → List TextBlock → List ℕ → Type 0) → (W → List TextBlock → List ℕ → Type 0) → Option (List ℕ) → Option (List ℕ) → Type 0
AnswersWaiting {W} mode told old new before now = (piece : List ℕ) × Adds before now piece
    × ((waiting : List TextBlock) → AreHandedFor mode waiting told → (first : W) (shown : List TextBlock) (text : List ℕ) →
    old first shown text → new first (shown ++ waiting) (text ++ piece))

-- a beginning of such a piece was written
abbrev pub IsCutWaiting : {W : Type 0} → Mode → Option Block → (W → List TextBlock → List ℕ → Type 0) → (W → List TextBlock → List ℕ → Type 0) → Option (List ℕ) → Option (List ℕ) → Type 0
IsCutWaiting {W} mode told old right before now = (piece : List ℕ) × (rest : List ℕ) × Adds before now piece
    × ((waiting : List TextBlock) → AreHandedFor mode waiting told → (first : W) (shown : List TextBlock) (text : List ℕ) →
    old first shown text → right first (shown ++ waiting) (text ++ (piece ++ rest)))
