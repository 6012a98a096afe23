-- What the answer to a text writes.
use Rattle.std.specs.Prelude.{◌≡◌, ◌⊎◌, ℕ, List, [], ◌++◌, Option}
use Rattle.block_runs.specs.Texts.{Wrote}
use Rattle.flow_io.specs.Outside.{Adds}
use Rattle.flow_io.specs.declared.status.Status.{Status}
use Rattle.flow_io.specs.declared.status.Status.TheVariants.{Words, Fault, Memory, Long}
use Rattle.program_runs.specs.Inputs.{IsDone}

-- a text and a status are these
abbrev pub Told : List ℕ → Status → Status → List ℕ → Type 0
Told whole done status text = (text ≡ whole) × (status ≡ done)

-- the text is a beginning of a right one
abbrev pub Begins : (Status → List ℕ → Type 0) → List ℕ → Type 0
Begins right text = (rest : List ℕ) × (status : Status) × right status (text ++ rest)

-- A right text was written with its status, a beginning of one after a fault, and nothing where memory was wanting.
pub record Answered (right : Status → List ℕ → Type 0) (status : Status) (before now : Option (List ℕ)) : Type 0 where
  pub not_words : status ≡ Words → ⊥
  pub not_long : status ≡ Long → ⊥
  pub done : IsDone status → Wrote (right status) before now
  pub fault : status ≡ Fault → Wrote (Begins right) before now
  pub memory : status ≡ Memory → Wrote (λ text. text ≡ []) before now

-- a beginning of the text was added
abbrev pub AddsBeginning : Option (List ℕ) → Option (List ℕ) → List ℕ → Type 0
AddsBeginning before now text = (sent : List ℕ) × (lost : List ℕ) × (sent ++ lost ≡ text) × Adds before now sent
