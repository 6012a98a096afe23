-- How far a run has come: what it took of its input, and what it wrote.
use Rattle.std.specs.Prelude.{◌≡◌, ◌⊎◌, ◌^◌, ℕ, ◌≤◌, ◌<◌, List, ◌++◌, length, false, Option, None, Result, Ok, Err}
use Rattle.decomposition.specs.declared.Mode.{Mode}
use Rattle.flow_io.specs.Outside.{Selected, Took}
use Rattle.flow_io.specs.declared.status.Status.{Status}
use Rattle.flow_io.specs.declared.status.Status.TheVariants.{Words, Fault, Memory, Long}
use Rattle.graph_text.specs.Blocks.{TextBlock, blocks, complete}
use Rattle.graph_text.specs.Reader.{StandsFor, mode_of, waiting_of, has_failed, has_finished}
use Rattle.graph_text.specs.declared.reader.BlockReader.{BlockReader}
use Rattle.program_runs.specs.Inputs.{IsDone, IsAtEnd}
use Rattle.block_runs.specs.declared.stop.Stop.{Stop}
use Rattle.block_runs.specs.declared.stop.Stop.TheVariants.{Memory as OutOfMemory, Fault as Failed}
use Rattle.block_runs.specs.Texts.{Wrote, IsFirst, Begins, BeginsEnd}

-- Between two pieces of the input: the reader stands for the bytes taken, and each complete block is answered. `now` is what the worker's state says.
pub record Underway (mode : Mode) (now : List TextBlock → List ℕ → Type 0) (reader : BlockReader) (bytes : List ℕ) (before written : Option (List ℕ)) : Type 0 where
  pub stands : StandsFor reader bytes
  pub none_waits : waiting_of reader ≡ None
  pub works : has_failed reader ≡ false
  pub goes_on : has_finished reader ≡ false
  pub mode_is : mode_of reader ≡ mode
  pub wrote : Wrote (now (complete bytes)) before written

-- bytes that a run may take: fewer than 2^63, with fewer than 2^32 complete blocks
pub record MayBeTaken (bytes : List ℕ) : Type 0 where
  pub short : length bytes < 2 ^ 63
  pub few : length (complete bytes) < 2 ^ 32

-- the run is between two pieces, and may take these bytes more
abbrev pub IsUnderway : {W : Type 0} → (W → Mode) → (W → List TextBlock → List ℕ → Type 0) → BlockReader → List ℕ → Option (List ℕ) → Type 0
IsUnderway {W} mode now reader more written =
    (first : W) × (bytes : List ℕ) × (before : Option (List ℕ)) × MayBeTaken (bytes ++ more) × Underway (mode first) (now first) reader bytes before written

-- What a run took and wrote, by its status. Where the input was seen to end, the last block counts among those that may be answered.
pub record EndsRight (right : List TextBlock → List ℕ → Type 0) (whole : Status → List TextBlock → List ℕ → Type 0) (status : Status)
    (first last : Option (Option Selected)) (before now : Option (List ℕ)) (out_rose : Type 0) : Type 0 where
  pub bytes : List ℕ
  pub took : Took first last bytes
  pub most : length bytes ≤ 2 ^ 30
  pub not_words : status ≡ Words → ⊥
  pub done : IsDone status → IsAtEnd last × (length bytes < 2 ^ 30) × Wrote (whole status (blocks bytes)) before now
  pub long : status ≡ Long → (length bytes ≡ 2 ^ 30) × Wrote (right (complete bytes)) before now
  pub fault : status ≡ Fault → Wrote (Begins right (complete bytes)) before now ⊎ (IsAtEnd last × Wrote (BeginsEnd right whole (blocks bytes)) before now)
  pub written : status ≡ Fault → (out_rose → ⊥) → Wrote (right (complete bytes)) before now
  pub memory : status ≡ Memory → Wrote (IsFirst right (complete bytes)) before now ⊎ (IsAtEnd last × Wrote (IsFirst right (blocks bytes)) before now)

-- What a run over a text in memory wrote, by its status. `cut` holds of a text in which a fault may cut an answer off.
pub record EndsText (cut right : List TextBlock → List ℕ → Type 0) (whole : Status → List TextBlock → List ℕ → Type 0) (bytes : List ℕ) (status : Status)
    (before now : Option (List ℕ)) : Type 0 where
  pub not_words : status ≡ Words → ⊥
  pub not_long : status ≡ Long → ⊥
  pub done : IsDone status → Wrote (whole status (blocks bytes)) before now
  pub fault : status ≡ Fault → Wrote (BeginsEnd cut whole (blocks bytes)) before now
  pub memory : status ≡ Memory → Wrote (IsFirst right (blocks bytes)) before now

-- the status of a run that ended so
abbrev pub status_at : Result Status Stop → Status
status_at (Ok status) = status
status_at (Err OutOfMemory) = Memory
status_at (Err Failed) = Fault
